-- `stealing::go_on` meets its contract.
use mathlib.Core.Path.{◌≡◌, refl, sym, ◌∙◌}
use Prim.Native.Nat.{ℕ, ◌+◌, ◌<◌}
use mathlib.Core.Bool.{Bool, true, ◌&&◌}
use native.Mathlib.Omega.{arith}
use borrow.Author.Tests.{ltb-true}
use lib.Dec.{ltb}
use Rattle.table.specs.Format.{table_of}
use Rattle.array_machine.specs.Turn.{next_fits}
use Rattle.array_machine.proofs.Leaves.{fits16, fits_and}
use Rattle.run_memory.specs.Blocks.{bytes_in, words_in, numbers_in, sums_in, memory_of}
use Rattle.run_memory.proofs.Takes.{codes, arguments}
use Rattle.stealing.proofs.Goes.{counted_as, no_thread_read, ends_read, other_read, fork_unfit_read, fork_read, wait_read, join_read}
use Rattle.stealing.proofs.go_on.Goals.{then-code-eq-JOIN+else-runs_on, else-code-eq-JOIN}
use Rattle.stealing.proofs.go_on.Goals as goal

small : {x : ℕ} → x < 1024 → x < 65536
small h = omega (arith, h)

-- what the test says
inside : {f : Bool} (a x : ℕ) → f ≡ true → f ≡ (next_fits a && ltb x 1024) → (a + 1 < 65536) × (x < 1024)
inside a x e d =
    let p : (a + 1 < 65536) × (ltb x 1024 ≡ true) = fits_and a (ltb x 1024) e d in
    (p.0, ltb-true x 1024 p.1)

pub returns-then-t-ge-NO_THREAD-clause-turn_value : goal.returns-then-t-ge-NO_THREAD-clause-turn_value
returns-then-t-ge-NO_THREAD-clause-turn_value c =
    let s = c.args.table.now in
    let w = c.args.w in
    let M = memory_of c.args.bytes.now c.args.words.now c.args.numbers.now c.args.sums.now in
    λ v. (no_thread_read s w v M c.requires c.thread_at-t.ensures refl c.if-t-ge-NO_THREAD.true)

pub returns-then-code-eq-END-clause-turn_value : goal.returns-then-code-eq-END-clause-turn_value
returns-then-code-eq-END-clause-turn_value c =
    let x2 = c in
    let e1 = x2 in
    let x1 = e1 in
    let d = x1 in
    let s = d.args.table.now in
    let w = d.args.w in
    let M = memory_of d.args.bytes.now d.args.words.now d.args.numbers.now d.args.sums.now in
    let C = codes s c.bodies-actions.ensures c.threads.ensures.value in
    let G = arguments s c.bodies-actions.ensures c.threads.ensures.value in
    let a = x2.row_at-a.result in
    let i = c.code_in-code.ensures ∙ (λ j. sym C j a) in
    λ v.
    (counted_as (bytes_in c.end.new.bytes) (words_in c.end.new.words) (numbers_in c.end.new.numbers) (sums_in d.args.sums.now) c.count.ensures
    (ends_read s w v M d.requires x1.thread_at-t.ensures x2.row_at-a.ensures e1.if-t-ge-NO_THREAD.false i c.if-code-eq-END.true (c.end.ensures (table_of s) (sums_in d.args.sums.now) C G)))

pub returns-then-not-fork_fits-clause-turn_value : goal.returns-then-not-fork_fits-clause-turn_value
returns-then-not-fork_fits-clause-turn_value c =
    let b = c in
    let n = b in
    let x2 = n in
    let e1 = x2 in
    let x1 = e1 in
    let d = x1 in
    let s = d.args.table.now in
    let w = d.args.w in
    let M = memory_of d.args.bytes.now d.args.words.now d.args.numbers.now d.args.sums.now in
    let C = codes s b.bodies-actions.ensures n.threads.ensures.value in
    let G = arguments s b.bodies-actions.ensures n.threads.ensures.value in
    let a = x2.row_at-a.result in
    let i = c.code_in-code.ensures ∙ (λ j. sym C j a) in
    λ v.
    (fork_unfit_read s w v M d.requires x1.thread_at-t.ensures x2.row_at-a.ensures e1.if-t-ge-NO_THREAD.false i (c.argument_in-x.ensures.value ∙ (λ j. sym G j a)) c.if-code-eq-FORK.true c.fork_fits.ensures c.if-not-fork_fits.true)

pub overflow_cast-x : goal.overflow_cast-x
overflow_cast-x c =
    fits16 (small (inside c.row_at-a.result _ c.if-not-fork_fits.false c.fork_fits.ensures).1)

pub fork-requires : goal.fork-requires
fork-requires c = let b = c in
    let n = b in
    let x2 = n in
    let e1 = x2 in
    let x1 = e1 in
    let d = x1 in
    let s = d.args.table.now in
    let w = d.args.w in
    let M = memory_of d.args.bytes.now d.args.words.now d.args.numbers.now d.args.sums.now in
    let C = codes s b.bodies-actions.ensures n.threads.ensures.value in
    let G = arguments s b.bodies-actions.ensures n.threads.ensures.value in
    let a = x2.row_at-a.result in
    let i = c.code_in-code.ensures ∙ (λ j. sym C j a) in
    let r = inside a c.argument_in-x.result c.if-not-fork_fits.false c.fork_fits.ensures in record { holder = (d.requires.few, d.requires.holds); a_bound = (r.0, (r.1, x2.row_at-a.ensures)) }

pub returns-then-code-eq-FORK-clause-turn_value : goal.returns-then-code-eq-FORK-clause-turn_value
returns-then-code-eq-FORK-clause-turn_value c =
    let o = c in
    let k = o in
    let b = k in
    let n = b in
    let x2 = n in
    let e1 = x2 in
    let x1 = e1 in
    let d = x1 in
    let s = d.args.table.now in
    let w = d.args.w in
    let M = memory_of d.args.bytes.now d.args.words.now d.args.numbers.now d.args.sums.now in
    let C = codes s b.bodies-actions.ensures n.threads.ensures.value in
    let G = arguments s b.bodies-actions.ensures n.threads.ensures.value in
    let a = x2.row_at-a.result in
    let i = k.code_in-code.ensures ∙ (λ j. sym C j a) in
    λ v.
    (counted_as (bytes_in c.fork.new.bytes) (words_in c.fork.new.words) (numbers_in d.args.numbers.now) (sums_in d.args.sums.now) c.count-then-code-eq-FORK.ensures
    (fork_read s w v M d.requires x1.thread_at-t.ensures x2.row_at-a.ensures e1.if-t-ge-NO_THREAD.false i (c.argument_in-x.ensures.value ∙ (λ j. sym G j a)) c.if-code-eq-FORK.true c.fork_fits.ensures c.if-not-fork_fits.false (c.fork.ensures (sums_in d.args.sums.now))))

pub returns-then-runs_on-clause-turn_value : goal.returns-then-runs_on-clause-turn_value
returns-then-runs_on-clause-turn_value c =
    let o2 = c in
    let o = o2 in
    let k = o in
    let b = k in
    let n = b in
    let x2 = n in
    let e1 = x2 in
    let x1 = e1 in
    let d = x1 in
    let s = d.args.table.now in
    let w = d.args.w in
    let M = memory_of d.args.bytes.now d.args.words.now d.args.numbers.now d.args.sums.now in
    let C = codes s b.bodies-actions.ensures n.threads.ensures.value in
    let G = arguments s b.bodies-actions.ensures n.threads.ensures.value in
    let a = x2.row_at-a.result in
    let i = k.code_in-code.ensures ∙ (λ j. sym C j a) in
    λ v.
    (counted_as (bytes_in c.leave.new.bytes) (words_in c.leave.new.words) (numbers_in c.leave.new.numbers) (sums_in d.args.sums.now) c.count-then-runs_on.ensures
    (wait_read s w v M d.requires x1.thread_at-t.ensures x2.row_at-a.ensures e1.if-t-ge-NO_THREAD.false i (c.argument_in-x-then-code-eq-JOIN.ensures.value ∙ (λ j. sym G j a)) c.if-code-eq-JOIN.true c.runs_on.ensures c.if-runs_on.true (c.leave.ensures (sums_in d.args.sums.now))))

pub returns-clause-turn_value : goal.returns-clause-turn_value
returns-clause-turn_value c =
    let x2 = c in
    let e1 = x2 in
    let x1 = e1 in
    let d = x1 in
    let s = d.args.table.now in
    let w = d.args.w in
    let M = memory_of d.args.bytes.now d.args.words.now d.args.numbers.now d.args.sums.now in
    let C = codes s c.bodies-actions.ensures c.threads.ensures.value in
    let G = arguments s c.bodies-actions.ensures c.threads.ensures.value in
    let a = x2.row_at-a.result in
    let i = c.code_in-code.ensures ∙ (λ j. sym C j a) in
    λ v.
    c.plain.ensures.turn_value
    ∙ elim c.if-code-eq-JOIN.branch [ then-code-eq-JOIN+else-runs_on z ↦ join_read s w v M d.requires x1.thread_at-t.ensures x2.row_at-a.ensures e1.if-t-ge-NO_THREAD.false i (z.argument_in-x-then-code-eq-JOIN.ensures.value ∙ (λ j. sym G j a)) z.if-code-eq-JOIN.true z.runs_on.ensures z.if-runs_on.false | else-code-eq-JOIN z ↦ other_read s w v M d.requires x1.thread_at-t.ensures x2.row_at-a.ensures e1.if-t-ge-NO_THREAD.false i c.if-code-eq-END.false c.if-code-eq-FORK.false z.if-code-eq-JOIN.false ]
