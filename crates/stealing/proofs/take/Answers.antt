-- `stealing::take` meets its contract: each way out is one of the definition's, and a steal that is written leaves a memory from which the turn goes on.
use mathlib.Core.Path.{◌≡◌, sym, ap, subst, ◌∙◌}
use Prim.Native.Nat.{ℕ, ◌+◌, ◌<◌}
use native.Mathlib.Omega.{arith}
use mathlib.Core.List.{List}
use mathlib.Core.Bool.{true, false}
use lib.ListN.{length}
use Rattle.table.specs.Format.{table_of}
use Rattle.run_memory.specs.Memory.{Memory, worker_in}
use Rattle.run_memory.specs.Blocks.{part, bytes_in, words_in, numbers_in, sums_in, memory_of}
use Rattle.run_memory.proofs.Parts.{part_length}
use Rattle.stealing.specs.StealingMemory.{deque_taken_in}
use Rattle.stealing.specs.Code.{Going, stolen_on}
use Rattle.run_memory.proofs.Takes.{codes, arguments}
use Rattle.stealing.proofs.Goes.{counted_as}
use Rattle.run_memory.proofs.Takes.{asked_room}
use Rattle.stealing.proofs.Steals.{Roomy, roomy, ready_read, without_room, too_far, idles, steal_unfit, steals, stolen_going}
use Rattle.stealing.proofs.take.Goals.{then-not-holds+else-c-ge16+else-not-is_ready+else-not-action_fits, else-not-holds, After-action_fits, Else-not-room_for, Joined-not-holds, Then-not-holds}
use Rattle.stealing.proofs.take.Goals as goal

room : (e : Else-not-room_for) → Roomy (memory_of e.args.bytes.now e.args.words.now e.args.numbers.now e.args.sums.now) e.args.w
room e = roomy (memory_of e.args.bytes.now e.args.words.now e.args.numbers.now e.args.sums.now) e.args.w e.if-not-room_for.false (asked_room e.args.w e.total_at-turns.ensures e.head_at.ensures e.holds_at-holds.ensures e.room_for.ensures)

-- the worker holds nothing
empty : (o : Then-not-holds) → (worker_in (memory_of o.args.bytes.now o.args.words.now o.args.numbers.now o.args.sums.now) o.args.w).holds ≡ false
empty o = sym o.holds_at-holds.ensures ∙ o.if-not-holds.true

is_there : (f : After-action_fits) → f.is_ready.result ≡ true
is_there f = f.if-not-is_ready.false

fits_as : (f : After-action_fits) → f.action_fits.result ≡ (stolen_on (table_of f.args.table.now) f.bottom_at-b.result (memory_of f.args.bytes.now f.args.words.now f.args.numbers.now f.args.sums.now)).fits
fits_as f =
    let f = f in
    let b = f in
    let s = f.args.table.now in
    let n = b.threads.ensures.value in
    f.action_fits.ensures (table_of s) (numbers_in f.args.numbers.now) (codes s b.bodies-actions.ensures n) (arguments s b.bodies-actions.ensures n)

sixteen : (at : ℕ) (l : List ℕ) {n : ℕ} → length l ≡ n → at + 16 < n + 1 → length (part at 16 l) ≡ 16
sixteen at l {n} e h = part_length at 16 l (omega (arith, e, h))

pub returns-then-not-room_for-clause-turn_value : goal.returns-then-not-room_for-clause-turn_value
returns-then-not-room_for-clause-turn_value c =
    (without_room c.args.table.now c.args.w c.args.c (memory_of c.args.bytes.now c.args.words.now c.args.numbers.now c.args.sums.now) c.if-not-room_for.true (asked_room c.args.w c.total_at-turns.ensures c.head_at.ensures c.holds_at-holds.ensures c.room_for.ensures))

pub returns-then-c-ge16-clause-turn_value : goal.returns-then-c-ge16-clause-turn_value
returns-then-c-ge16-clause-turn_value c =
    (too_far c.args.table.now c.args.w c.args.c (memory_of c.args.bytes.now c.args.words.now c.args.numbers.now c.args.sums.now) (room (goal.at.returns-then-c-ge16-clause-turn_value c).Else-not-room_for) (empty (goal.at.returns-then-c-ge16-clause-turn_value c).Then-not-holds) c.if-c-ge16.true)

pub count-requires : goal.count-requires
count-requires c = (room (goal.at.count-requires c).Else-not-room_for).turns

pub returns-then-not-is_ready-clause-turn_value : goal.returns-then-not-is_ready-clause-turn_value
returns-then-not-is_ready-clause-turn_value c =
    let d = c in
    (counted_as (bytes_in d.args.bytes.now) (words_in d.args.words.now) (numbers_in d.args.numbers.now) (sums_in d.args.sums.now) c.count.ensures
    (idles d.args.table.now d.args.w d.args.c (memory_of d.args.bytes.now d.args.words.now d.args.numbers.now d.args.sums.now) (room (goal.at.returns-then-not-is_ready-clause-turn_value c).Else-not-room_for) (empty (goal.at.returns-then-not-is_ready-clause-turn_value c).Then-not-holds) c.if-c-ge16.false c.bottom_at-b.ensures c.is_ready.ensures c.if-not-is_ready.true))

pub action_fits-requires : goal.action_fits-requires
action_fits-requires c =
    ready_read (bytes_in c.args.bytes.now).status c.bottom_at-b.result c.if-not-is_ready.false c.is_ready.ensures

pub returns-then-not-action_fits-clause-turn_value : goal.returns-then-not-action_fits-clause-turn_value
returns-then-not-action_fits-clause-turn_value c =
    (steal_unfit c.args.table.now c.args.w c.args.c (memory_of c.args.bytes.now c.args.words.now c.args.numbers.now c.args.sums.now) (room (goal.at.returns-then-not-action_fits-clause-turn_value c).Else-not-room_for) (empty (goal.at.returns-then-not-action_fits-clause-turn_value c).Then-not-holds) c.if-c-ge16.false c.bottom_at-b.ensures c.is_ready.ensures (is_there (goal.at.returns-then-not-action_fits-clause-turn_value c).After-action_fits) (fits_as (goal.at.returns-then-not-action_fits-clause-turn_value c).After-action_fits) c.if-not-action_fits.true)

pub steal-requires : goal.steal-requires
steal-requires c =
    ((room (goal.at.steal-requires c).Else-not-room_for).few, (empty (goal.at.steal-requires c).Then-not-holds, (room (goal.at.steal-requires c).Else-not-room_for).bit (empty (goal.at.steal-requires c).Then-not-holds)))

-- where the ways of a worker that came with a thread and of one that stole meet: the turn goes on as that of a holder, and comes to the same
seated : (m : Joined-not-holds) → Going (memory_of m.if-not-holds.bytes m.if-not-holds.words m.if-not-holds.numbers m.args.sums.now) m.args.w × (deque_taken_in m.args.table.now m.args.w m.args.c (memory_of m.if-not-holds.bytes m.if-not-holds.words m.if-not-holds.numbers m.args.sums.now) ≡ deque_taken_in m.args.table.now m.args.w m.args.c (memory_of m.args.bytes.now m.args.words.now m.args.numbers.now m.args.sums.now))
seated m =
    let s = m.args.table.now in
    let w = m.args.w in
    let v = m.args.c in
    let S = m.args.sums.now in
    let M = memory_of m.args.bytes.now m.args.words.now m.args.numbers.now S in
    let R = roomy M w m.if-not-room_for.false (asked_room w m.total_at-turns.ensures m.head_at.ensures m.holds_at-holds.ensures m.room_for.ensures) in
    elim m.if-not-holds.branch [
      | then-not-holds+else-c-ge16+else-not-is_ready+else-not-action_fits z ↦
          let none = sym m.holds_at-holds.ensures ∙ z.if-not-holds.true in
          let n = z.threads.ensures.value in
          let fits = z.action_fits.ensures (table_of s) (numbers_in m.args.numbers.now) (codes s z.bodies-actions.ensures n) (arguments s z.bodies-actions.ensures n) in
          let l = z.lengths.ensures in
          let h1 = sixteen 1024 m.args.bytes.now l.0 (omega arith) in
          let h2 = sixteen 6144 m.args.words.now l.1.0 (omega arith) in
          let h3 = sixteen 2 m.args.numbers.now l.1.1 (omega arith) in
          let left = (λ i. memory_of (z.bytes-is i) (z.words-is i) (z.numbers-is i) S) ∙ z.steal.ensures (sums_in S) in (
            subst (λ (X : Memory). Going X w) (sym left)
                (stolen_going s w v M R none z.if-c-ge16.false z.bottom_at-b.ensures z.is_ready.ensures z.if-not-is_ready.false fits z.if-not-action_fits.false h1 h2 h3 m.requires),
            ap (deque_taken_in s w v) left ∙ steals s w v M R none z.if-c-ge16.false z.bottom_at-b.ensures z.is_ready.ensures z.if-not-is_ready.false fits z.if-not-action_fits.false h1 h2 h3,
          )
      | else-not-holds z ↦
          let same : memory_of m.if-not-holds.bytes m.if-not-holds.words m.if-not-holds.numbers S ≡ M = λ i. memory_of (z.bytes-is i) (z.words-is i) (z.numbers-is i) S in (
            subst (λ (X : Memory). Going X w) (sym same)
                (record { few = R.few; holds = sym m.holds_at-holds.ensures ∙ z.if-not-holds.false; room = R.turns; free = m.requires }),
            ap (deque_taken_in s w v) same,
          )
    ]

pub go_on-requires : goal.go_on-requires
go_on-requires c = (seated (goal.at.go_on-requires c).Joined-not-holds).0

pub returns-clause-turn_value : goal.returns-clause-turn_value
returns-clause-turn_value c =
    c.go_on.ensures.turn_value c.args.c ∙ (seated (goal.at.returns-clause-turn_value c).Joined-not-holds).1
