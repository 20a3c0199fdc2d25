-- `run_memory::act::waits` meets its contract: each way out answers `waits_in` where one more of the three tests has been made.
use mathlib.Core.Path.{◌≡◌, ap, ◌∙◌}
use Prim.Native.Nat.{ℕ}
use mathlib.Core.List.{List}
use mathlib.Core.Bool.{false}
use native.Mathlib.Omega.{arith}
use borrow.Author.Tests.{eq-eqb, ne_eqb}
use lib.Dec.{eqb}
use lib.ListN.{get_or}
use Rattle.table.specs.Format.{Table, code_at, argument_at, is, kind, kind_of}
use Rattle.table.specs.declared.kinds.Kind.TheVariants.{Join as join}
use Rattle.table.proofs.Walks.{is_code}
use Rattle.schedule.specs.Machine.{waiting}
use Rattle.array_machine.specs.Turn.{waits_in}
use Rattle.run_memory.specs.Blocks.{bytes_in, words_in}
use Rattle.run_memory.proofs.act.waits.Goals as goal

-- an action is a join by its code
join_code : (T : Table) (a k : ℕ) → k ≡ T.code a → is join (kind T a) ≡ eqb k 5
unfolding kind_of
join_code T a k e = rw e (is_code 5 (T.code a) (omega arith))

module _ (T : Table) (next status : List ℕ) (u t : ℕ) {w : ℕ} (g : w ≡ get_or status u 0) where
  not_waiting : (w ≡ waiting → ⊥) → false ≡ waits_in T next status u t
  unfolding waits_in
  not_waiting h = rw (← g, ne_eqb w waiting h)

  module _ (l : List ℕ) (p : T.code ≡ code_at l) (q : T.argument ≡ argument_at l) (h : w ≡ waiting) {a k : ℕ} (f : a ≡ get_or next u 0) (e : k ≡ code_at l a) where
    code_here : k ≡ T.code (get_or next u 0)
    code_here = rw p (e ∙ ap (code_at l) f)

    no_join : (k ≡ 5 → ⊥) → false ≡ waits_in T next status u t
    unfolding waits_in
    no_join j = rw (← g, eq-eqb w waiting h, join_code T (get_or next u 0) k code_here, ne_eqb k 5 j)

    by_child : {x : ℕ} → k ≡ 5 → x ≡ argument_at l a → eqb x t ≡ waits_in T next status u t
    unfolding waits_in
    by_child {x} j i =
        let y : x ≡ T.argument (get_or next u 0) = rw q (i ∙ ap (argument_at l) f) in
        rw (← g, eq-eqb w waiting h, join_code T (get_or next u 0) k code_here, eq-eqb k 5 j, ← y)

pub returns-then-status_at-ne-WAITING : goal.returns-then-status_at-ne-WAITING
returns-then-status_at-ne-WAITING c =
    λ T e f. not_waiting T ((words_in c.args.words.now).rows 1) (bytes_in c.args.bytes.now).status c.args.u c.args.t c.status_at.ensures c.if-status_at-ne-WAITING.true

pub returns-then-code_in-ne-JOIN : goal.returns-then-code_in-ne-JOIN
returns-then-code_in-ne-JOIN c =
    λ T e f.
    no_join T ((words_in c.args.words.now).rows 1) (bytes_in c.args.bytes.now).status c.args.u c.args.t c.status_at.ensures c.args.actions.now e f c.if-status_at-ne-WAITING.false
    c.row_at-a.ensures c.code_in.ensures c.if-code_in-ne-JOIN.true

pub returns : goal.returns
returns c =
    λ T e f.
    by_child T ((words_in c.args.words.now).rows 1) (bytes_in c.args.bytes.now).status c.args.u c.args.t c.status_at.ensures c.args.actions.now e f c.if-status_at-ne-WAITING.false
    c.row_at-a.ensures c.code_in.ensures c.if-code_in-ne-JOIN.false c.argument_in.ensures.value
