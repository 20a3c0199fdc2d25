-- `checks::head::head` meets its contract: each way out is the first of the three checks that applies.
use Rattle.std.specs.Prelude.{Err, Ok}
use mathlib.Core.Path.{◌≡◌, sym, ◌∙◌, ap}
use Prim.Native.Nat.{ℕ, ◌+◌, ◌*◌, ◌<◌, ◌≤◌}
use mathlib.Core.List.{List}
use mathlib.Core.Bool.{true, false, ◌||◌}
use borrow.Author.Tests.{lt-ltb, le-ltb, eq-eqb, ne_eqb}
use lib.ListN.{length}
use Rattle.table.specs.Format.{threads_of, actions_of}
use Rattle.table.specs.Pass.{try_at, try_from, try_pass, refusal}
use Rattle.table.specs.Checks.{head_pass, outside}
use Rattle.checks.proofs.head.head.Goals as goal

module _ (s : List ℕ) where
  short : length s < 4 → try_pass (head_pass s) ≡ Err (refusal 1 0)
  unfolding try_pass try_from try_at
  short h = simp (lt-ltb _ _ h)

  module _ (n m : ℕ) (long : 4 ≤ length s) (e : n ≡ threads_of s) (d : m ≡ actions_of s) where
    ranged : (outside 1 1024 n || outside 1 8192 m) ≡ true → try_pass (head_pass s) ≡ Err (refusal 2 0)
    unfolding try_pass try_from try_at
    ranged h = simp (le-ltb _ _ long, ← e, ← d, h)

    sized : (outside 1 1024 n || outside 1 8192 m) ≡ false → (length s ≡ 4 + 4 * n + 4 * m → ⊥) → try_pass (head_pass s) ≡ Err (refusal 3 0)
    unfolding try_pass try_from try_at
    sized h k = simp (le-ltb _ _ long, ← e, ← d, h, ne_eqb _ _ k)

    passed : (outside 1 1024 n || outside 1 8192 m) ≡ false → length s ≡ 4 + 4 * n + 4 * m → try_pass (head_pass s) ≡ Ok tt
    unfolding try_pass try_from try_at
    passed h k = simp (le-ltb _ _ long, ← e, ← d, h, eq-eqb _ _ k)

pub returns-then-table-lt4 : goal.returns-then-table-lt4
returns-then-table-lt4 c = ap Err c.new.ensures ∙ sym (short c.args.table.now c.if-table-lt4.true)

pub returns-then-out_of_range : goal.returns-then-out_of_range
returns-then-out_of_range c =
    ap Err c.new-then-out_of_range.ensures ∙ sym (ranged c.args.table.now _ _ c.if-table-lt4.false c.threads-n.ensures.value c.actions-m.ensures.value
    (sym c.out_of_range.ensures ∙ c.if-out_of_range.true))

pub returns-then-table-n : goal.returns-then-table-n
returns-then-table-n c =
    ap Err c.new-then-table-n.ensures ∙ sym (sized c.args.table.now _ _ c.if-table-lt4.false c.threads-n.ensures.value c.actions-m.ensures.value
    (sym c.out_of_range.ensures ∙ c.if-out_of_range.false)
    c.if-table-n.true)

pub returns : goal.returns
returns c =
    sym (passed c.args.table.now _ _ c.if-table-lt4.false c.threads-n.ensures.value c.actions-m.ensures.value
    (sym c.out_of_range.ensures ∙ c.if-out_of_range.false)
    c.if-table-n.false)
