-- `table::read::body_of` meets its contract: the part from a place on is all that is left from there, and nothing past the end.
use mathlib.Core.Path.{◌≡◌, sym, ◌∙◌}
use Prim.Native.Nat.{ℕ, ◌-◌, ◌*◌, ◌≤◌}
use mathlib.Core.List.{List}
use native.Mathlib.Omega.{arith}
use lib.ListN.{length, take, drop, drop_of_length-le}
use Rattle.table.specs.Format.{bodies_from, table_of}
use Rattle.table.proofs.Parts.{rest_part}
use Rattle.table.proofs.read.body_of.Goals as goal

module _ (s : List ℕ) (n t : ℕ) {l : List ℕ} {first : ℕ} (b : l ≡ bodies_from s n) (f : first ≡ (table_of s).first t) where
  none_left : length l ≤ 4 * first → take (length l - length l) (drop (length l) l) ≡ drop (4 * (table_of s).first t) (bodies_from s n)
  none_left h =
      rest_part l (length l)
      ∙ drop_of_length-le l {i = length l} (omega arith)
      ∙ sym (drop_of_length-le l {i = 4 * first} h)
      ∙ rw (b, f)

  all_left : take (length l - 4 * first) (drop (4 * first) l) ≡ drop (4 * (table_of s).first t) (bodies_from s n)
  all_left = rest_part l (4 * first) ∙ rw (b, f)

pub returns-then-end-first : goal.returns-then-end-first
returns-then-end-first c =
    let a = c.args in
    none_left a.table.now a.n a.t c.bodies-actions.ensures c.first-first.ensures.value (omega (arith, c.if-end-first.true))

pub returns : goal.returns
returns c =
    let a = c.args in
    all_left a.table.now a.n a.t c.bodies-actions.ensures c.first-first.ensures.value
