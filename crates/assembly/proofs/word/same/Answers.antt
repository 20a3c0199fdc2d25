-- `assembly::word::same` meets its contract: the library's equality of slices says the same.
use mathlib.Core.Path.{◌≡◌, refl, ◌∙◌}
use Prim.Native.Nat.{ℕ}
use mathlib.Core.List.{List, [], ◌∷◌}
use mathlib.Core.Bool.{Bool, true, false, ◌&&◌}
use lib.Dec.{eqb}
use lib.Pointwise.{pointwise}
use Rattle.std.specs.Prelude.{nat_eq}
use Rattle.table.specs.Sum.{pick}
use Rattle.assembly.specs.Words.{same}
use Rattle.assembly.proofs.word.same.Goals as goal

by_points : (a b : List ℕ) → pointwise nat_eq a b ≡ same a b
unfolding same
by_points [] [] = refl
by_points [] (y ∷ b) = refl
by_points (x ∷ a) [] = refl
by_points (x ∷ a) (y ∷ b) = go (eqb x y) (by_points a b)
  where
    go : (t : Bool) → pointwise nat_eq a b ≡ same a b → (t && pointwise nat_eq a b) ≡ pick t (same a b) false
    go true e = e
    go false e = refl

pub returns : goal.returns
returns c = c.eq.ensures ∙ by_points _ _
