-- Std compares two rows as the definitions do.
use mathlib.Core.Path.{◌≡◌, refl, ap}
use mathlib.Core.Bool.{Bool, ◌&&◌}
use mathlib.Core.List.{List, [], ◌∷◌}
use Prim.Native.Nat.{ℕ}
use lib.Dec.{eqb}
use Rattle.std.specs.Prelude.{nat_eq}
use Rattle.std.specs.Cmp.Lexicographic.{pointwise}
use Rattle.order.specs.Words.{same_list}

-- std's test of two lists is that of the definitions
pub pointwise_same : (k l : List ℕ) → pointwise nat_eq k l ≡ same_list k l
unfolding same_list
pointwise_same [] [] = refl
pointwise_same [] (y ∷ l) = refl
pointwise_same (x ∷ k) [] = refl
pointwise_same (x ∷ k) (y ∷ l) = ap (λ (b : Bool). eqb x y && b) (pointwise_same k l)
