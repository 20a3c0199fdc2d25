-- How often a number stands in a list.
use mathlib.Core.Path.{◌≡◌, refl}
use Prim.Native.Nat.{ℕ, suc, ◌+◌, ◌≤◌}
use native.Mathlib.Omega.{arith}
use mathlib.Core.List.{List, [], ◌∷◌, ◌++◌}
use lib.Dec.{eqb}
use lib.ListN.{length}
use borrow.Author.Tests.{eq-eqb, ne_eqb}
use Rattle.table.proofs.Tests.{pick_most}
use Rattle.schedule.specs.Memory.{count_in}

pub count_in_append : (v : ℕ) (a c : List ℕ) → count_in v (a ++ c) ≡ count_in v a + count_in v c
unfolding count_in
count_in_append v [] c = omega arith
count_in_append v (w ∷ a) c = omega (arith, count_in_append v a c)

pub count_in_own : (w : ℕ) (l : List ℕ) → count_in w (w ∷ l) ≡ suc (count_in w l)
unfolding count_in
count_in_own w l = rw (eq-eqb w w refl) (omega arith)

pub count_in_other : (v w : ℕ) (l : List ℕ) → (w ≡ v → ⊥) → count_in v (w ∷ l) ≡ count_in v l
unfolding count_in
count_in_other v w l d = rw (ne_eqb w v d) (omega arith)

pub count_in_length : (v : ℕ) (l : List ℕ) → count_in v l ≤ length l
unfolding count_in
count_in_length v [] = omega arith
count_in_length v (w ∷ l) = omega (arith, count_in_length v l, pick_most (eqb w v) 1)
