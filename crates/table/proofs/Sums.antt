-- Laws of sums: `sum_to` over the numbers below a bound, `sum_over` over a list, and `greatest_to`.
use mathlib.Core.Path.{◌≡◌, refl}
use Prim.Native.Nat.{ℕ, zero, suc, ◌+◌, ◌*◌, ◌≤◌, ◌<◌}
use native.Mathlib.Omega.{arith}
use native.Mathlib.Nat.{mul-suc}
use native.Mathlib.Decide.{ℕ_discrete}
use mathlib.Core.List.{List, [], ◌∷◌, ◌++◌, Memᴰ}
use lib.ListN.{length}
use Rattle.table.specs.Sum.{sum_to, sum_over, greatest_to}

pub sum_to_cong : (f g : ℕ → ℕ) (k : ℕ) → ((i : ℕ) → i < k → f i ≡ g i) → sum_to f k ≡ sum_to g k
unfolding sum_to
sum_to_cong f g zero h = refl
sum_to_cong f g (suc k) h =
    omega (arith, sum_to_cong f g k (λ i p. h i (omega arith)), h k (omega arith))

pub sum_to_le : (f g : ℕ → ℕ) (k : ℕ) → ((i : ℕ) → i < k → f i ≤ g i) → sum_to f k ≤ sum_to g k
unfolding sum_to
sum_to_le f g zero h = omega arith
sum_to_le f g (suc k) h =
    omega (arith, sum_to_le f g k (λ i p. h i (omega arith)), h k (omega arith))

pub sum_to_zero : (f : ℕ → ℕ) (k : ℕ) → ((i : ℕ) → i < k → f i ≡ 0) → sum_to f k ≡ 0
unfolding sum_to
sum_to_zero f zero h = refl
sum_to_zero f (suc k) h =
    omega (arith, sum_to_zero f k (λ i p. h i (omega arith)), h k (omega arith))

-- two sums that differ at one index
pub sum_to_one : (f g : ℕ → ℕ) (j k : ℕ) → j < k → ((i : ℕ) → i < k → (i ≡ j → ⊥) → f i ≡ g i) → sum_to f k + g j ≡ sum_to g k + f j
unfolding sum_to
sum_to_one f g j zero p h = absurd (omega arith)
sum_to_one f g j (suc k) p h =
    go (λ (q : j < k). sum_to_one f g j k q (λ i r. h i (omega arith))) (ℕ_discrete k j)
  where
    go : (j < k → sum_to f k + g j ≡ sum_to g k + f j) → Dec (k ≡ j) → sum_to f k + f k + g j ≡ sum_to g k + g k + f j
    go ih (yes e) =
        let s : sum_to f k ≡ sum_to g k = sum_to_cong f g k (λ i r. h i (omega arith) (λ e'. omega arith)) in
        rw (← e) (omega arith)
    go ih (no d) =
        let q : k ≡ j → ⊥ = d in
        omega (arith, h k (omega arith) q, ih (omega (arith, q)))

pub sum_to_part : (f : ℕ → ℕ) (k l : ℕ) → k ≤ l → sum_to f k ≤ sum_to f l
unfolding sum_to
sum_to_part f k zero p = let e : k ≡ 0 = omega arith in rw e (omega arith)
sum_to_part f k (suc l) p =
    go (λ (q : k ≤ l). sum_to_part f k l q) (ℕ_discrete k (suc l))
  where
    go : (k ≤ l → sum_to f k ≤ sum_to f l) → Dec (k ≡ suc l) → sum_to f k ≤ sum_to f l + f l
    go ih (yes e) = rw e (omega arith)
    go ih (no d) = omega (arith, ih (omega (arith, d)))

pub greatest_to_cong : (f g : ℕ → ℕ) (k : ℕ) → ((i : ℕ) → i < k → f i ≡ g i) → greatest_to f k ≡ greatest_to g k
unfolding greatest_to
greatest_to_cong f g zero h = refl
greatest_to_cong f g (suc k) h = omega (arith, greatest_to_cong f g k (λ i p. h i (omega arith)), h k (omega arith))

pub sum_over_cong : (f g : ℕ → ℕ) (l : List ℕ) → ((x : ℕ) → Memᴰ x l → f x ≡ g x) → sum_over f l ≡ sum_over g l
unfolding sum_over
sum_over_cong f g [] h = refl
sum_over_cong f g (x ∷ l) h = omega (arith, sum_over_cong f g l (λ y m. h y (Memᴰ.tail m)), h x (Memᴰ.head refl))

pub sum_over_zero : (f : ℕ → ℕ) (l : List ℕ) → ((x : ℕ) → Memᴰ x l → f x ≡ 0) → sum_over f l ≡ 0
unfolding sum_over
sum_over_zero f [] h = refl
sum_over_zero f (x ∷ l) h = omega (arith, sum_over_zero f l (λ y m. h y (Memᴰ.tail m)), h x (Memᴰ.head refl))

pub sum_over_append : (f : ℕ → ℕ) (l r : List ℕ) → sum_over f (l ++ r) ≡ sum_over f l + sum_over f r
unfolding sum_over
sum_over_append f [] r = omega arith
sum_over_append f (x ∷ l) r = omega (arith, sum_over_append f l r)

pub sum_over_bound : (f : ℕ → ℕ) (B : ℕ) (l : List ℕ) → ((x : ℕ) → Memᴰ x l → f x ≤ B) → sum_over f l ≤ B * length l
unfolding sum_over
sum_over_bound f B [] h = omega arith
sum_over_bound f B (x ∷ l) h =
    omega (arith, sum_over_bound f B l (λ y m. h y (Memᴰ.tail m)), h x (Memᴰ.head refl), mul-suc B (length l))
