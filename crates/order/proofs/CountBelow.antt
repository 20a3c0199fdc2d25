-- Counting by a test: the numbers below n that pass, and those that are in a list in which nothing stands twice.
use mathlib.Core.Path.{◌≡◌, refl}
use Prim.Native.Nat.{ℕ, zero, suc, ◌+◌, ◌≤◌, ◌<◌}
use native.Mathlib.Omega.{arith}
use native.Mathlib.Decide.{dec_lt, ℕ_discrete}
use mathlib.Core.List.{List, [], ◌∷◌, Memᴰ}
use mathlib.Core.Bool.{Bool, true, false, ◌||◌}
use lib.Dec.{eqb}
use lib.ListN.{length}
use borrow.Author.Tests.{eq-eqb, ne_eqb}
use Rattle.table.specs.Sum.{pick, sum_to}
use Rattle.table.proofs.Tests.{pick_most}
use Rattle.table.proofs.Sums.{sum_to_le, sum_to_zero, sum_to_one}
use Rattle.order.proofs.Totals.{one, sum_to_bound, sum_to_add}
use Rattle.order.specs.Words.{member, count_below}
use Rattle.order.proofs.Words.{never_true, member_exactly, Ascends}

pub count_bound : (f : ℕ → Bool) (k : ℕ) → count_below f k ≤ k
count_bound f k = omega (arith, sum_to_bound (λ i. pick (f i) 1 0) 1 k (λ i l. pick_most (f i) 1))

-- where a test passes another does too
pub count_le : (f g : ℕ → Bool) (n : ℕ) → ((i : ℕ) → f i ≡ true → g i ≡ true) → count_below f n ≤ count_below g n
count_le f g n h = sum_to_le (λ i. pick (f i) 1 0) (λ i. pick (g i) 1 0) n (λ i l. go i (f i) refl)
  where
    go : (i : ℕ) (q : Bool) → f i ≡ q → pick q 1 0 ≤ pick (g i) 1 0
    go i true e = rw (h i e) (omega arith)
    go i false e = omega arith

-- one more passes
pub count_more : (f g : ℕ → Bool) (n i : ℕ) → i < n → ((i : ℕ) → f i ≡ true → g i ≡ true) → f i ≡ false → g i ≡ true → suc (count_below f n) ≤ count_below g n
unfolding sum_to
count_more f g zero i b h e d = absurd (omega arith)
count_more f g (suc n) i b h e d = go (ℕ_discrete i n) (λ (c : i < n). count_more f g n i c h e d)
  where
    part : (q : Bool) → f n ≡ q → pick q 1 0 ≤ pick (g n) 1 0
    part true y = rw (h n y) (omega arith)
    part false y = omega arith

    go : Dec (i ≡ n) → (i < n → suc (count_below f n) ≤ count_below g n) → suc (count_below f n + pick (f n) 1 0) ≤ count_below g n + pick (g n) 1 0
    go (yes q) ih =
        let x : f n ≡ false = rw q at e in
        let y : g n ≡ true = rw q at d in
        rw (x, y) (omega (arith, count_le f g n h))
    go (no q) ih = omega (arith, ih (omega (arith, q)), part (f n) refl)

-- at most one of them is x
one_most : (x n : ℕ) → sum_to (one x) n ≤ 1
one_most x n = go (dec_lt x n)
  where
    go : Dec (x < n) → sum_to (one x) n ≤ 1
    go (yes h) =
        let e : one x x ≡ 1 = rw (eq-eqb x x refl) in
        omega (arith, sum_to_one (one x) (λ t. 0) x n h (λ t i d. rw (ne_eqb t x d)), sum_to_zero (λ t. 0) n (λ t i. refl))
    go (no h) = omega (arith, sum_to_zero (one x) n (λ t i. rw (ne_eqb t x (λ e. omega (arith, h)))))

-- ---- the numbers below n that are in a list

-- one that is not yet in it counts as one more
pub member_more : (n x : ℕ) (l : List ℕ) → x < n → member x l ≡ false → count_below (λ t. member t (x ∷ l)) n ≡ suc (count_below (λ t. member t l) n)
unfolding member
member_more n x l h e =
    let now : ◌≡◌ {A = ℕ} (pick (member x (x ∷ l)) 1 0) 1 = rw (eq-eqb x x refl) in
    let before : ◌≡◌ {A = ℕ} (pick (member x l) 1 0) 0 = rw e in
    omega (arith, sum_to_one (λ t. pick (member t (x ∷ l)) 1 0) (λ t. pick (member t l) 1 0) x n h (λ t i d. rw (ne_eqb t x d)))

-- of a list along which f ascends they are as many as its length
pub ascending_count : (f : ℕ → ℕ) (n : ℕ) (l : List ℕ) → Ascends f l → ((x : ℕ) → Memᴰ x l → x < n) → count_below (λ t. member t l) n ≡ length l
unfolding member Ascends
ascending_count f n [] c h = sum_to_zero (λ t. 0) n (λ t i. refl)
ascending_count f n (x ∷ l) c h =
    let new : member x l ≡ false = never_true (member x l) (λ m. omega (arith, c.0 x ((member_exactly x l).0 m))) in
    omega (arith, member_more n x l (h x (Memᴰ.head refl)) new, ascending_count f n l c.1 (λ y m. h y (Memᴰ.tail m)))

-- and of any list they are at most as many
pub member_few : (n : ℕ) (l : List ℕ) → count_below (λ t. member t l) n ≤ length l
unfolding member
member_few n [] = omega (arith, sum_to_zero (λ t. 0) n (λ t i. refl))
member_few n (x ∷ l) =
    omega (
      arith,
      sum_to_le (λ t. pick (member t (x ∷ l)) 1 0) (λ t. one x t + pick (member t l) 1 0) n (λ t i. either (eqb t x) (member t l)),
      sum_to_add (one x) (λ t. pick (member t l) 1 0) (λ t. one x t + pick (member t l) 1 0) n (λ t i. refl),
      one_most x n,
      member_few n l,
    )
  where
    either : (a b : Bool) → pick (a || b) 1 0 ≤ pick a 1 0 + pick b 1 0
    either true b = omega arith
    either false b = omega arith
