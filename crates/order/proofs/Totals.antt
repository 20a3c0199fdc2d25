-- Laws of sums that runs use: sums under a bound, sums that add up term by term, sums over parts laid end to end, and a sum over sources read as one over their targets.
use mathlib.Core.Path.{◌≡◌, refl, sym}
use Prim.Native.Nat.{ℕ, zero, suc, ◌+◌, ◌*◌, ◌≤◌, ◌<◌}
use mathlib.Core.Bool.{Bool, true, false, ◌&&◌, and-false}
use lib.Dec.{ltb, eqb}
use native.Mathlib.Omega.{arith}
use native.Mathlib.Nat.{add-suc, add-zero, mul-suc}
use native.Mathlib.Decide.{dec_lt}
use borrow.Author.Tests.{lt-ltb, le-ltb, eq-eqb, ne_eqb}
use Rattle.table.specs.Sum.{pick, sum_to, any_below}
use Rattle.table.proofs.Tests.{and_both}
use Rattle.table.proofs.Sums.{sum_to_cong, sum_to_zero, sum_to_one, sum_to_part}
use Rattle.table.proofs.Nesting.{any_below_true}

pub sum_to_term : (f : ℕ → ℕ) (i k : ℕ) → i < k → f i ≤ sum_to f k
unfolding sum_to
sum_to_term f i k h = omega (arith, sum_to_part f (suc i) k h)

-- as many terms under a bound
pub sum_to_bound : (f : ℕ → ℕ) (B k : ℕ) → ((i : ℕ) → i < k → f i ≤ B) → sum_to f k ≤ B * k
unfolding sum_to
sum_to_bound f B zero h = omega arith
sum_to_bound f B (suc k) h = omega (arith, sum_to_bound f B k (λ i l. h i (omega arith)), h k (omega arith), mul-suc B k)

-- the first term apart
pub sum_to_first : (f : ℕ → ℕ) (k : ℕ) → sum_to f (suc k) ≡ f 0 + sum_to (λ i. f (suc i)) k
unfolding sum_to
sum_to_first f zero = omega arith
sum_to_first f (suc k) = omega (arith, sum_to_first f k)

-- two sums that add up term by term
pub sum_to_add : (f g h : ℕ → ℕ) (k : ℕ) → ((i : ℕ) → i < k → f i + g i ≡ h i) → sum_to f k + sum_to g k ≡ sum_to h k
unfolding sum_to
sum_to_add f g h zero e = refl
sum_to_add f g h (suc k) e = omega (arith, sum_to_add f g h k (λ i p. e i (omega arith)), e k (omega arith))

pub sum_to_append : (f : ℕ → ℕ) (k l : ℕ) → sum_to f (k + l) ≡ sum_to f k + sum_to (λ i. f (k + i)) l
unfolding sum_to
sum_to_append f k zero = rw (add-zero k) (omega arith)
sum_to_append f k (suc l) = rw add-suc (omega (arith, sum_to_append f k l))

-- a sum whose terms count below k alone
pub sum_to_front : (f : ℕ → ℕ) (k l : ℕ) → k ≤ l → sum_to (λ i. pick (ltb i k) (f i) 0) l ≡ sum_to f k
unfolding sum_to
sum_to_front f k zero h = let e : k ≡ 0 = omega arith in rw e
sum_to_front f k (suc l) h = go (sum_to_front f k l) (dec_lt l k)
  where
    go : (k ≤ l → sum_to (λ i. pick (ltb i k) (f i) 0) l ≡ sum_to f k) → Dec (l < k)
        → sum_to (λ i. pick (ltb i k) (f i) 0) l + pick (ltb l k) (f l) 0 ≡ sum_to f k
    go ih (yes p) =
        let e : k ≡ suc l = omega arith in
        rw e (sum_to_cong (λ i. pick (ltb i (suc l)) (f i) 0) f (suc l) (λ i q. rw (lt-ltb i (suc l) q)))
    go ih (no p) = rw (le-ltb l k (omega (arith, p))) (omega (arith, ih (omega (arith, p))))

-- 1 for the number c, 0 for the others
abbrev pub one : ℕ → ℕ → ℕ
one c x = pick (eqb x c) 1 0

-- Sources, each with a target below n, no two with the same; some of them are chosen. The weights of the chosen sources' targets are those of the targets of chosen sources.
module _ (source chosen : ℕ → Bool) (target weight : ℕ → ℕ) (n : ℕ) where
  -- source a is chosen, with target c
  abbrev hits : ℕ → ℕ → Bool
  hits c a = source a && (eqb (target a) c && chosen a)

  target_new : (m : ℕ) → source m ≡ true → sum_to (λ a. pick (source a) (one (target m) (target a)) 0) (suc m) ≤ 1 → any_below (hits (target m)) m ≡ false
  unfolding sum_to
  target_new m e k = go (any_below (hits (target m)) m) refl
    where
      f : ℕ → ℕ
      f a = pick (source a) (one (target m) (target a)) 0

      go : (t : Bool) → any_below (hits (target m)) m ≡ t → t ≡ false
      go false q = refl
      go true q =
          let (i, l, x) = any_below_true (hits (target m)) m q in
          let (s, y) = and_both (source i) (eqb (target i) (target m) && chosen i) x in
          let (z, u) = and_both (eqb (target i) (target m)) (chosen i) y in
          let p : 1 ≤ sum_to f m = rw (s, z) at (sum_to_term f i m l) in
          let r : sum_to f m + 1 ≤ 1 = rw (e, eq-eqb (target m) (target m) refl) at k in
          absurd (omega arith)

  pub sum_targets : (m : ℕ) → ((a : ℕ) → a < m → source a ≡ true → target a < n)
      → ((c : ℕ) → sum_to (λ a. pick (source a) (one c (target a)) 0) m ≤ 1)
      → sum_to (λ a. pick (chosen a) (pick (source a) (weight (target a)) 0) 0) m
      ≡ sum_to (λ c. pick (any_below (λ a. source a && (eqb (target a) c && chosen a)) m) (weight c) 0) n
  unfolding sum_to any_below
  sum_targets zero h k = sym (sum_to_zero _ n (λ i p. refl))
  sum_targets (suc m) h k =
      go (source m) (chosen m) refl refl (sum_targets m (λ a p. h a (omega arith)) (λ c. omega (arith, k c)))
    where
      W : ℕ → ℕ → ℕ
      W x c = pick (any_below (hits c) x) (weight c) 0

      S : ℕ
      S = sum_to (λ a. pick (chosen a) (pick (source a) (weight (target a)) 0) 0) m

      same : (c : ℕ) → hits c m ≡ false → W m c ≡ W (suc m) c
      same c e = rw e

      go : (s t : Bool) → source m ≡ s → chosen m ≡ t → S ≡ sum_to (W m) n → S + pick t (pick s (weight (target m)) 0) 0 ≡ sum_to (W (suc m)) n
      go false false p q ih = omega (arith, sum_to_cong (W m) (W (suc m)) n (λ c i. same c (rw p)))
      go false true p q ih = omega (arith, sum_to_cong (W m) (W (suc m)) n (λ c i. same c (rw p)))
      go true false p q ih = omega (arith, sum_to_cong (W m) (W (suc m)) n (λ c i. same c (rw (p, q) (and-false (eqb (target m) c)))))
      go true true p q ih =
          let t : ℕ = target m in
          let old : W m t ≡ 0 = rw (target_new m p (k t)) in
          let new : W (suc m) t ≡ weight t = rw (p, eq-eqb t t refl, q) in
          omega (arith, sum_to_one (W m) (W (suc m)) t n (h m (omega arith) p) (λ c i d. same c (rw (p, ne_eqb t c (λ e. d (sym e))))))
