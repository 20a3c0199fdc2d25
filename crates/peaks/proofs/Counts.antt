-- Counting by a test: at most as many targets as sources, and one fewer than all where one fails.
use mathlib.Core.Path.{◌≡◌, refl, sym}
use Prim.Native.Nat.{ℕ, zero, suc, ◌+◌, ◌*◌, ◌≤◌, ◌<◌}
use native.Mathlib.Omega.{arith}
use native.Mathlib.Nat.{mul-suc, mul-zero}
use native.Mathlib.Decide.{ℕ_discrete, dec_lt}
use mathlib.Core.Bool.{Bool, true, false, ◌&&◌, not}
use lib.Dec.{eqb}
use borrow.Author.Tests.{eq-eqb, ne_eqb}
use Rattle.table.specs.Sum.{pick, sum_to}
use Rattle.table.proofs.Tests.{no_way}
use Rattle.table.proofs.Sums.{sum_to_cong, sum_to_zero, sum_to_one}
use Rattle.order.specs.Words.{count_below}
use Rattle.order.proofs.Words.{never_true, and_exactly, not_exactly}
use Rattle.order.proofs.CountBelow.{count_bound}
use Rattle.table.proofs.Tests.{pick_most}

pub few_targets : (m n : ℕ) (P Q : ℕ → Bool) (g : ℕ → ℕ) → ((t : ℕ) → t < n → P t ≡ true → (w : ℕ) × (w < m) × (Q w ≡ true) × (g w ≡ t)) → count_below P n ≤ count_below Q m
unfolding sum_to
few_targets zero n P Q g h = omega (arith, sum_to_zero (λ t. pick (P t) 1 0) n (λ t i. rw (never_true (P t) (λ e. none t i e))))
  where
    none : (t : ℕ) → t < n → P t ≡ true → ⊥
    none t i e = let x = h t i e in omega (arith, x.1)
few_targets (suc m) n P Q g h = go (Q m) refl (λ P' k. few_targets m n P' Q g k)
  where
    less : ℕ → Bool
    less t = P t && not (eqb t (g m))

    one_more : count_below P n ≤ suc (count_below less n)
    one_more = at (dec_lt (g m) n)
      where
        same : (t : ℕ) → (t ≡ g m → ⊥) → ◌≡◌ {A = ℕ} (pick (P t) 1 0) (pick (less t) 1 0)
        same t d = rw (ne_eqb t (g m) d) (triv (P t))
          where
            triv : (q : Bool) → ◌≡◌ {A = ℕ} (pick q 1 0) (pick (q && true) 1 0)
            triv true = refl
            triv false = refl

        at : Dec (g m < n) → count_below P n ≤ suc (count_below less n)
        at (yes i) = omega (arith, sum_to_one (λ t. pick (P t) 1 0) (λ t. pick (less t) 1 0) (g m) n i (λ t j d. same t d), pick_most (P (g m)) 1)
        at (no i) = omega (arith, sum_to_cong (λ t. pick (P t) 1 0) (λ t. pick (less t) 1 0) n (λ t j. same t (λ e. omega (arith, i))))

    lower : (t w : ℕ) → w < suc m → (w ≡ m → ⊥) → w < m
    lower t w i d = omega (arith, d)

    go : (q : Bool) → Q m ≡ q → ((P' : ℕ → Bool) → ((t : ℕ) → t < n → P' t ≡ true → (w : ℕ) × (w < m) × (Q w ≡ true) × (g w ≡ t)) → count_below P' n ≤ count_below Q m)
        → count_below P n ≤ count_below Q m + pick q 1 0
    go true e ih = omega (arith, one_more, ih less found)
      where
        found : (t : ℕ) → t < n → less t ≡ true → (w : ℕ) × (w < m) × (Q w ≡ true) × (g w ≡ t)
        found t i y =
            let (a, b) = (and_exactly (P t) (not (eqb t (g m)))).0 y in
            let (w, j, q, r) = h t i a in
            let d : w ≡ m → ⊥ = λ z. no_way (let s : eqb t (g m) ≡ true = eq-eqb t (g m) (cc) in cc ((not_exactly (eqb t (g m))).0 b)) in
            (w, omega (arith, d), q, r)
    go false e ih = omega (arith, ih P found)
      where
        found : (t : ℕ) → t < n → P t ≡ true → (w : ℕ) × (w < m) × (Q w ≡ true) × (g w ≡ t)
        found t i y =
            let (w, j, q, r) = h t i y in
            let d : w ≡ m → ⊥ = λ z. no_way (let s : Q m ≡ true = rw z at q in cc) in
            (w, omega (arith, d), q, r)

pub one_fails : (Q : ℕ → Bool) (k j : ℕ) → j < k → Q j ≡ false → suc (count_below Q k) ≤ k
unfolding sum_to
one_fails Q zero j h e = absurd (omega arith)
one_fails Q (suc k) j h e = go (Q k) refl (ℕ_discrete j k) (one_fails Q k j)
  where
    go : (q : Bool) → Q k ≡ q → Dec (j ≡ k) → (j < k → Q j ≡ false → suc (count_below Q k) ≤ k) → suc (count_below Q k + pick q 1 0) ≤ suc k
    go false i d ih = omega (arith, count_bound Q k)
    go true i (yes d) ih = no_way (let z : Q k ≡ false = rw (← d) e in cc)
    go true i (no d) ih = omega (arith, ih (omega (arith, d)) e)

pub count_times : (P : ℕ → Bool) (x n : ℕ) → sum_to (λ t. pick (P t) x 0) n ≡ x * count_below P n
unfolding sum_to
count_times P x zero = sym (mul-zero x)
count_times P x (suc n) = go (P n) (count_times P x n)
  where
    go : (q : Bool) → sum_to (λ t. pick (P t) x 0) n ≡ x * count_below P n → sum_to (λ t. pick (P t) x 0) n + pick q x 0 ≡ x * (count_below P n + pick q 1 0)
    go true e =
        let z : count_below P n + 1 ≡ suc (count_below P n) = omega arith in
        rw z (omega (arith, mul-suc x (count_below P n)))
    go false e =
        let z : count_below P n + 0 ≡ count_below P n = omega arith in
        rw z (omega arith)
