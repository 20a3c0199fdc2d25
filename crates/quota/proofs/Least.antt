-- The least quota in range: at least every alloc, and no more than that.
use mathlib.Core.Path.{◌≡◌}
use mathlib.Core.Logic.{◌↔◌}
use Prim.Native.Nat.{ℕ, zero, suc, ◌≤◌, ◌<◌, max}
use native.Mathlib.Omega.{arith}
use native.Mathlib.Decide.{ℕ_discrete}
use Rattle.table.specs.Sum.{greatest_to}
use Rattle.table.specs.Format.{Table}
use Rattle.table.specs.Checks.{alloc_of}
use Rattle.quota.specs.Quota.{least_quota}

-- the greatest of k values is at most K exactly if each of them is
pub greatest_to_exactly : (f : ℕ → ℕ) (k K : ℕ) → (greatest_to f k ≤ K) ↔ ((i : ℕ) → i < k → f i ≤ K)
unfolding greatest_to
greatest_to_exactly f zero K = ((λ h i l. absurd (omega arith)), (λ h. omega arith))
greatest_to_exactly f (suc k) K = (
  (λ h i l. go i ((greatest_to_exactly f k K).0 (omega arith)) h (ℕ_discrete i k) l),
  (λ h. omega (arith, (greatest_to_exactly f k K).1 (λ i l. h i (omega arith)), h k (omega arith))),
)
  where
    go : (i : ℕ) → ((j : ℕ) → j < k → f j ≤ K) → max (greatest_to f k) (f k) ≤ K → Dec (i ≡ k) → i < suc k → f i ≤ K
    go i below h (yes e) l = rw e (omega arith)
    go i below h (no n) l = below i (omega (arith, n))

-- a quota is at least the least exactly if it is at least 1 and at least every alloc
pub least_exactly : (T : Table) (K : ℕ) → (least_quota T ≤ K) ↔ ((1 ≤ K) × ((a : ℕ) → a < T.actions → alloc_of T a ≤ K))
unfolding least_quota
least_exactly T K =
    let g = greatest_to_exactly (alloc_of T) T.actions K in
    ((λ h. (omega arith, g.0 (omega arith))), (λ h. omega (arith, h.0, g.1 h.1)))
