-- From a thread's last resting place on, its balance and its open children's weights rise by at most its own allocs less frees.
use mathlib.Core.Path.{◌≡◌, refl}
use Prim.Native.Nat.{ℕ, zero, suc, ◌+◌, ◌≤◌, ◌<◌}
use native.Mathlib.Omega.{arith}
use native.Mathlib.Nat.{add-suc, add-zero}
use mathlib.Core.Bool.{Bool, true, false}
use Rattle.table.specs.Sum.{pick, sum_to, sum_over, greatest_to}
use Rattle.table.specs.Format.{is, Table, kind}
use Rattle.table.specs.declared.kinds.Kind.TheVariants.{End as end, Fork as fork, Join as join}
use Rattle.table.specs.Checks.{alloc_of, free_of, open_before}
use Rattle.table.proofs.Tests.{is_true, or_neither}
use Rattle.table.proofs.Nesting.{open_join, open_same}
use Rattle.table.proofs.Amounts.{action_within}
use Rattle.table.proofs.NestedThreads.{greatest_at}
use Rattle.schedule.specs.Sound.{balance_to}
use Rattle.order.proofs.Lawful.{Lawful}
use Rattle.schedule.proofs.Sound.Balances.{balance_step, balance_join}
use Rattle.peaks.specs.Peak.{final}
use Rattle.peaks.specs.Rests.{stretch_begins, rests, own_to, rested, rise, R}
use Rattle.peaks.proofs.Opens.{reach}
use Rattle.peaks.proofs.Unpreempted.{rests_first}
use Rattle.table.proofs.Peaks.{join_none}

module _ (T : Table) (t : ℕ) where
  pub rested_within : (k : ℕ) → rested T t k ≤ k
  unfolding rested
  rested_within zero = omega arith
  rested_within (suc k) = go (rests T (T.first t + suc k)) (rested_within k)
    where
      go : (q : Bool) → rested T t k ≤ k → pick q (suc k) (rested T t k) ≤ suc k
      go true h = omega arith
      go false h = omega arith

  pub rested_rests : Lawful T → t < T.threads → (k : ℕ) → rests T (T.first t + rested T t k) ≡ true
  unfolding rested
  rested_rests l h zero = rw add-zero (rests_first T l t h)
  rested_rests l h (suc k) = go (rests T (T.first t + suc k)) refl (rested_rests l h k)
    where
      go : (q : Bool) → rests T (T.first t + suc k) ≡ q → rests T (T.first t + rested T t k) ≡ true → rests T (T.first t + pick q (suc k) (rested T t k)) ≡ true
      go true i ih = i
      go false i ih = ih

  pub rise_within : t < T.threads → (k : ℕ) → k ≤ T.count t → rise T t k ≤ R T
  unfolding R
  rise_within h k i =
      omega (
        arith,
        greatest_at (rise T t) (suc (T.count t)) k (omega arith),
        greatest_at (λ t. greatest_to (rise T t) (suc (T.count t))) T.threads t h,
      )

-- an action that no resting place follows neither ends its thread nor forks
pub rests_not : (T : Table) (a : ℕ) → rests T (suc a) ≡ false → (is end (kind T a) ≡ false) × (is fork (kind T a) ≡ false)
unfolding rests stretch_begins
rests_not T a e = or_neither _ _ (or_neither _ _ e).0

module _ (T : Table) (l : Lawful T) (weight : ℕ → ℕ) (t : ℕ) (h : t < T.threads) where
  abbrev A : ℕ → ℕ
  A = own_to T (alloc_of T) t

  abbrev F : ℕ → ℕ
  F = own_to T (free_of T) t

  -- one action on, where no fork and no end is done and a joined child counts for its final balance at least
  reach_next : (k : ℕ) → k < T.count t → is end (kind T (T.first t + k)) ≡ false → is fork (kind T (T.first t + k)) ≡ false
      → (kind T (T.first t + k) ≡ join → final T (T.argument (T.first t + k)) ≤ weight (T.argument (T.first t + k)))
      → reach T weight t (suc k) + free_of T (T.first t + k) ≤ reach T weight t k + alloc_of T (T.first t + k)
  unfolding reach sum_over
  reach_next k i e f c = rw add-suc (go (is join (kind T a)) refl)
    where
      a : ℕ
      a = T.first t + k

      go : (q : Bool) → is join (kind T a) ≡ q
          → balance_to T t (suc k) + sum_over weight (open_before T (suc a)) + free_of T a ≤ balance_to T t k + sum_over weight (open_before T a) + alloc_of T a
      go true q =
          let j : kind T a ≡ join = is_true join (kind T a) q in
          let w : a < T.actions = action_within T l.contents l.bodies t k h i in
          rw (open_join T l.contents l.bodies l.nesting a w j) (omega (arith, c j, balance_join T l t h k i j, join_none T a j))
      go false q = rw (open_same T l.contents l.bodies l.nesting a e f q) (omega (arith, balance_step T l t h k i q))

  -- since the last resting place, the frees and the allocs on either side
  reach_since : (k : ℕ) → k ≤ T.count t
      → ((i : ℕ) → i < k → kind T (T.first t + i) ≡ join → final T (T.argument (T.first t + i)) ≤ weight (T.argument (T.first t + i)))
      → reach T weight t k + (A (rested T t k) + F k) ≤ reach T weight t (rested T t k) + (A k + F (rested T t k))
  unfolding rested sum_to
  reach_since zero i c = omega arith
  reach_since (suc k) i c = go (rests T (T.first t + suc k)) refl (reach_since k (omega arith) (λ j m. c j (omega arith)))
    where
      go : (q : Bool) → rests T (T.first t + suc k) ≡ q → reach T weight t k + (A (rested T t k) + F k) ≤ reach T weight t (rested T t k) + (A k + F (rested T t k))
          → reach T weight t (suc k) + (A (pick q (suc k) (rested T t k)) + F (suc k)) ≤ reach T weight t (pick q (suc k) (rested T t k)) + (A (suc k) + F (pick q (suc k) (rested T t k)))
      go true q ih = omega arith
      go false q ih =
          let z = rests_not T (T.first t + k) (rw add-suc at q) in
          omega (arith, reach_next k (omega arith) z.0 z.1 (c k (omega arith)))

  pub reach_rested : (k : ℕ) → k ≤ T.count t
      → ((i : ℕ) → i < k → kind T (T.first t + i) ≡ join → final T (T.argument (T.first t + i)) ≤ weight (T.argument (T.first t + i)))
      → reach T weight t k ≤ reach T weight t (rested T t k) + rise T t k
  unfolding rise
  reach_rested k i c = omega (arith, reach_since k i c)
