-- R along the actions is R; and no sum along them is large.
use Rattle.std.proofs.Common.{◌≡◌, ℕ, zero, suc, ◌+◌, ◌-◌, ◌*◌, ◌<◌, ◌≤◌, Bool, true, false, refl, add-zero, add-suc, arith}
use native.Mathlib.Decide.{dec_lt}
use Rattle.table.specs.Sum.{pick, sum_to, greatest_to}
use Rattle.table.specs.Format.{Table}
use Rattle.table.specs.Checks.{owner, end_of, alloc_of, free_of}
use Rattle.table.proofs.Bodies.{after_end, body_within, end_kind, owner_below_lem, owner_end, owner_first}
use Rattle.table.proofs.NestedThreads.{greatest_at, greatest_under}
use Rattle.order.proofs.Lawful.{Lawful}
use Rattle.peaks.specs.Rests.{rests, own_to, rested, rise, R, stretch_begins, drawn_at, drawn_before}
use Rattle.peaks.proofs.Unpreempted.{rests_first, rests_end}
use Rattle.peaks.proofs.Rises.{rise_within}
use Rattle.peak_walk.specs.Along.{since_rest, rise_along}

-- ---- sizes

pub since_small : (T : Table) (own : ℕ → ℕ) → ((a : ℕ) → own a ≤ 16777215) → (a : ℕ) → since_rest T own a ≤ 16777215 * a
unfolding since_rest
since_small T own h zero = omega arith
since_small T own h (suc a) = go (rests T (suc a)) (since_small T own h a)
  where
    go : (q : Bool) → since_rest T own a ≤ 16777215 * a → pick q 0 (since_rest T own a + own a) ≤ 16777215 * suc a
    go true ih = omega arith
    go false ih = omega (arith, ih, h a)

pub drawn_small : (T : Table) (K : ℕ) → ((a : ℕ) → drawn_at T K a ≤ 16777215) → (a : ℕ) → drawn_before T K a ≤ 16777215 * a
unfolding drawn_before
drawn_small T K h zero = omega arith
drawn_small T K h (suc a) = go (stretch_begins T (suc a)) (drawn_small T K h a)
  where
    go : (q : Bool) → drawn_before T K a ≤ 16777215 * a → pick q 0 (drawn_before T K a + drawn_at T K a) ≤ 16777215 * suc a
    go true ih = omega arith
    go false ih = omega (arith, ih, h a)

-- ---- R

since_none : (T : Table) (own : ℕ → ℕ) (a : ℕ) → rests T a ≡ true → since_rest T own a ≡ 0
unfolding since_rest
since_none T own zero e = refl
since_none T own (suc a) e = rw e

module _ (T : Table) (l : Lawful T) where
  since_is : (own : ℕ → ℕ) (t k : ℕ) → t < T.threads → own_to T own t (rested T t k) + since_rest T own (T.first t + k) ≡ own_to T own t k
  unfolding rested since_rest sum_to
  since_is own t zero h = rw (add-zero (T.first t)) (omega (arith, since_none T own (T.first t) (rests_first T l t h)))
  since_is own t (suc k) h = rw (add-suc (T.first t) k) (go (rests T (suc (T.first t + k))) (since_is own t k h))
    where
      go : (q : Bool) → own_to T own t (rested T t k) + since_rest T own (T.first t + k) ≡ own_to T own t k
          → own_to T own t (pick q (suc k) (rested T t k)) + pick q 0 (since_rest T own (T.first t + k) + own (T.first t + k)) ≡ own_to T own t k + own (T.first t + k)
      go true ih = omega arith
      go false ih = omega (arith, ih)

  rise_is : (t k : ℕ) → t < T.threads → rise T t k ≡ since_rest T (alloc_of T) (T.first t + k) - since_rest T (free_of T) (T.first t + k)
  unfolding rise
  rise_is t k h = omega (arith, since_is (alloc_of T) t k h, since_is (free_of T) t k h)

  pub rise_along_lem : R T ≡ rise_along T
  unfolding rise_along R
  rise_along_lem =
      let le : R T ≤ rise_along T = greatest_under _ T.threads _ (λ t h. greatest_under (rise T t) (suc (T.count t)) _ (λ k i. each t k h (omega arith) (dec_lt k (T.count t)))) in
      let ge : rise_along T ≤ R T = greatest_under _ T.actions _ back in
      omega arith
    where
      f : ℕ → ℕ
      f a = since_rest T (alloc_of T) a - since_rest T (free_of T) a

      each : (t k : ℕ) → t < T.threads → k ≤ T.count t → Dec (k < T.count t) → rise T t k ≤ greatest_to (λ a. since_rest T (alloc_of T) a - since_rest T (free_of T) a) T.actions
      each t k h i (yes j) =
          omega (
            arith,
            rise_is t k h,
            greatest_at (λ a. since_rest T (alloc_of T) a - since_rest T (free_of T) a) T.actions (T.first t + k) (omega (arith, body_within T l.contents t h)),
          )
      each t k h i (no j) =
          let e : T.first t + k ≡ suc (end_of T t) = omega (arith, i, j, after_end T l.contents t h) in
          let z : since_rest T (alloc_of T) (T.first t + k) ≡ 0 = rw e (since_none T (alloc_of T) (suc (end_of T t)) (rests_end T (end_of T t) (end_kind T l.contents l.bodies t h))) in
          omega (arith, rise_is t k h, z)

      back : (a : ℕ) → a < T.actions → since_rest T (alloc_of T) a - since_rest T (free_of T) a ≤ R T
      back a w =
          let t : ℕ = owner T a in
          let h : t < T.threads = owner_below_lem T l.contents a w in
          let e : T.first t + (a - T.first t) ≡ a = omega (arith, owner_first T l.contents a w) in
          omega (arith, rw e at (rise_is t (a - T.first t) h), rise_within T t h (a - T.first t) (omega (arith, owner_end T l.contents a w, owner_first T l.contents a w)))
