-- The executable answer is the largest: K units of quota are paid for exactly up to the quotient, so that none in range serves or the quotient is the largest that does.
use mathlib.Core.Path.{◌≡◌, refl}
use mathlib.Core.Logic.{◌↔◌, ◌⊎◌, inl, inr, by_cases}
use Prim.Native.Nat.{ℕ, ◌+◌, ◌-◌, ◌*◌, ◌/◌, ◌≤◌, ◌<◌, min}
use native.Mathlib.Omega.{arith}
use native.Mathlib.Nat.{mul_comm, mul_assoc, mul-zero, le-div_iff_mul-le, le-min, min-le_left, min-le_right}
use native.Mathlib.Decide.{dec_lt}
use mathlib.Core.Bool.{Bool, true, false, ◌||◌}
use borrow.Author.Tests.{ltb-true, ltb-false, eqb-true, eqb-false}
use lib.Dec.{ltb, eqb}
use Rattle.table.specs.Sum.{pick}
use Rattle.table.specs.Format.{Table}
use Rattle.table.specs.Serial.{S1}
use Rattle.table.specs.Level.{D}
use Rattle.table.proofs.Tests.{or_neither}
use Rattle.schedule.specs.Begin.{max_quota}
use Rattle.schedule.specs.Memory.{limit}
use Rattle.quota.specs.Quota.{least_quota, Serves, IsLargest, NoneServes, cost_of, most_within, most_quota, no_quota}

-- ---- what each unit costs

-- the bound is S1 and the cost of K units
pub limit_cost : (T : Table) (p K b : ℕ) → limit T p K b ≡ S1 T + K * cost_of T p b
unfolding limit cost_of
limit_cost T p K b = rw (mul_comm b K, mul_assoc K b (p - 1), mul_assoc K (b * (p - 1)) (D T - 1))

-- "With p 1 or D 1 only S1 counts."
pub peak_alone : (T : Table) (p K b : ℕ) → (p ≡ 1) ⊎ (D T ≡ 1) → limit T p K b ≡ S1 T
unfolding limit
peak_alone T p K b (inl e) = rw e (omega arith)
peak_alone T p K b (inr e) = rw e (omega arith)

-- K units are paid for exactly up to the most
pub most_exactly : (cost spare K : ℕ) → K ≤ max_quota → (K * cost ≤ spare) ↔ (K ≤ most_within cost spare)
unfolding most_within
most_exactly cost spare K h = go (eqb cost 0) refl
  where
    go : (t : Bool) → eqb cost 0 ≡ t → (K * cost ≤ spare) ↔ (K ≤ pick t max_quota (min max_quota (spare / cost)))
    go true e =
        let z : cost ≡ 0 = eqb-true cost 0 e in
        ((λ l. h), (λ l. rw (z, mul-zero K) (omega arith)))
    go false e =
        let z : 0 < cost = omega (arith, eqb-false cost 0 e) in (
          (λ l. le-min h ((le-div_iff_mul-le z).1 l)),
          (λ l. (le-div_iff_mul-le z).0 (omega (arith, min-le_right max_quota (spare / cost)))),
        )

pub most_small : (cost spare : ℕ) → most_within cost spare ≤ max_quota
unfolding most_within
most_small cost spare = go (eqb cost 0)
  where
    go : (t : Bool) → pick t max_quota (min max_quota (spare / cost)) ≤ max_quota
    go true = omega arith
    go false = min-le_left max_quota (spare / cost)

-- ---- the largest

module _ (T : Table) (p b M : ℕ) where
  -- a quota that is not too large serves exactly if there is room for S1 and it is at most the most
  serves_exactly : (K : ℕ) → K ≤ max_quota → Serves T p b M K ↔ ((S1 T ≤ M) × (K ≤ most_quota T p b M))
  unfolding most_quota
  serves_exactly K h =
      let e : limit T p K b ≡ S1 T + K * cost_of T p b = limit_cost T p K b in
      let m = most_exactly (cost_of T p b) (M - S1 T) K h in (
        (λ l. (omega arith, m.0 (omega arith))),
        (λ l. omega (arith, m.1 l.1, l.0)),
      )

  most_within_lem : most_quota T p b M ≤ max_quota
  unfolding most_quota
  most_within_lem = most_small (cost_of T p b) (M - S1 T)

  -- 42 applies exactly if none serves
  none_serves : no_quota T p b M ≡ true → NoneServes T p b M
  unfolding no_quota
  none_serves e K r l = go (ltb M (S1 T)) refl e
    where
      f : (S1 T ≤ M) × (K ≤ most_quota T p b M)
      f = (serves_exactly K r.high).0 l

      go : (t : Bool) → ltb M (S1 T) ≡ t → (t || ltb (most_quota T p b M) (least_quota T)) ≡ true → ⊥
      go true d g = omega (arith, ltb-true M (S1 T) d, f.0)
      go false d g = omega (arith, ltb-true (most_quota T p b M) (least_quota T) g, f.1, r.low)

  -- and if it does not, the most is the largest
  pub most_largest : no_quota T p b M ≡ false → IsLargest T p b M (most_quota T p b M)
  unfolding no_quota
  most_largest e =
      let n = or_neither (ltb M (S1 T)) (ltb (most_quota T p b M) (least_quota T)) e in
      let u : S1 T ≤ M = ltb-false M (S1 T) n.0 in
      let v : least_quota T ≤ most_quota T p b M = ltb-false (most_quota T p b M) (least_quota T) n.1 in
      record {
        in_range = record { low = v; high = most_within_lem };
        serves = (serves_exactly (most_quota T p b M) most_within_lem).1 (u, omega arith);
        none_above = λ L h r l. omega (arith, ((serves_exactly L r.high).0 l).1);
      }

  -- there is one largest
  pub largest_one : (K L : ℕ) → IsLargest T p b M K → IsLargest T p b M L → K ≡ L
  largest_one K L k l =
      by_cases (dec_lt K L) (λ h. absurd (k.none_above L h l.in_range l.serves))
      (λ m. by_cases (dec_lt L K) (λ h. absurd (l.none_above K h k.in_range k.serves)) (λ n. omega (arith, m, n)))

  pub none_exactly : (no_quota T p b M ≡ true) ↔ NoneServes T p b M
  none_exactly = (none_serves, λ h. go h (no_quota T p b M) refl)
    where
      go : NoneServes T p b M → (t : Bool) → no_quota T p b M ≡ t → t ≡ true
      go h true e = refl
      go h false e = let k = most_largest e in absurd (h (most_quota T p b M) k.in_range k.serves)

  pub largest_exactly : (K : ℕ) → ((no_quota T p b M ≡ false) × (most_quota T p b M ≡ K)) ↔ IsLargest T p b M K
  largest_exactly K = ((λ h. rw h.1 at (most_largest h.0)), λ k. go k (no_quota T p b M) refl)
    where
      go : IsLargest T p b M K → (t : Bool) → no_quota T p b M ≡ t → (t ≡ false) × (most_quota T p b M ≡ K)
      go k true e = absurd (none_serves e K k.in_range k.serves)
      go k false e = (refl, largest_one (most_quota T p b M) K (most_largest e) k)
