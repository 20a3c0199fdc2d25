-- `filling::count::dummies_of` meets its contract. Division by 0 gives 0, and x / quota rounded up is at most x.
use mathlib.Core.Path.{◌≡◌, refl}
use Prim.Native.Nat.{ℕ, ◌+◌, ◌-◌, ◌/◌, ◌<◌}
use native.Mathlib.Nat.{div-zero, div-lt_iff_lt-mul, mul-le-mul_left}
use native.Mathlib.Omega.{arith}
use Rattle.filling.proofs.count.dummies_of.Goals as goal

by_none : (x K : ℕ) → K ≡ 0 → 0 ≡ (x + K - 1) / K
by_none x K e = rw (e, div-zero)

none_at : (x K : ℕ) → (K ≡ 0 → ⊥) → x ≡ 0 → 0 ≡ (x + K - 1) / K
none_at x K h e =
    let p : 0 < K = omega (arith, h) in
    let q : (x + K - 1) / K < 1 = (div-lt_iff_lt-mul {k = K} p).1 (omega (arith, mul-le-mul_left 1 p)) in
    omega arith

few : (x K : ℕ) → (K ≡ 0 → ⊥) → (x ≡ 0 → ⊥) → x < 16777216 → (x + K - 1) / K < 16777216
few x K h i j =
    let p : 0 < K = omega (arith, h) in
    (div-lt_iff_lt-mul {k = K} p).1 (omega (arith, i, mul-le-mul_left 16777215 p))

pub returns-then-quota-eq0 : goal.returns-then-quota-eq0
returns-then-quota-eq0 c = record { value = by_none _ _ c.if-quota-eq0.true; small = omega arith }

pub returns-then-x-eq0 : goal.returns-then-x-eq0
returns-then-x-eq0 c = record { value = none_at _ _ c.if-quota-eq0.false c.if-x-eq0.true; small = omega arith }

pub returns : goal.returns
returns c = record { value = refl; small = few _ _ c.if-quota-eq0.false c.if-x-eq0.false c.requires.x_bound }
