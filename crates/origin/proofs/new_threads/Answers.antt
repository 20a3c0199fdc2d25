-- `origin::new_threads` meets its contract: x / quota rounded up is at least 1 of what is above the quota, and at most x.
use mathlib.Core.Path.{◌≡◌}
use Prim.Native.Nat.{ℕ, ◌+◌, ◌-◌, ◌/◌, ◌≤◌, ◌<◌}
use native.Mathlib.Nat.{div-lt_iff_lt-mul, le-div_iff_mul-le, mul-le-mul_left}
use native.Mathlib.Omega.{arith}
use borrow.Author.Tests.{le-ltb, lt-ltb}
use lib.Dec.{ltb}
use Rattle.table.specs.Sum.{pick}
use Rattle.origin.proofs.new_threads.Goals as goal

none_new : (x K d : ℕ) → x ≤ K → 0 ≡ pick (ltb K x) d 0
none_new x K d h = rw (le-ltb K x h)

some_new : (x K d : ℕ) → K < x → d ≡ pick (ltb K x) d 0
some_new x K d h = rw (lt-ltb K x h)

module _ (x K : ℕ) (some : 1 ≤ K) (above : K < x) where
  one : 1 ≤ (x + K - 1) / K
  one = (le-div_iff_mul-le {k = K} some).1 (omega arith)

  few : x < 16777216 → (x + K - 1) / K < 16777216
  few j = (div-lt_iff_lt-mul {k = K} some).1 (omega (arith, mul-le-mul_left 16777215 some))

pub returns-then-x-quota : goal.returns-then-x-quota
returns-then-x-quota c = record { value = none_new _ _ _ c.if-x-quota.true; small = omega arith }

pub overflow_mul-result : goal.overflow_mul-result
overflow_mul-result c = omega (arith, few c.args.x c.args.quota c.requires.le_quota.0 c.if-x-quota.false c.requires.x_bound)

pub overflow_sub-result-2 : goal.overflow_sub-result-2
overflow_sub-result-2 c = omega (arith, one c.args.x c.args.quota c.requires.le_quota.0 c.if-x-quota.false)

pub returns : goal.returns
returns c = record { value = some_new _ _ _ c.if-x-quota.false; small = omega (arith, few c.args.x c.args.quota c.requires.le_quota.0 c.if-x-quota.false c.requires.x_bound) }
