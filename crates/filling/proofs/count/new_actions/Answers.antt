-- `filling::count::new_actions` meets its contract.
use mathlib.Core.Path.{◌≡◌}
use Prim.Native.Nat.{ℕ, ◌≤◌, ◌<◌}
use native.Mathlib.Omega.{arith}
use borrow.Author.Tests.{le-ltb, lt-ltb}
use lib.Dec.{ltb}
use Rattle.table.specs.Sum.{pick}
use Rattle.filling.proofs.count.new_actions.Goals as goal

none_new : (x K d : ℕ) → x ≤ K → 0 ≡ pick (ltb K x) d 0
none_new x K d h = rw (le-ltb K x h)

some_new : (x K d r : ℕ) → K < x → r ≡ d → r ≡ pick (ltb K x) d 0
some_new x K d r h e = rw (lt-ltb K x h) e

pub returns-then-x-quota : goal.returns-then-x-quota
returns-then-x-quota c = record { value = none_new _ _ _ c.if-x-quota.true; small = omega arith }

pub returns-then-d-eq0 : goal.returns-then-d-eq0
returns-then-d-eq0 c = record { value = some_new _ _ _ _ c.if-x-quota.false (omega (arith, c.dummies_of-d.ensures.value, c.if-d-eq0.true)); small = omega arith }

pub returns-else-d-eq0 : goal.returns-else-d-eq0
returns-else-d-eq0 c = record { value = some_new _ _ _ _ c.if-x-quota.false (omega (arith, c.dummies_of-d.ensures.value)); small = omega (arith, c.dummies_of-d.ensures.small) }
