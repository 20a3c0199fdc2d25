-- `origin::above` meets its contract.
use mathlib.Core.Path.{◌≡◌}
use Prim.Native.Nat.{ℕ, ◌≤◌, ◌<◌}
use native.Mathlib.Omega.{arith}
use borrow.Author.Tests.{lt-ltb, le-ltb}
use lib.Dec.{ltb}
use Rattle.table.specs.Sum.{pick}
use Rattle.origin.proofs.above.Goals as goal

some : (K x : ℕ) → K < x → ◌≡◌ {A = ℕ} 1 (pick (ltb K x) 1 0)
some K x h = rw (lt-ltb K x h)

none : (K x : ℕ) → x ≤ K → ◌≡◌ {A = ℕ} 0 (pick (ltb K x) 1 0)
none K x h = rw (le-ltb K x h)

pub returns-then-quota-x : goal.returns-then-quota-x
returns-then-quota-x c = record { value = some _ _ c.if-quota-x.true; small = omega arith }

pub returns-else-quota-x : goal.returns-else-quota-x
returns-else-quota-x c = record { value = none _ _ c.if-quota-x.false; small = omega arith }
