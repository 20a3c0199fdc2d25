-- `facts::peak::child_amount` meets its contract.
use native.Mathlib.Omega.{arith}
use Rattle.table.specs.declared.kinds.Kind.TheVariants.{Fork as fork}
use Rattle.table.proofs.Tests.{same_is, other_is}
use Rattle.facts.proofs.peak.child_amount.Goals as goal

pub offset_bounds-amounts-x : goal.offset_bounds-amounts-x
offset_bounds-amounts-x c = omega (arith, c.requires c.in-Fork.is)

pub bounds-amounts-x : goal.bounds-amounts-x
bounds-amounts-x c = c.requires c.in-Fork.is

pub returns-in-Fork : goal.returns-in-Fork
returns-in-Fork c = rw (same_is fork _ c.in-Fork.is)

pub returns-in_default : goal.returns-in_default
returns-in_default c = rw (other_is fork _ c.in_default.not-Fork)
