-- `checks::balance::child_amount` meets its contract.
use native.Mathlib.Omega.{arith}
use Rattle.table.specs.declared.kinds.Kind.TheVariants.{Join as join}
use Rattle.table.proofs.Tests.{same_is, other_is}
use Rattle.checks.proofs.balance.child_amount.Goals as goal

pub offset_bounds-amounts-x : goal.offset_bounds-amounts-x
offset_bounds-amounts-x c = omega (arith, c.requires c.in-Join.is)

pub bounds-amounts-x : goal.bounds-amounts-x
bounds-amounts-x c = c.requires c.in-Join.is

pub returns-in-Join : goal.returns-in-Join
returns-in-Join c = rw (same_is join _ c.in-Join.is)

pub returns-in_default : goal.returns-in_default
returns-in_default c = rw (other_is join _ c.in_default.not-Join)
