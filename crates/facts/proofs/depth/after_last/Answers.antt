-- `facts::depth::after_last` meets its contract: a join comes after the later of two, any other action after one.
use native.Mathlib.Omega.{arith}
use Rattle.table.specs.declared.kinds.Kind.TheVariants.{Join as join}
use Rattle.table.proofs.Tests.{same_is, other_is}
use Rattle.facts.proofs.depth.after_last.Goals as goal

pub returns-in-Join : goal.returns-in-Join
returns-in-Join c = rw (same_is join _ c.in-Join.is) (omega (arith, c.max.ensures))

pub returns-in_default : goal.returns-in_default
returns-in_default c = rw (other_is join _ c.in_default.not-Join) (omega arith)
