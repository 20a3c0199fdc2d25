-- `facts::level::next_level` meets its contract: a join comes after the later of two, any other action after one.
use native.Mathlib.Omega.{arith}
use Rattle.table.specs.declared.kinds.Kind.TheVariants.{Join as join}
use Rattle.table.proofs.Tests.{same_is, other_is}
use Rattle.facts.proofs.level.next_level.Goals as goal

pub offset_bounds-ends-x : goal.offset_bounds-ends-x
offset_bounds-ends-x c = omega (arith, c.requires.1 c.in-Join.is)

pub bounds-ends-x : goal.bounds-ends-x
bounds-ends-x c = (c.requires.1 c.in-Join.is).0

pub overflow_add-result : goal.overflow_add-result
overflow_add-result c = omega (arith, c.requires.1 c.in-Join.is, c.max.ensures)

pub returns-in-Join : goal.returns-in-Join
returns-in-Join c = rw (same_is join _ c.in-Join.is) (omega (arith, c.max.ensures))

pub returns-in_default : goal.returns-in_default
returns-in_default c = rw (other_is join _ c.in_default.not-Join) (omega arith)
