-- `assembly::put::actions_after` meets its contract: an action counts.
use mathlib.Core.Path.{sym, ◌∙◌}
use native.Mathlib.Omega.{arith}
use Rattle.assembly.proofs.put.actions_after.Goals as goal

pub overflow_add-result : goal.overflow_add-result
overflow_add-result c = omega (arith, c.requires)

pub returns-then-is_of : goal.returns-then-is_of
returns-then-is_of c = rw (sym c.is_of.ensures ∙ c.if-is_of.true)

pub returns-else-is_of : goal.returns-else-is_of
returns-else-is_of c = rw (sym c.is_of.ensures ∙ c.if-is_of.false)
