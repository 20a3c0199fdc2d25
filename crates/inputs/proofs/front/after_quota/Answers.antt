-- `inputs::front::after_quota` meets its contract: an order, a limit, or neither.
use native.Mathlib.Omega.{arith}
use mathlib.Core.Path.{refl, sym, ◌∙◌}
use Rattle.inputs.specs.Front.{step_with}
use Rattle.inputs.proofs.Given.{plainly_stepping}
use Rattle.inputs.proofs.front.after_quota.Goals as goal

pub turns_line-requires : goal.turns_line-requires
turns_line-requires c = c.requires

pub returns-then-same : goal.returns-then-same
unfolding step_with
returns-then-same c = rw (sym c.same.ensures ∙ c.if-same.true) c.turns_line.ensures

pub returns-then-same-2 : goal.returns-then-same-2
unfolding step_with
returns-then-same-2 c = rw (sym c.same.ensures ∙ c.if-same.false, sym c.same-2.ensures ∙ c.if-same-2.true) (plainly_stepping _ c.limit_line.ensures)

pub returns : goal.returns
unfolding step_with
returns c = rw (sym c.same.ensures ∙ c.if-same.false, sym c.same-2.ensures ∙ c.if-same-2.false) (record { value = refl; few = omega arith })
