-- `inputs::front::after_workers` meets its contract: quota, between, or neither.
use mathlib.Core.Path.{refl, sym, ◌∙◌}
use Rattle.inputs.specs.Front.{step_with}
use Rattle.inputs.proofs.front.after_workers.Goals as goal

pub returns-then-same : goal.returns-then-same
unfolding step_with
returns-then-same c = rw (sym c.same.ensures ∙ c.if-same.true) c.quota_line.ensures

pub returns-then-same-2 : goal.returns-then-same-2
unfolding step_with
returns-then-same-2 c = rw (sym c.same.ensures ∙ c.if-same.false, sym c.same-2.ensures ∙ c.if-same-2.true) c.between_line.ensures

pub returns : goal.returns
unfolding step_with
returns c = rw (sym c.same.ensures ∙ c.if-same.false, sym c.same-2.ensures ∙ c.if-same-2.false) (record { value = λ buf. refl; none = refl })
