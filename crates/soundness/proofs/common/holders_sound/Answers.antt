-- `soundness::common::holders_sound` meets its contract: the tests are the clauses, in their order.
use mathlib.Core.Path.{sym, ◌∙◌}
use Rattle.soundness.proofs.Chains.{cut, pass}
use Rattle.soundness.proofs.common.holders_sound.Goals as goal

pub returns-then-not-one_holder_each : goal.returns-then-not-one_holder_each
returns-then-not-one_holder_each c = cut _ (sym c.one_holder_each.ensures ∙ c.if-not-one_holder_each.true)

pub returns : goal.returns
returns c = pass (sym c.one_holder_each.ensures ∙ c.if-not-one_holder_each.false) c.workers_right.ensures
