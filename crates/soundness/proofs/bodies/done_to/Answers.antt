-- `soundness::bodies::done_to` meets its contract: both arms are the definition's.
use borrow.Author.Tests.{eq-eqb, ne_eqb}
use native.Mathlib.Omega.{arith}
use Rattle.soundness.proofs.bodies.done_to.Goals as goal

pub overflow_add-result : goal.overflow_add-result
overflow_add-result c = omega arith

pub returns-then-status-u-eq-ENDED : goal.returns-then-status-u-eq-ENDED
returns-then-status-u-eq-ENDED c = rw (eq-eqb _ _ c.if-status-u-eq-ENDED.true, c.wide-at.ensures.value)

pub returns-else-status-u-eq-ENDED : goal.returns-else-status-u-eq-ENDED
returns-else-status-u-eq-ENDED c = rw (ne_eqb _ _ c.if-status-u-eq-ENDED.false) c.wide-at.ensures.value
