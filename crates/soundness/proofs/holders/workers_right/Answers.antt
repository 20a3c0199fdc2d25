use mathlib.Core.Bool.{not}
use mathlib.Core.Path.{ap}
use Rattle.schedule.specs.Sound.{worker_right}
use Rattle.order.proofs.Every.{passed_none, passed_next, passed_stop, passed_all}
use Rattle.soundness.proofs.holders.workers_right.Goals as goal

pub loop-w-init : goal.loop-w-init
loop-w-init c = passed_none

pub returns-then-not-worker_right : goal.returns-then-not-worker_right
unfolding worker_right
returns-then-not-worker_right c =
    passed_stop c.loop-w.invariant c.loop-w-test.true c.worker_right.ensures (ap not c.if-not-worker_right.true)

pub loop-w-preserved : goal.loop-w-preserved
unfolding worker_right
loop-w-preserved c = passed_next c.loop-w.invariant c.worker_right.ensures (ap not c.if-not-worker_right.false)

pub returns : goal.returns
returns c = passed_all c.loop-w.invariant c.loop-w-test.false
