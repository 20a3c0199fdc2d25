-- `soundness::holders::workers_right` meets its contract. The invariant: the workers below w are right.
use Rattle.schedule.specs.Sound.{worker_right}
use Rattle.order.proofs.Every.{Passed}
use Rattle.soundness.proofs.holders.workers_right.Given as goal

abbrev pub invariant-loop-w : goal.invariant-loop-w
invariant-loop-w l = Passed (worker_right l.n l.p l.quota l.x-items) l.w
