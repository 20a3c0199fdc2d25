-- `soundness::unused::unused_right` meets its contract. The invariant: the threads from n to t are unborn with next action 0.
use Rattle.schedule.specs.Sound.{unused}
use Rattle.order.proofs.Every.{PassedFrom}
use Rattle.soundness.proofs.unused.unused_right.Given as goal

abbrev pub invariant-loop-t : goal.invariant-loop-t
invariant-loop-t l = PassedFrom l.n (unused l.next l.status) l.t
