-- `soundness::bodies::statuses_follow` meets its contract. The invariant: the threads below t pass the test.
use Rattle.table.specs.Format.{table_of}
use Rattle.schedule.specs.Sound.{status_follows}
use Rattle.order.proofs.Every.{Passed}
use Rattle.soundness.proofs.bodies.statuses_follow.Given as goal

abbrev pub invariant-loop-t : goal.invariant-loop-t
invariant-loop-t l = Passed (status_follows (table_of l.table) l.next l.status) l.t
