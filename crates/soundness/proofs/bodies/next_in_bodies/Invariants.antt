-- `soundness::bodies::next_in_bodies` meets its contract. The invariant: the threads below t pass the test.
use Rattle.table.specs.Format.{table_of}
use Rattle.schedule.specs.Sound.{next_in_body}
use Rattle.order.proofs.Every.{Passed}
use Rattle.soundness.proofs.bodies.next_in_bodies.Given as goal

abbrev pub invariant-loop-t : goal.invariant-loop-t
invariant-loop-t l = Passed (next_in_body (table_of l.table) l.next) l.t
