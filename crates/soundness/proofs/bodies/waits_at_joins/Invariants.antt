-- `soundness::bodies::waits_at_joins` meets its contract. The invariant: the threads below t pass the test.
use Rattle.table.specs.Format.{table_of}
use Rattle.schedule.specs.Sound.{waits_at_join}
use Rattle.order.proofs.Every.{Passed}
use Rattle.soundness.proofs.bodies.waits_at_joins.Given as goal

abbrev pub invariant-loop-t : goal.invariant-loop-t
invariant-loop-t l = Passed (waits_at_join (table_of l.table) l.next l.status) l.t
