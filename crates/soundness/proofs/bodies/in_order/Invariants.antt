-- `soundness::bodies::in_order` meets its contract. The invariant: the actions of the threads below t are in order.
use Rattle.table.specs.Format.{table_of}
use Rattle.soundness.specs.Code.Checks.{body_in_order}
use Rattle.order.proofs.Every.{Passed}
use Rattle.soundness.proofs.bodies.in_order.Given as goal

abbrev pub invariant-loop-t : goal.invariant-loop-t
invariant-loop-t l = Passed (body_in_order (table_of l.table) l.next l.status) l.t
