-- `dequetest::lines::mark_once` meets its contract. The invariant: the threads from place i on are marked, and none stands twice among them.
use Rattle.dequetest.proofs.Walking.{MarkedFrom}
use Rattle.dequetest.proofs.lines.mark_once.Given as goal

abbrev pub invariant-loop-i : goal.invariant-loop-i
invariant-loop-i l = MarkedFrom l.row l.len l.marks l.i
