-- `links::lay_threads` meets its contract. The invariant: the links are those of the row from place i on.
use Rattle.links.proofs.Laying.{LaidFrom}
use Rattle.links.proofs.lay_threads.Given as goal

abbrev pub invariant-loop-i : goal.invariant-loop-i
invariant-loop-i l = LaidFrom l.row l.left l.right l.i
