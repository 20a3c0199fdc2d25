-- `links::write_threads` meets its contract. The invariant: the k threads written and those from t on are the whole list, and past them the row is as it was.
use Rattle.links.proofs.Reading.{Written}
use Rattle.links.proofs.write_threads.Given as goal

abbrev pub invariant-loop-k : goal.invariant-loop-k
invariant-loop-k l = Written l.right l.leftmost l.initial.row l.row l.t l.k
