-- `peak_walk::parallel::best_of` meets its contract. The invariant: the lists are right from thread t on.
use Rattle.std.proofs.Common.{◌≤◌}
use Rattle.table.specs.Format.{table_of}
use Rattle.peak_walk.specs.Code.Parallel.{Bests}
use Rattle.peak_walk.proofs.parallel.best_of.Given as goal

abbrev pub invariant-loop-t : goal.invariant-loop-t
invariant-loop-t l = (l.t ≤ l.n) × Bests (table_of l.table) l.bests l.finals l.t
