-- `run_memory::lent::workers_at` meets its contract. The invariant: the workers below w have their records.
use Rattle.run_memory.proofs.WorkerRecords.{Upto}
use Rattle.run_memory.proofs.lent.workers_at.Given as goal

abbrev pub invariant-loop-w : goal.invariant-loop-w
invariant-loop-w l = Upto l.holds l.threads l.quotas l.records l.w
