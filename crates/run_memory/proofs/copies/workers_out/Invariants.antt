-- `run_memory::copies::workers_out` meets its contract. The invariant: the workers below w have their records.
use Rattle.run_memory.specs.Blocks.{bytes_in, words_in, numbers_in}
use Rattle.run_memory.proofs.WorkerRecords.{Upto}
use Rattle.run_memory.proofs.copies.workers_out.Given as goal

abbrev pub invariant-loop-w : goal.invariant-loop-w
invariant-loop-w l = Upto (bytes_in l.bytes).holds (words_in l.words).threads (numbers_in l.numbers).quotas l.workers l.w
