-- `wivakkol_pace::runs::drive` meets its contract. The invariant: what is left of the run is the whole, and the root has not ended (Along).
use Rattle.run_memory.specs.Blocks.{memory_of}
use Rattle.wivakkol_pace.specs.PacedRuns.{paced_worker}
use Rattle.wivakkol_pace.proofs.PacedDrives.{Along}
use Rattle.wivakkol_pace.proofs.runs.drive.Given as goal

abbrev pub invariant-loop-i : goal.invariant-loop-i
invariant-loop-i l =
    Along l.table (paced_worker l.order l.rounds) l.limit (memory_of l.initial.bytes l.initial.words l.initial.numbers l.initial.sums) l.initial.pace (memory_of l.bytes l.words l.numbers l.sums) l.pace l.i
