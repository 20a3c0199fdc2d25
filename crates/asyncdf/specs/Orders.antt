-- A run over a list of workers or in rounds: by value, and in the blocks; and its report.
use Rattle.std.specs.Prelude.{ℕ, ◌%◌, List, Bool, Err, Ok, Result}
use Rattle.table.specs.Sum.{pick}
use Rattle.table.specs.Pass.{refusal}
use Rattle.schedule.specs.declared.Run.{Run}
use Rattle.schedule.specs.declared.Ran.{Ran}
use Rattle.schedule.specs.declared.Report.{Report}
use Rattle.schedule.specs.declared.Report.TheVariants.{Finished, Spent, Refused}
use Rattle.schedule.specs.Runs.{list_run, rounds_run}
use Rattle.run_memory.specs.Memory.{Memory}
use Rattle.run_memory.specs.Runs.{Stopped, list_run_in, rounds_run_in}
use Rattle.asyncdf.specs.declared.Order.{Order}
use Rattle.asyncdf.specs.declared.Order.TheVariants.{Listed, Rounds}

abbrev pub run_as : Run → Order → Ran
run_as r (Listed l) = list_run r l.now
run_as r (Rounds limit) = rounds_run r limit

abbrev pub stop_as : List ℕ → Order → Memory → Stopped
stop_as s (Listed l) M = list_run_in s l.now M
stop_as s (Rounds limit) M = rounds_run_in s limit M

-- whether it stopped at the root's end, or the number of a refusal; and the turns that it took
abbrev pub report_at : Result Bool ℕ → ℕ → Report
report_at (Ok over) turns = pick over (Finished turns) (Spent turns)
report_at (Err n) turns = Refused turns (refusal (n % 256) 0)
