-- `asyncdf::run_rounds` meets its contract: the run of both sorts, in rounds.
use Rattle.schedule.proofs.Runs.Values.{rounds_values_lem}
use Rattle.asyncdf.proofs.Calls.{ran_answers}
use Rattle.asyncdf.proofs.run_rounds.Goals as goal

pub returns : goal.returns
returns c = let both = ran_answers c.run_by.ensures in record { value = both.0; report_value = rw (← rounds_values_lem) both.1 }
