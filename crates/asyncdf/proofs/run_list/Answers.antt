-- `asyncdf::run_list` meets its contract: the run of both sorts, over a list.
use Rattle.schedule.proofs.Runs.Values.{list_values_lem}
use Rattle.asyncdf.proofs.Calls.{ran_answers}
use Rattle.asyncdf.proofs.run_list.Goals as goal

pub returns : goal.returns
returns c = let both = ran_answers c.run_by.ensures in record { value = both.0; report_value = rw (← list_values_lem) both.1 }
