-- `wivakkol::runs::wivakkol_rounds_on` meets its contract: where the run stopped is put into the row.
use Rattle.run_memory.proofs.Stopping.{stopped_answers}
use Rattle.wivakkol.specs.Lent.{lent_rounds}
use Rattle.wivakkol.proofs.runs.wivakkol_rounds_on.Goals as goal

pub returns : goal.returns
unfolding lent_rounds
returns c = stopped_answers _ _ c.rounds_in-stop.ensures.run_value c.rounds_in-stop.ensures.nonzero c.put_run.ensures.value c.put_run.ensures.row_after
