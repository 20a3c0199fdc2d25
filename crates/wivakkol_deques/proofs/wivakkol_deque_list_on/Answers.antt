-- `wivakkol_deques::wivakkol_deque_list_on` meets its contract: where the run stopped is put into the row.
use borrow.Author.Rules.{rules}
use Rattle.run_memory.proofs.Stopping.{stopped_answers}
use Rattle.wivakkol_deques.specs.DequeLent.{lent_deque_list}
use Rattle.wivakkol_deques.proofs.wivakkol_deque_list_on.Goals as goal

pub returns : goal.returns
unfolding lent_deque_list
returns c = stopped_answers _ _ c.deque_list_in-stop.ensures.run_value c.deque_list_in-stop.ensures.nonzero c.put_run.ensures.value c.put_run.ensures.row_after
