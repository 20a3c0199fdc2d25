-- `table::read::first` meets its contract: it is the lower word of the thread's entry.
use Rattle.table.proofs.Words.{first_read}
use Rattle.table.proofs.read.first.Goals as goal

pub returns : goal.returns
returns c = first_read c.args.table.now _ _ (rw c.bodies.ensures at c.item.ensures)
