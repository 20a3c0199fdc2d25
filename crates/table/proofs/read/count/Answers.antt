-- `table::read::count` meets its contract: it is the upper word of the thread's entry.
use Rattle.table.proofs.Words.{count_read}
use Rattle.table.proofs.read.count.Goals as goal

pub returns : goal.returns
returns c = count_read c.args.table.now _ _ (rw c.bodies.ensures at c.item.ensures)
