-- `table::read::argument_in` meets its contract: the argument is the upper three of an action's four bytes.
use Rattle.table.proofs.Words.{high_bytes}
use Rattle.table.proofs.read.argument_in.Goals as goal

pub returns : goal.returns
returns c = high_bytes c.item.ensures
