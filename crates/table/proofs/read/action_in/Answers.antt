-- `table::read::action_in` meets its contract: the code is the lowest of an action's four bytes, the argument the upper three.
use Rattle.table.proofs.Words.{low_byte, high_bytes}
use Rattle.table.proofs.read.action_in.Goals as goal

pub returns : goal.returns
returns c = record { code_value = low_byte c.item-x.ensures; read = high_bytes c.item-x.ensures }
