-- `table::read::code_in` meets its contract: the code is the lowest of an action's four bytes.
use Rattle.table.proofs.Words.{low_byte}
use Rattle.table.proofs.read.code_in.Goals as goal

pub returns : goal.returns
returns c = low_byte c.item.ensures
