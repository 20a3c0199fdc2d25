-- `table::read::code` meets its contract.
use Rattle.table.proofs.read.code.Goals as goal

pub returns : goal.returns
returns c = rw c.bodies.ensures at c.code_in.ensures
