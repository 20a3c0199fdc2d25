-- `table::read::argument` meets its contract.
use Rattle.table.proofs.read.argument.Goals as goal

pub returns : goal.returns
returns c = rw c.bodies.ensures at c.argument_in.ensures
