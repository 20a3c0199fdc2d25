-- `inputs::fault::put_reason` meets its contract, by what is not shown.
use Rattle.inputs.proofs.fault.put_reason.Goals as goal

pub returns-in-Nothing : goal.returns-in-Nothing
returns-in-Nothing c = rw c.in-Nothing.is c.put_plain.ensures

pub returns-in-Return : goal.returns-in-Return
returns-in-Return c = rw c.in-Return.is (rw c.in-Return.is at c.put_unseen.ensures)

pub returns-in-Mark : goal.returns-in-Mark
returns-in-Mark c = rw c.in-Mark.is (rw c.in-Mark.is at c.put_unseen-in-Mark.ensures)
