-- `assembly::put::put_row` meets its contract: an action has a row, any other line has none.
use Rattle.assembly.proofs.put.put_row.Goals as goal

pub returns-in-Nothing : goal.returns-in-Nothing
returns-in-Nothing c = rw c.in-Nothing.is

pub returns-in-Thread : goal.returns-in-Thread
returns-in-Thread c = rw c.in-Thread.is

pub returns-in-Action : goal.returns-in-Action
returns-in-Action c = rw c.in-Action.is c.put_action.ensures

pub returns-in-Expects : goal.returns-in-Expects
returns-in-Expects c = rw c.in-Expects.is
