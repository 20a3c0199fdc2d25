-- `inputs::read::at_end` meets its contract, by what the lines have given.
use native.Mathlib.Omega.{arith}
use Rattle.inputs.proofs.read.at_end.Goals as goal

pub returns-in-Nothing : goal.returns-in-Nothing
returns-in-Nothing c = record { value = λ buf k. rw c.in-Nothing.is; few = rw c.in-Nothing.is (omega arith) }

pub returns-in-Workers : goal.returns-in-Workers
returns-in-Workers c = record { value = λ buf k. rw c.in-Workers.is; few = rw c.in-Workers.is (omega arith) }

pub returns-in-Quota : goal.returns-in-Quota
returns-in-Quota c = record { value = λ buf k. rw c.in-Quota.is; few = rw c.in-Quota.is (omega arith) }

pub returns-in-Between : goal.returns-in-Between
returns-in-Between c = record { value = λ buf k. rw c.in-Between.is; few = rw c.in-Between.is (omega arith) }

pub returns-in-Turns : goal.returns-in-Turns
returns-in-Turns c = record { value = λ buf k. rw c.in-Turns.is; few = rw c.in-Turns.is (omega arith) }

pub returns-in-Rounds : goal.returns-in-Rounds
returns-in-Rounds c = record { value = λ buf k. rw c.in-Rounds.is; few = rw c.in-Rounds.is (omega arith) }

pub returns-in-Board : goal.returns-in-Board
returns-in-Board c = record { value = λ buf k. rw c.in-Board.is; few = rw c.in-Board.is (omega arith) }
