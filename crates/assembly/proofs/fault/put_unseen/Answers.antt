-- `assembly::fault::put_unseen` meets its contract, by what is not shown.
use native.Mathlib.Omega.{arith}
use Rattle.text.specs.Text.{ascii}
use Rattle.text.proofs.Putting.{puts_none, puts_word, puts_within}
use Rattle.assembly.specs.Message.{unseen_texts}
use Rattle.assembly.proofs.fault.put_unseen.Goals as goal

pub returns-in-Nothing : goal.returns-in-Nothing
unfolding unseen_texts
returns-in-Nothing c = rw c.in-Nothing.is (puts_none 55)

pub returns-in-Return : goal.returns-in-Return
unfolding unseen_texts
returns-in-Return c = rw c.in-Return.is (puts_within (omega arith) (puts_word (ascii ": a carriage return; lines end with a newline alone") c.put_word.ensures))

pub returns-in-Mark : goal.returns-in-Mark
unfolding unseen_texts
returns-in-Mark c = rw c.in-Mark.is (puts_within (omega arith) (puts_word (ascii ": a byte order mark; a text begins without one") c.put_word-in-Mark.ensures))
