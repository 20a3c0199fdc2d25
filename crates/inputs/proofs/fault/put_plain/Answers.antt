-- `inputs::fault::put_plain` meets its contract: a word, and what was wanted.
use native.Mathlib.Omega.{arith}
use Rattle.text.specs.Text.{ascii}
use Rattle.text.proofs.Putting.{puts_word, puts_more, puts_within}
use Rattle.inputs.proofs.fault.put_plain.Goals as goal

pub returns : goal.returns
returns c = puts_within (omega arith) (puts_more (puts_word (ascii ": expected ") c.put_word-at.ensures) c.put_wanted.ensures)
