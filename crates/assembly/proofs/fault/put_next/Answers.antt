-- `assembly::fault::put_next` meets its contract: a word and a number of at most 20 digits.
use native.Mathlib.Omega.{arith}
use Rattle.text.specs.Text.{ascii}
use Rattle.text.proofs.Putting.{puts_labelled, puts_within}
use Rattle.assembly.proofs.fault.put_next.Goals as goal

pub returns : goal.returns
returns c = puts_within (omega arith) (puts_labelled (ascii "thread ") c.args.t 19 (omega arith) c.put_labelled.ensures)
