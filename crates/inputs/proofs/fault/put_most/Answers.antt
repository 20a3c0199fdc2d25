-- `inputs::fault::put_most` meets its contract: no number has more than 20 digits.
use native.Mathlib.Omega.{arith}
use Rattle.text.specs.Text.{ascii}
use Rattle.text.proofs.Putting.{puts_labelled, puts_within}
use Rattle.inputs.proofs.fault.put_most.Goals as goal

pub returns : goal.returns
returns c = puts_within (omega arith) (puts_labelled (ascii "a number up to ") c.args.most 19 (omega arith) c.put_labelled.ensures)
