-- `inputs::put::put_input` meets its contract: the front, and the table after it.
use native.Mathlib.Omega.{arith}
use Rattle.text.proofs.Putting.{puts_word, puts_more, puts_within}
use Rattle.inputs.proofs.put.put_input.Goals as goal

pub put_front-at-requires : goal.put_front-at-requires
put_front-at-requires c = c.requires.0

pub returns : goal.returns
returns c = puts_within (omega (arith, c.requires.1)) (puts_more c.put_front-at.ensures (puts_word c.args.table.now c.put_word.ensures))
