-- `assembly::fault::put_refused` meets its contract: number and place, and the line where one tells.
use native.Mathlib.Omega.{arith}
use Rattle.text.specs.Text.{ascii, newline}
use Rattle.text.proofs.Putting.{puts_word, puts_labelled, puts_more, puts_within}
use Rattle.assembly.specs.Message.{refused_texts}
use Rattle.assembly.proofs.fault.put_refused.Goals as goal

pub returns : goal.returns
unfolding refused_texts
returns c =
    puts_within (omega arith)
    (puts_more (puts_labelled (ascii "refused ") c.args.number 19 (omega arith) c.put_labelled-at.ensures)
    (puts_more (puts_labelled (ascii " ") c.args.place 19 (omega arith) c.put_labelled-at-2.ensures) (puts_more c.put_line-at.ensures (puts_word newline c.put_word.ensures))))
