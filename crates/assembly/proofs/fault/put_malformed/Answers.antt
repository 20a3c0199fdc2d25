-- `assembly::fault::put_malformed` meets its contract: the line, and what is wrong with it.
use native.Mathlib.Omega.{arith}
use Rattle.text.specs.Text.{ascii, newline}
use Rattle.text.proofs.Putting.{puts_word, puts_labelled, puts_more, puts_within}
use Rattle.assembly.specs.Message.{fault_texts}
use Rattle.assembly.proofs.fault.put_malformed.Goals as goal

pub returns : goal.returns
unfolding fault_texts
returns c =
    puts_within (omega arith)
    (puts_more (puts_labelled (ascii "line ") c.args.line 19 (omega arith) c.put_labelled-at.ensures)
    (puts_more (rw c.unseen_at.ensures at c.put_reason-at.ensures) (puts_word newline c.put_word.ensures)))
