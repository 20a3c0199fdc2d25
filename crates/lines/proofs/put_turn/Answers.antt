-- `lines::put_turn` meets its contract: the texts of a line in their order, 64 bytes at most.
use native.Mathlib.Omega.{arith}
use Rattle.text.specs.Text.{space, newline}
use Rattle.lines.specs.Lines.{turn_texts}
use Rattle.text.proofs.Putting.{puts_word, puts_number, puts_labelled, puts_more}
use Rattle.lines.proofs.put_turn.Goals as goal

pub returns : goal.returns
unfolding turn_texts
returns c =
    puts_more (puts_number c.args.turns 19 (omega (arith, c.well_formed)) c.put_number-at.ensures)
    (puts_more (puts_labelled space c.args.w 2 (omega (arith, c.well_formed)) c.put_labelled-at.ensures)
    (puts_more c.put_told-at.ensures
    (puts_more (puts_labelled space c.args.held 19 (omega (arith, c.well_formed)) c.put_labelled-at-2.ensures) (puts_word newline c.put_word.ensures))))
