-- `lines::put_totals` meets its contract: two numbers of at most twenty digits.
use native.Mathlib.Omega.{arith}
use Rattle.lines.specs.Lines.{peak_word}
use Rattle.text.proofs.Putting.{puts_labelled, puts_more, puts_within}
use Rattle.lines.proofs.put_totals.Goals as goal

pub returns : goal.returns
returns c =
    puts_within (omega arith)
    (puts_more (puts_labelled c.args.word.now c.args.turns 19 (omega (arith, c.well_formed)) c.put_labelled-at.ensures)
    (puts_labelled peak_word c.args.peak 19 (omega (arith, c.well_formed)) c.put_labelled.ensures))
