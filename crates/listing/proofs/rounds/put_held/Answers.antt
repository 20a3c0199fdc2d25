-- `listing::rounds::put_held` meets its contract: a number of at most twenty digits between a word and the line's end.
use native.Mathlib.Omega.{arith}
use borrow.Author.Rules.{rules}
use Rattle.text.specs.Text.{newline}
use Rattle.lines.specs.Lines.{held_word}
use Rattle.text.proofs.Putting.{puts_word, puts_labelled, puts_more}
use Rattle.listing.proofs.rounds.put_held.Goals as goal

pub returns : goal.returns
returns c =
    puts_more (puts_labelled held_word c.args.held 19 (omega (arith, c.well_formed)) c.put_labelled-at.ensures) (puts_word newline c.put_word.ensures)
