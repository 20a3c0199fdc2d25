-- `assembly::listing::put_thread` meets its contract: a word, a number of at most 4 digits, a newline.
use native.Mathlib.Omega.{arith}
use Rattle.text.specs.Text.{ascii, newline}
use Rattle.text.proofs.Putting.{puts_word, puts_labelled, puts_more, puts_within}
use Rattle.assembly.proofs.listing.put_thread.Goals as goal

pub returns : goal.returns
returns c = puts_within (omega arith) (puts_more (puts_labelled (ascii "thread ") c.args.t 3 (omega (arith, c.requires)) c.put_labelled-at.ensures) (puts_word newline c.put_word.ensures))
