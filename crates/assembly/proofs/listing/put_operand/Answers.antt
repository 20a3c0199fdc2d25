-- `assembly::listing::put_operand` meets its contract: a word of at most 6 bytes, a number of at most 8 digits.
use native.Mathlib.Omega.{arith}
use Rattle.text.proofs.Putting.{puts_labelled, puts_within}
use Rattle.assembly.proofs.listing.put_operand.Goals as goal

pub returns : goal.returns
returns c =
    let a = c.args in
    puts_within (omega (arith, c.requires.short)) (puts_labelled a.word.now a.x 7 (omega (arith, c.requires.small)) c.put_labelled.ensures)
