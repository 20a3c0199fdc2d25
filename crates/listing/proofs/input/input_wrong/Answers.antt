-- `listing::input::input_wrong` meets its contract: its three tests are those of check 33, in their order.
use borrow.Author.Tests.{lt-ltb, le-ltb}
use borrow.Author.Rules.{rules}
use Rattle.listing.specs.Listing.{input_wrong}
use Rattle.listing.proofs.input.input_wrong.Goals as goal

pub returns-then-input-lt6 : goal.returns-then-input-lt6
unfolding input_wrong
returns-then-input-lt6 c = simp (lt-ltb _ _ c.if-input-lt6.true)

pub returns-then-n-gt4096 : goal.returns-then-n-gt4096
unfolding input_wrong
returns-then-n-gt4096 c = simp (le-ltb _ _ c.if-input-lt6.false, ← c.word-n.ensures.value, lt-ltb _ _ c.if-n-gt4096.true)

pub returns : goal.returns
unfolding input_wrong
returns c = simp (le-ltb _ _ c.if-input-lt6.false, ← c.word-n.ensures.value, le-ltb _ _ c.if-n-gt4096.false)
