-- `joining::given::length_in` meets its contract: two halves of 16 bits.
use Rattle.joining.proofs.JoinGiven.{length_is}
use Rattle.joining.proofs.given.length_in.Goals as goal

pub returns : goal.returns
returns c =
    let d = c.args in
    length_is d.input.now d.i _ _ c.word.ensures.value c.word-2.ensures.value
