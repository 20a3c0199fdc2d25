-- `stealing::bottoms::rob` meets its contract.
use mathlib.Core.Bool.{not}
use mathlib.Core.Path.{ap}
use Rattle.run_memory.specs.Blocks.{words_in}
use Rattle.stealing.proofs.Along.{robbed_none, robbed_bottom, robbed_linked}
use Rattle.stealing.proofs.bottoms.rob.Goals as goal

pub returns-then-not-is_bottom : goal.returns-then-not-is_bottom
returns-then-not-is_bottom c =
    let d = c.args in
    robbed_linked d.b (words_in d.words.now) c.row_at-x.ensures c.if-x-lt-NO_THREAD.true c.is_bottom.ensures (ap not c.if-not-is_bottom.true) c.link_left.ensures

pub returns-else-not-is_bottom : goal.returns-else-not-is_bottom
returns-else-not-is_bottom c =
    let d = c.args in
    robbed_bottom d.b (words_in d.words.now) c.row_at-x.ensures c.if-x-lt-NO_THREAD.true c.is_bottom.ensures (ap not c.if-not-is_bottom.false)

pub returns-else-x-lt-NO_THREAD : goal.returns-else-x-lt-NO_THREAD
returns-else-x-lt-NO_THREAD c =
    let d = c.args in
    robbed_none d.b (words_in d.words.now) c.row_at-x.ensures c.if-x-lt-NO_THREAD.false
