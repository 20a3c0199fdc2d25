-- `stealing::bottoms::is_bottom` meets its contract.
use Rattle.stealing.proofs.Along.{bottom_left, bottom_first}
use Rattle.stealing.proofs.bottoms.is_bottom.Goals as goal

pub returns-then-row_at-lt-NO_THREAD : goal.returns-then-row_at-lt-NO_THREAD
returns-then-row_at-lt-NO_THREAD c = bottom_left _ _ _ _ c.row_at.ensures c.if-row_at-lt-NO_THREAD.true

pub returns-else-row_at-lt-NO_THREAD : goal.returns-else-row_at-lt-NO_THREAD
returns-else-row_at-lt-NO_THREAD c = bottom_first _ _ _ _ c.row_at.ensures c.if-row_at-lt-NO_THREAD.false c.head_at.ensures
