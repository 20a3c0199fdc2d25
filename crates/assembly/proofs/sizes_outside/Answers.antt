-- `assembly::sizes_outside` meets its contract: `||` is the definition's.
use Rattle.table.proofs.Tests.{or_left, or_right}
use Rattle.assembly.proofs.sizes_outside.Goals as goal

pub returns-then-outside : goal.returns-then-outside
returns-then-outside c = or_left _ _ _ c.outside.ensures c.if-outside.true

pub returns-else-outside : goal.returns-else-outside
returns-else-outside c = or_right _ _ _ _ c.outside.ensures c.if-outside.false c.outside-else-outside.ensures
