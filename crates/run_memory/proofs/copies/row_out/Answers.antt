-- `run_memory::copies::row_out` meets its contract.
use mathlib.Core.Path.{◌≡◌, ◌∙◌}
use borrow.Author.Tests.{le-ltb}
use Rattle.run_memory.proofs.Copied.{row_out}
use Rattle.run_memory.proofs.copies.row_out.Goals as goal

pub returns-then-k-lt6 : goal.returns-then-k-lt6
returns-then-k-lt6 c = c.copy.ensures ∙ row_out _ _ _ c.if-k-lt6.true c.told-to

pub returns-else-k-lt6 : goal.returns-else-k-lt6
returns-else-k-lt6 c = rw (le-ltb _ _ c.if-k-lt6.false)
