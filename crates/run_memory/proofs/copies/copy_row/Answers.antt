-- `run_memory::copies::copy_row` meets its contract.
use mathlib.Core.Path.{◌≡◌, ap, ◌∙◌}
use Rattle.run_memory.specs.Blocks.{words_in}
use Rattle.run_memory.proofs.Copied.{row_laid, row_none}
use Rattle.run_memory.proofs.copies.copy_row.Goals as goal

pub returns-then-k-lt6 : goal.returns-then-k-lt6
returns-then-k-lt6 c = ap words_in c.copy.ensures ∙ row_laid _ _ _ c.if-k-lt6.true c.told-words c.told-from

pub returns-else-k-lt6 : goal.returns-else-k-lt6
returns-else-k-lt6 c = row_none _ _ _ c.if-k-lt6.false
