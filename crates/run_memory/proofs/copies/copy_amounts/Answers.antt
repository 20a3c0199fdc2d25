-- `run_memory::copies::copy_amounts` meets its contract.
use mathlib.Core.Path.{◌≡◌, ap, ◌∙◌}
use Rattle.run_memory.specs.Blocks.{sums_in}
use Rattle.run_memory.proofs.Copied.{amounts_laid}
use Rattle.run_memory.proofs.copies.copy_amounts.Goals as goal

pub returns : goal.returns
returns c = let a = c.args in ap sums_in c.copy.ensures ∙ amounts_laid a.sums.now a.from.now c.told-from c.told-sums
