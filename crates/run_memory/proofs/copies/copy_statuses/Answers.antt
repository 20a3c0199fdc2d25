-- `run_memory::copies::copy_statuses` meets its contract.
use mathlib.Core.Path.{◌≡◌, ap, ◌∙◌}
use Rattle.run_memory.specs.Blocks.{bytes_in}
use Rattle.run_memory.proofs.Copied.{statuses_laid}
use Rattle.run_memory.proofs.copies.copy_statuses.Goals as goal

pub returns : goal.returns
returns c = let a = c.args in ap bytes_in c.copy.ensures ∙ statuses_laid a.bytes.now a.from.now c.told-from c.told-bytes
