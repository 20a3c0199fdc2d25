-- `run_memory::copies::statuses_out` meets its contract.
use mathlib.Core.Path.{◌≡◌, ◌∙◌}
use Rattle.run_memory.proofs.Copied.{front_out}
use Rattle.run_memory.proofs.copies.statuses_out.Goals as goal

pub returns : goal.returns
returns c = let a = c.args in c.copy.ensures ∙ front_out a.to.now a.bytes.now c.told-to
