-- `wivakkol_marks::standing::written` meets its contract: the last sixteen bytes are the truth values.
use mathlib.Core.Path.{ap, ◌∙◌}
use Rattle.run_memory.specs.Blocks.{part}
use Rattle.run_memory.specs.Stands.{truths}
use Rattle.wivakkol_marks.proofs.standing.written.Goals as goal

pub returns : goal.returns
unfolding part
returns c = c.truths_right.ensures ∙ ap truths c.copy_from_slice.ensures.after
