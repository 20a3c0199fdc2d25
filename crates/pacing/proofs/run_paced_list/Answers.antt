-- `pacing::run_paced_list` meets its contract: the run of both sorts, over a list.
use mathlib.Core.Path.{◌∙◌}
use borrow.Author.Rules.{rules}
use Rattle.pacing.proofs.PacedRefines.{list_so}
use Rattle.pacing.proofs.PacedAnswers.{list_answers}
use Rattle.pacing.proofs.run_paced_list.Goals as goal

pub returns : goal.returns
returns c = let both = list_answers _ _ _ (c.paced_run.ensures ∙ list_so _ _ _) in record { value = both.0; report_value = both.1 }
