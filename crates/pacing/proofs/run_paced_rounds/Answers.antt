-- `pacing::run_paced_rounds` meets its contract: the run of both sorts, in rounds.
use mathlib.Core.Path.{◌∙◌}
use borrow.Author.Rules.{rules}
use Rattle.pacing.proofs.PacedRefines.{rounds_so}
use Rattle.pacing.proofs.PacedAnswers.{rounds_answers}
use Rattle.pacing.proofs.run_paced_rounds.Goals as goal

pub returns : goal.returns
returns c = let both = rounds_answers _ _ _ (c.paced_run.ensures ∙ rounds_so _ _ _) in record { value = both.0; report_value = both.1 }
