-- `wivakkol_marks::standing::fit` meets its contract: what is found is not neither.
use mathlib.Core.Path.{◌∙◌}
use Rattle.wivakkol_marks.proofs.Fits.{fit_found}
use Rattle.wivakkol_marks.proofs.standing.fit.Goals as goal

pub returns : goal.returns
returns c = c.ne.ensures ∙ fit_found _ _ c.standing_in-found.ensures.value
