-- `wivakkol_marks::fit_marked` meets its contract: the run first, then the marks.
use Rattle.wivakkol_marks.proofs.Marking.{run_unfit, run_fit}
use Rattle.wivakkol_marks.proofs.fit_marked.Goals as goal

pub returns-then-not-fits : goal.returns-then-not-fits
returns-then-not-fits c = run_unfit _ _ _ c.fit-fits.ensures c.if-not-fits.true

pub returns : goal.returns
returns c =
    run_fit _ _ _ c.fit-fits.ensures c.if-not-fits.false c.fit_marks.ensures
