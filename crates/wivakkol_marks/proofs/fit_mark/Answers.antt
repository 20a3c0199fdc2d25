-- `wivakkol_marks::fit_mark` meets its contract: a mark that is set is loaded and tested.
use Rattle.wivakkol_marks.proofs.Marking.{mark_fits, unset_fits}
use Rattle.wivakkol_marks.proofs.fit_mark.Goals as goal

pub returns-then-set-i-eq0 : goal.returns-then-set-i-eq0
returns-then-set-i-eq0 c =
    let a = c.args in
    unset_fits a.set.now a.markbytes.now a.markwords.now a.marknumbers.now a.marksums.now a.i a.table.now c.if-set-i-eq0.true

pub load-requires : goal.load-requires
load-requires c = c.requires

pub returns : goal.returns
returns c =
    let a = c.args in
    mark_fits a.set.now a.markbytes.now a.markwords.now a.marknumbers.now a.marksums.now a.i c.requires a.table.now c.if-set-i-eq0.false c.load.ensures c.fit.ensures
