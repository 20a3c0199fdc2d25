use mathlib.Core.Bool.{not}
use mathlib.Core.Path.{ap}
use Rattle.order.proofs.Every.{passed_none, passed_next, passed_stop, passed_all}
use Rattle.wivakkol_marks.specs.LentMarks.{fit_marks}
use Rattle.wivakkol_marks.proofs.fit_marks.Goals as goal

pub loop-i-init : goal.loop-i-init
loop-i-init c = passed_none

pub fit_mark-fits-requires : goal.fit_mark-fits-requires
fit_mark-fits-requires c = c.loop-i-test.true

pub returns-then-not-fits : goal.returns-then-not-fits
unfolding fit_marks
returns-then-not-fits c =
    passed_stop c.loop-i.invariant c.loop-i-test.true c.fit_mark-fits.ensures (ap not c.if-not-fits.true)

pub loop-i-preserved : goal.loop-i-preserved
loop-i-preserved c = passed_next c.loop-i.invariant c.fit_mark-fits.ensures (ap not c.if-not-fits.false)

pub returns : goal.returns
unfolding fit_marks
returns c = passed_all c.loop-i.invariant c.loop-i-test.false
