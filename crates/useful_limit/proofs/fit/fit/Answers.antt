-- `useful_limit::fit::fit` meets its contract: the answer, test by test.
use Rattle.useful_limit.proofs.Steps.{fit_free, fit_unruled, fit_little, fit_below, fit_most, most_fits}
use borrow.Author.Rules.{rules}
use Rattle.useful_limit.proofs.fit.fit.Goals as goal

pub returns-then-unruled-memory : goal.returns-then-unruled-memory
returns-then-unruled-memory c = fit_free _ _ c.unruled.ensures c.if-unruled-memory.true c.fits_at.ensures

pub returns-then-x : goal.returns-then-x
returns-then-x c = fit_unruled _ _ c.unruled.ensures c.if-unruled-memory.false c.if-x.true c.short.ensures

pub returns-then-memory-serial : goal.returns-then-memory-serial
returns-then-memory-serial c = fit_little _ _ c.unruled.ensures c.if-unruled-memory.false c.if-x.false c.if-memory-serial.true c.short-then-memory-serial.ensures

pub returns-then-most-x : goal.returns-then-most-x
returns-then-most-x c = fit_below _ _ c.unruled.ensures c.if-unruled-memory.false c.if-x.false c.if-memory-serial.false c.most_within-most.ensures c.if-most-x.true c.short-then-most-x.ensures

pub fits_at-requires-2 : goal.fits_at-requires-2
fits_at-requires-2 c = (c.requires, most_fits _ _ _ c.most_within-most.ensures)

pub returns : goal.returns
returns c = fit_most _ _ c.unruled.ensures c.if-unruled-memory.false c.if-x.false c.if-memory-serial.false c.most_within-most.ensures c.if-most-x.false c.fits_at-2.ensures
