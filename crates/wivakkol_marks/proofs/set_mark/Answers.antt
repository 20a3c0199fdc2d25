-- `wivakkol_marks::set_mark` meets its contract, answer by answer.
use native.Mathlib.Omega.{arith}
use Rattle.wivakkol_marks.proofs.Marking.{set_unsound, set_above, set_done}
use Rattle.wivakkol_marks.proofs.set_mark.Goals as goal

pub returns-then-not-fits : goal.returns-then-not-fits
returns-then-not-fits c = set_unsound _ _ _ _ c.fit_marked-fits.ensures c.if-not-fits.true

pub returns-then-i-gt-LAST_MARK : goal.returns-then-i-gt-LAST_MARK
returns-then-i-gt-LAST_MARK c = set_above _ _ _ _ c.fit_marked-fits.ensures c.if-not-fits.false c.if-i-gt-LAST_MARK.true

pub returns : goal.returns
returns c = set_done _ _ _ _ c.fit_marked-fits.ensures c.if-not-fits.false (omega (arith, c.if-i-gt-LAST_MARK.false)) c.note.ensures c.store.ensures
