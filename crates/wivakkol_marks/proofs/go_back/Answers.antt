-- `wivakkol_marks::go_back` meets its contract, answer by answer.
use mathlib.Core.Path.{ap, ◌∙◌}
use Prim.Native.Nat.{◌<◌}
use native.Mathlib.Omega.{arith}
use Rattle.run_memory.specs.Memory.{Memory}
use Rattle.wivakkol.specs.Opened.{lent_open}
use Rattle.wivakkol_marks.proofs.Marking.{mark_at_lem, back_unsound, back_above, back_unset, back_done}
use Rattle.wivakkol_marks.proofs.go_back.Goals as goal

pub returns-then-not-fits : goal.returns-then-not-fits
returns-then-not-fits c = back_unsound _ _ _ _ c.fit_marked-fits.ensures c.if-not-fits.true

pub returns-then-i-gt-LAST_MARK : goal.returns-then-i-gt-LAST_MARK
returns-then-i-gt-LAST_MARK c =
    back_above _ _ _ _ c.fit_marked-fits.ensures c.if-not-fits.false c.if-i-gt-LAST_MARK.true

pub bounds-set-at : goal.bounds-set-at
bounds-set-at c = omega (arith, c.if-i-gt-LAST_MARK.false)

pub returns-then-set-at-eq0 : goal.returns-then-set-at-eq0
returns-then-set-at-eq0 c =
    back_unset _ _ _ _ c.fit_marked-fits.ensures c.if-not-fits.false (omega (arith, c.if-i-gt-LAST_MARK.false)) c.if-set-at-eq0.true

pub load-requires : goal.load-requires
load-requires c = omega (arith, c.if-i-gt-LAST_MARK.false)

pub returns : goal.returns
returns c =
    let a = c.args in
    let h : a.i < 8 = omega (arith, c.if-i-gt-LAST_MARK.false) in
    back_done _ _ _ _ c.fit_marked-fits.ensures c.if-not-fits.false h c.if-set-at-eq0.false
    (c.reopen.ensures ∙ ap (λ (M : Memory). (lent_open a.table.now M).memory) (mark_at_lem a.set.now a.markbytes.now a.markwords.now a.marknumbers.now a.marksums.now a.i h c.load.ensures))
