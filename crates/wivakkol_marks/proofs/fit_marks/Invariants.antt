-- `wivakkol_marks::fit_marks` meets its contract. The invariant: the marks below i are not set, or fit.
use mathlib.Core.Bool.{not, ◌||◌}
use Rattle.order.proofs.Every.{Passed}
use Rattle.wivakkol_marks.specs.LentMarks.{marks_of, is_set_in, mark_in, fit_in}
use Rattle.wivakkol_marks.proofs.fit_marks.Given as goal

abbrev pub invariant-loop-i : goal.invariant-loop-i
invariant-loop-i l =
    Passed (λ j. not (is_set_in (marks_of l.set l.markbytes l.markwords l.marknumbers l.marksums) j) || fit_in l.table (mark_in (marks_of l.set l.markbytes l.markwords l.marknumbers l.marksums) j)) l.i
