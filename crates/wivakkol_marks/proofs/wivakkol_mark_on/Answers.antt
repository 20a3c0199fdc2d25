-- `wivakkol_marks::wivakkol_mark_on` meets its contract: the call, and the working memory cleared.
use native.Mathlib.Omega.{arith}
use Rattle.wivakkol_marks.proofs.wivakkol_mark_on.Goals as goal

pub returns : goal.returns
returns c = record { marksums_after = rw c.number_of.ensures c.set_mark-marked.ensures; cleared = c.clear.ensures; set_len = λ e. omega arith }
