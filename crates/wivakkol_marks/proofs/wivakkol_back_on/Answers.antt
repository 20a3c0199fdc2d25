-- `wivakkol_marks::wivakkol_back_on` meets its contract: the call, and the working memory cleared.
use Rattle.wivakkol_marks.proofs.wivakkol_back_on.Goals as goal

pub returns : goal.returns
returns c = record { sums_after = rw c.number_of.ensures c.go_back-gone.ensures; cleared = c.clear.ensures }
