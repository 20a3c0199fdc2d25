-- `wivakkol_marks::standing::put_beside` meets its contract: three rows and a head.
use Rattle.run_memory.specs.Blocks.{words_in}
use Rattle.wivakkol_marks.proofs.Fits.{laid_beside}
use Rattle.wivakkol_marks.proofs.standing.put_beside.Goals as goal

pub returns : goal.returns
returns c =
    let a = c.args in
    laid_beside (words_in a.words.now) a.parents.now a.under.now a.over.now a.first c.copy_row.ensures c.copy_row-2.ensures c.copy_row-3.ensures
    c.put_head.ensures
