-- `wivakkol_marks::copies::mend` meets its contract: the records are read and written back.
use Rattle.run_memory.specs.Blocks.{bytes_in, words_in, numbers_in, sums_in}
use Rattle.wivakkol_marks.proofs.Stretches.{mends}
use Rattle.wivakkol_marks.proofs.copies.mend.Goals as goal

pub returns : goal.returns
returns c =
    let a = c.args in
    let m = c.copy_workers.ensures in
    mends (bytes_in a.bytes.now) (words_in a.words.now) (numbers_in a.numbers.now) (sums_in a.sums.now) c.workers_out-workers.ensures m.bytes_after m.words_after m.numbers_after
