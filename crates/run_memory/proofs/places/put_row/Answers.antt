-- `run_memory::places::put_row` meets its contract: outside a row, and of no row, a write does nothing.
use Rattle.run_memory.proofs.Rows.{row_set, row_set_past, row_set_none}
use Rattle.run_memory.proofs.places.put_row.Goals as goal

pub returns-then-k-lt6 : goal.returns-then-k-lt6
returns-then-k-lt6 c =
    let d = c.args in
    row_set d.words.now d.k d.t d.x c.if-k-lt6.true c.if-t-lt1024.true

pub returns-else-k-lt6 : goal.returns-else-k-lt6
returns-else-k-lt6 c =
    let d = c.args in
    row_set_none d.words.now d.k d.t d.x c.if-k-lt6.false

pub returns-else-t-lt1024 : goal.returns-else-t-lt1024
returns-else-t-lt1024 c =
    let d = c.args in
    row_set_past d.words.now d.k d.t d.x c.if-t-lt1024.false
