-- `run_memory::places::row_at` meets its contract: outside a row, and of no row, a read gives 0.
use mathlib.Core.Path.{sym}
use Rattle.run_memory.proofs.Rows.{row_get, row_past, row_none}
use Rattle.run_memory.proofs.places.row_at.Goals as goal

pub returns-then-k-lt6 : goal.returns-then-k-lt6
returns-then-k-lt6 c =
    let d = c.args in
    sym (row_get d.words.now d.k d.t c.if-k-lt6.true c.if-t-lt1024.true)

pub returns-else-k-lt6 : goal.returns-else-k-lt6
returns-else-k-lt6 c =
    let d = c.args in
    sym (row_none d.words.now d.k d.t c.if-k-lt6.false)

pub returns-else-t-lt1024 : goal.returns-else-t-lt1024
returns-else-t-lt1024 c =
    let d = c.args in
    sym (row_past d.words.now d.k d.t c.if-t-lt1024.false)
