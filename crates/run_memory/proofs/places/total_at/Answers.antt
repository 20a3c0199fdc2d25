-- `run_memory::places::total_at` meets its contract: there are three totals.
use Rattle.run_memory.specs.Blocks.{sums_in}
use Rattle.run_memory.proofs.Numbers.{total_get, total_past}
use Rattle.run_memory.proofs.places.total_at.Goals as goal

pub returns-then-i-lt3 : goal.returns-then-i-lt3
returns-then-i-lt3 c =
    let d = c.args in
    total_get d.sums.now d.i c.if-i-lt3.true

pub returns-else-i-lt3 : goal.returns-else-i-lt3
returns-else-i-lt3 c =
    let d = c.args in
    total_past (sums_in d.sums.now) d.i c.if-i-lt3.false
