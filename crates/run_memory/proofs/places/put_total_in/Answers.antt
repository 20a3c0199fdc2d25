-- `run_memory::places::put_total_in` meets its contract: the block has its length, and past its three numbers a write does nothing.
use Rattle.run_memory.specs.Blocks.{sums_in}
use Rattle.run_memory.proofs.Numbers.{total_set, total_set_past}
use Rattle.run_memory.proofs.places.put_total_in.Goals as goal

pub returns-then-i-lt3 : goal.returns-then-i-lt3
returns-then-i-lt3 c =
    let d = c.args in
    total_set d.sums.now d.i d.x c.requires c.if-i-lt3.true

pub returns-else-i-lt3 : goal.returns-else-i-lt3
returns-else-i-lt3 c =
    let d = c.args in
    total_set_past (sums_in d.sums.now) d.i d.x c.if-i-lt3.false
