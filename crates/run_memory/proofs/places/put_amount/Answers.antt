-- `run_memory::places::put_amount` meets its contract: past its part a write does nothing.
use Rattle.run_memory.proofs.Numbers.{amount_set, amount_set_past}
use Rattle.run_memory.proofs.places.put_amount.Goals as goal

pub returns-then-t-lt1024 : goal.returns-then-t-lt1024
returns-then-t-lt1024 c =
    let d = c.args in
    amount_set d.sums.now d.t d.x c.if-t-lt1024.true

pub returns-else-t-lt1024 : goal.returns-else-t-lt1024
returns-else-t-lt1024 c =
    let d = c.args in
    amount_set_past d.sums.now d.t d.x c.if-t-lt1024.false
