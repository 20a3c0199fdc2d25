-- `run_memory::places::put_status` meets its contract: past its part a write does nothing.
use Rattle.run_memory.proofs.Numbers.{status_set, status_set_past}
use Rattle.run_memory.proofs.places.put_status.Goals as goal

pub returns-then-t-lt1024 : goal.returns-then-t-lt1024
returns-then-t-lt1024 c =
    let d = c.args in
    status_set d.bytes.now d.t d.x c.if-t-lt1024.true

pub returns-else-t-lt1024 : goal.returns-else-t-lt1024
returns-else-t-lt1024 c =
    let d = c.args in
    status_set_past d.bytes.now d.t d.x c.if-t-lt1024.false
