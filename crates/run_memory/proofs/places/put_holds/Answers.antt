-- `run_memory::places::put_holds` meets its contract: past its part a write does nothing.
use Rattle.run_memory.proofs.Numbers.{holds_set, holds_set_past}
use Rattle.run_memory.proofs.places.put_holds.Goals as goal

pub returns-then-w-lt16 : goal.returns-then-w-lt16
returns-then-w-lt16 c =
    let d = c.args in
    holds_set d.bytes.now d.w d.x c.if-w-lt16.true

pub returns-else-w-lt16 : goal.returns-else-w-lt16
returns-else-w-lt16 c =
    let d = c.args in
    holds_set_past d.bytes.now d.w d.x c.if-w-lt16.false
