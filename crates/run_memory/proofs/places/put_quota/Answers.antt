-- `run_memory::places::put_quota` meets its contract: past its part a write does nothing.
use Rattle.run_memory.proofs.Numbers.{quota_set, quota_set_past}
use Rattle.run_memory.proofs.places.put_quota.Goals as goal

pub returns-then-w-lt16 : goal.returns-then-w-lt16
returns-then-w-lt16 c =
    let d = c.args in
    quota_set d.numbers.now d.w d.x c.if-w-lt16.true

pub returns-else-w-lt16 : goal.returns-else-w-lt16
returns-else-w-lt16 c =
    let d = c.args in
    quota_set_past d.numbers.now d.w d.x c.if-w-lt16.false
