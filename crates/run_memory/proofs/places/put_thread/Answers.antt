-- `run_memory::places::put_thread` meets its contract: past its part a write does nothing.
use Rattle.run_memory.proofs.Rows.{thread_set, thread_set_past}
use Rattle.run_memory.proofs.places.put_thread.Goals as goal

pub returns-then-w-lt16 : goal.returns-then-w-lt16
returns-then-w-lt16 c =
    let d = c.args in
    thread_set d.words.now d.w d.x c.if-w-lt16.true

pub returns-else-w-lt16 : goal.returns-else-w-lt16
returns-else-w-lt16 c =
    let d = c.args in
    thread_set_past d.words.now d.w d.x c.if-w-lt16.false
