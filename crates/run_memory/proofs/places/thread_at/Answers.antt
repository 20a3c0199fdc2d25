-- `run_memory::places::thread_at` meets its contract: past its part a read gives 0.
use mathlib.Core.Path.{sym}
use Rattle.run_memory.proofs.Parts.{part_get, part_past}
use Rattle.run_memory.proofs.places.thread_at.Goals as goal

pub returns-then-w-lt16 : goal.returns-then-w-lt16
returns-then-w-lt16 c =
    let d = c.args in
    sym (part_get 6144 16 d.words.now d.w 0 c.if-w-lt16.true)

pub returns-else-w-lt16 : goal.returns-else-w-lt16
returns-else-w-lt16 c =
    let d = c.args in
    sym (part_past 6144 16 d.words.now d.w 0 c.if-w-lt16.false)
