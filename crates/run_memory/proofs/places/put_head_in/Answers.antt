-- `run_memory::places::put_head_in` meets its contract: the block has its length, and past its three numbers a write does nothing.
use Rattle.run_memory.specs.Blocks.{words_in}
use Rattle.run_memory.proofs.Rows.{head_set, head_set_past}
use Rattle.run_memory.proofs.places.put_head_in.Goals as goal

pub returns-then-h-lt3 : goal.returns-then-h-lt3
returns-then-h-lt3 c =
    let d = c.args in
    head_set d.words.now d.h d.x c.requires c.if-h-lt3.true

pub returns-else-h-lt3 : goal.returns-else-h-lt3
returns-else-h-lt3 c =
    let d = c.args in
    head_set_past (words_in d.words.now) d.h d.x c.if-h-lt3.false
