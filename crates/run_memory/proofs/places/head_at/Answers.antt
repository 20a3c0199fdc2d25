-- `run_memory::places::head_at` meets its contract: there are three heads.
use Rattle.run_memory.specs.Blocks.{words_in}
use Rattle.run_memory.proofs.Rows.{head_get, head_past}
use Rattle.run_memory.proofs.places.head_at.Goals as goal

pub returns-then-h-lt3 : goal.returns-then-h-lt3
returns-then-h-lt3 c =
    let d = c.args in
    head_get d.words.now d.h c.if-h-lt3.true

pub returns-else-h-lt3 : goal.returns-else-h-lt3
returns-else-h-lt3 c =
    let d = c.args in
    head_past (words_in d.words.now) d.h c.if-h-lt3.false
