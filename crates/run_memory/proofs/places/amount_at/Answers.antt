-- `run_memory::places::amount_at` meets its contract: past its part a read gives 0.
use mathlib.Core.Path.{sym}
use Rattle.run_memory.proofs.Parts.{front_get, part_past}
use Rattle.run_memory.proofs.places.amount_at.Goals as goal

pub returns-then-t-lt1024 : goal.returns-then-t-lt1024
returns-then-t-lt1024 c =
    let d = c.args in
    sym (front_get 1024 d.sums.now d.t 0 c.if-t-lt1024.true)

pub returns-else-t-lt1024 : goal.returns-else-t-lt1024
returns-else-t-lt1024 c =
    let d = c.args in
    sym (part_past 0 1024 d.sums.now d.t 0 c.if-t-lt1024.false)
