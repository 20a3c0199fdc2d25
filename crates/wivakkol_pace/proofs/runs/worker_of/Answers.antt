-- `wivakkol_pace::runs::worker_of` meets its contract: rounds go on from the pace, a list names the worker.
use mathlib.Core.Path.{◌∙◌}
use Rattle.wivakkol_pace.proofs.PacedDrives.{worker_next, worker_listed}
use Rattle.wivakkol_pace.proofs.runs.worker_of.Goals as goal

pub returns-then-rounds : goal.returns-then-rounds
returns-then-rounds c =
    let d = c.args in
    c.next.ensures ∙ worker_next d.order.now d.i d.pace.now c.if-rounds.true

pub returns-else-rounds : goal.returns-else-rounds
returns-else-rounds c =
    let d = c.args in
    c.byte.ensures ∙ worker_listed d.order.now d.i d.pace.now c.if-rounds.false
