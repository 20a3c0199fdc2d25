-- `soundness::bodies::is_done` meets its contract: what is done stands before where it stops.
use Rattle.soundness.proofs.Done.{before_stop}
use Rattle.soundness.proofs.bodies.is_done.Goals as goal

pub returns : goal.returns
returns c =
    let d = c.args in
    rw c.done_to.ensures (before_stop d.next.now d.status.now d.u d.a)
