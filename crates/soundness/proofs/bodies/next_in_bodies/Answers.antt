use mathlib.Core.Bool.{not}
use mathlib.Core.Path.{ap}
use Rattle.soundness.proofs.Lookups.{thread_below}
use Rattle.order.proofs.Every.{passed_none, passed_next, passed_stop, passed_all}
use Rattle.soundness.proofs.bodies.next_in_bodies.Goals as goal

pub loop-t-init : goal.loop-t-init
loop-t-init c = passed_none

pub next_in_body-requires : goal.next_in_body-requires
next_in_body-requires c = let p = c.requires in record { rules = p.rules; t_bound = thread_below p c.loop-t-test.true }

pub returns-then-not-next_in_body : goal.returns-then-not-next_in_body
returns-then-not-next_in_body c =
    passed_stop c.loop-t.invariant c.loop-t-test.true c.next_in_body.ensures (ap not c.if-not-next_in_body.true)

pub loop-t-preserved : goal.loop-t-preserved
loop-t-preserved c =
    passed_next c.loop-t.invariant c.next_in_body.ensures (ap not c.if-not-next_in_body.false)

pub returns : goal.returns
returns c = passed_all c.loop-t.invariant c.loop-t-test.false
