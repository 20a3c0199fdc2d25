use mathlib.Core.Bool.{not}
use mathlib.Core.Path.{ap}
use Rattle.order.proofs.Every.{passed_none, passed_next, passed_stop, passed_all}
use Rattle.soundness.proofs.bodies.waits_at_joins.Goals as goal

pub loop-t-init : goal.loop-t-init
loop-t-init c = passed_none

pub waits_at_join-requires : goal.waits_at_join-requires
waits_at_join-requires c = record { accepted = c.requires.accepted; t_lt_n = c.loop-t-test.true; placed = c.requires.placed }

pub returns-then-not-waits_at_join : goal.returns-then-not-waits_at_join
returns-then-not-waits_at_join c =
    passed_stop c.loop-t.invariant c.loop-t-test.true c.waits_at_join.ensures (ap not c.if-not-waits_at_join.true)

pub loop-t-preserved : goal.loop-t-preserved
loop-t-preserved c =
    passed_next c.loop-t.invariant c.waits_at_join.ensures (ap not c.if-not-waits_at_join.false)

pub returns : goal.returns
returns c = passed_all c.loop-t.invariant c.loop-t-test.false
