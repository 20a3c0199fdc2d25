use mathlib.Core.Bool.{not}
use mathlib.Core.Path.{ap}
use Rattle.soundness.proofs.Lookups.{thread_below}
use Rattle.order.proofs.Every.{passed_none, passed_next, passed_stop, passed_all}
use Rattle.soundness.proofs.bodies.statuses_follow.Goals as goal

pub loop-t-init : goal.loop-t-init
loop-t-init c = passed_none

pub status_follows-requires : goal.status_follows-requires
status_follows-requires c =
    record { rules = c.requires.accepted.rules; t_bound = thread_below c.requires.accepted c.loop-t-test.true; forks = c.requires.forks; parents = c.requires.parents }

pub returns-then-not-status_follows : goal.returns-then-not-status_follows
returns-then-not-status_follows c =
    passed_stop c.loop-t.invariant c.loop-t-test.true c.status_follows.ensures (ap not c.if-not-status_follows.true)

pub loop-t-preserved : goal.loop-t-preserved
loop-t-preserved c =
    passed_next c.loop-t.invariant c.status_follows.ensures (ap not c.if-not-status_follows.false)

pub returns : goal.returns
returns c = passed_all c.loop-t.invariant c.loop-t-test.false
