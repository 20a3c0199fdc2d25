use mathlib.Core.Bool.{not}
use mathlib.Core.Path.{◌≡◌, ◌∙◌, ap}
use Prim.Native.Nat.{ℕ}
use mathlib.Core.List.{List}
use Rattle.table.specs.Format.{table_of}
use Rattle.schedule.specs.Sound.{in_order}
use Rattle.order.specs.Words.{all_below}
use Rattle.order.proofs.Lawful.{lawful}
use Rattle.soundness.specs.Code.Checks.{Accepted, body_in_order}
use Rattle.order.proofs.Every.{passed_none, passed_next, passed_stop, passed_all}
use Rattle.soundness.proofs.Done.{by_bodies}
use Rattle.soundness.proofs.bodies.in_order.Goals as goal

-- the threads' actions are all the actions
all : (s : List ℕ) (n : ℕ) (next status : List ℕ) → Accepted s n
    → all_below (body_in_order (table_of s) next status) n ≡ all_below (in_order (table_of s) next status) (table_of s).actions
all s n next status k = rw k.threads (by_bodies (table_of s) (lawful s k.rules) next status)

pub loop-t-init : goal.loop-t-init
loop-t-init c = passed_none

pub thread_in_order-requires : goal.thread_in_order-requires
thread_in_order-requires c =
    record { accepted = c.requires.accepted; t_lt_n = c.loop-t-test.true; placed = c.requires.placed; forks = c.requires.forks; parents = c.requires.parents }

pub returns-then-not-thread_in_order : goal.returns-then-not-thread_in_order
returns-then-not-thread_in_order c =
    passed_stop c.loop-t.invariant c.loop-t-test.true c.thread_in_order.ensures (ap not c.if-not-thread_in_order.true)
    ∙ all c.args.table.now _ c.args.next.now c.args.status.now c.requires.accepted

pub loop-t-preserved : goal.loop-t-preserved
loop-t-preserved c =
    passed_next c.loop-t.invariant c.thread_in_order.ensures (ap not c.if-not-thread_in_order.false)

pub returns : goal.returns
returns c =
    passed_all c.loop-t.invariant c.loop-t-test.false ∙ all c.args.table.now _ c.args.next.now c.args.status.now c.requires.accepted
