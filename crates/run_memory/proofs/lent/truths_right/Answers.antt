use Prim.Native.Nat.{◌<◌}
use native.Mathlib.Omega.{arith}
use borrow.Author.Tests.{lt-ltb, le-ltb}
use lib.ListN.{get_or}
use Rattle.order.proofs.Every.{passed_none, passed_more, passed_fails, passed_all}
use Rattle.run_memory.specs.Stands.{truths}
use Rattle.run_memory.proofs.lent.truths_right.Goals as goal

pub loop-w-init : goal.loop-w-init
loop-w-init c = passed_none

pub bounds-holds-w : goal.bounds-holds-w
bounds-holds-w c = omega arith

pub returns-then-holds-w-gt1 : goal.returns-then-holds-w-gt1
unfolding truths
returns-then-holds-w-gt1 c =
    passed_fails c.loop-w.invariant c.loop-w-test.true (le-ltb _ 2 c.if-holds-w-gt1.true)

pub loop-w-preserved : goal.loop-w-preserved
loop-w-preserved c =
    let l : get_or c.args.holds.now c.loop-w.w 0 < 2 = omega (arith, c.if-holds-w-gt1.false) in
    passed_more c.loop-w.invariant (lt-ltb _ 2 l)

pub returns : goal.returns
unfolding truths
returns c = passed_all c.loop-w.invariant c.loop-w-test.false
