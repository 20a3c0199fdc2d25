use mathlib.Core.Path.{◌≡◌}
use native.Mathlib.Omega.{arith}
use Rattle.soundness.proofs.Balancing.{balanced_none}
use Rattle.soundness.proofs.shares.thread_balance.Goals as goal

pub loop-a-init : goal.loop-a-init
loop-a-init c =
    (c.requires, balanced_none c.args.table.now _ _ _ c.first-a.ensures.value c.requires.from)

pub balance_after-sum-requires : goal.balance_after-sum-requires
balance_after-sum-requires c = record { balancing = c.loop-a.invariant.0; balanced = (c.loop-a.invariant.1, c.loop-a-test.true) }

pub loop-a-preserved : goal.loop-a-preserved
loop-a-preserved c = (c.loop-a.invariant.0, c.balance_after-sum.ensures)

pub returns : goal.returns
returns c =
    let i = c.loop-a.invariant.1 in
    let e : c.loop-a.a ≡ c.args.stop = omega (arith, i.upto, c.loop-a-test.false) in
    rw e at i
