use native.Mathlib.Omega.{arith}
use Rattle.links.proofs.Laying.{laid_start, laid_on, laid_done}
use Rattle.links.proofs.lay_threads.Goals as goal

pub loop-i-init : goal.loop-i-init
loop-i-init c = laid_start c.args.row.now c.args.left.now c.args.right.now c.requires

pub loop-i-preserved : goal.loop-i-preserved
loop-i-preserved c =
    laid_on _ _ _ _ _ _ _ _ _ (omega arith) c.loop-i.invariant c.thread_at.ensures c.thread_before.ensures c.put.ensures c.put-in-loop-i.ensures

pub returns : goal.returns
returns c = let both = laid_done _ _ _ _ c.loop-i.invariant c.loop-i-test.false in record { left_after = both.0; right_after = both.1 }
