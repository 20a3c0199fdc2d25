use native.Mathlib.Omega.{arith}
use Rattle.links.proofs.Reading.{written_start, written_on, written_out, written_all}
use Rattle.links.proofs.write_threads.Goals as goal

pub loop-k-init : goal.loop-k-init
loop-k-init c = written_start c.args.right.now c.args.leftmost c.args.row.now

pub loop-k-preserved : goal.loop-k-preserved
loop-k-preserved c =
    written_on _ _ _ _ _ _ c.loop-k.invariant (omega (arith, c.loop-k-test.true, c.loop-k.invariant.size)) c.if-t-ge-NO_THREAD.false

pub returns-clause-value : goal.returns-clause-value
returns-clause-value c = (written_all _ _ _ _ _ _ c.loop-k.invariant (omega (arith, c.loop-k-test.false, c.loop-k.invariant.size))).0

pub returns-clause-row_after : goal.returns-clause-row_after
returns-clause-row_after c = (written_all _ _ _ _ _ _ c.loop-k.invariant (omega (arith, c.loop-k-test.false, c.loop-k.invariant.size))).1

pub shape_of-row-then-t-ge-NO_THREAD : goal.shape_of-row-then-t-ge-NO_THREAD
shape_of-row-then-t-ge-NO_THREAD c = c.loop-k.invariant.size

pub returns-then-t-ge-NO_THREAD : goal.returns-then-t-ge-NO_THREAD
returns-then-t-ge-NO_THREAD c = let both = written_out _ _ _ _ _ _ c.loop-k.invariant c.if-t-ge-NO_THREAD.true in record { value = both.0; row_after = both.1 }
