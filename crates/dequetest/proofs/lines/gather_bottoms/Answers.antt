use Rattle.std.proofs.Common.{ap, not}
use Prim.Native.Nat.{◌-◌, ◌<◌}
use native.Mathlib.Omega.{arith}
use lib.ListN.{get_or}
use Rattle.dequetest.specs.Code.Standing.{bottom_at}
use Rattle.dequetest.proofs.Walking.{GatheredTo, gathered_start, gathered_past, gathered_with, gathered_all}
use Rattle.dequetest.proofs.lines.gather_bottoms.Goals.{In-loop-i}
use Rattle.dequetest.proofs.lines.gather_bottoms.Goals as goal

pub loop-i-init : goal.loop-i-init
loop-i-init c = gathered_start (bottom_at c.args.under.now c.args.first) c.args.row.now c.args.len c.args.bottoms.now c.requires.threads c.requires.bottoms_len

-- the thread there
low : (c : In-loop-i) → get_or c.args.row.now c.loop-i.i 0 < 1024
low c = c.loop-i.invariant.threads.small c.loop-i.i c.loop-i-test.true

-- there is room for one more
room : (c : In-loop-i) → c.loop-i.count < 1024
room c = omega (arith, c.loop-i-test.true, c.loop-i.invariant.count, c.loop-i.invariant.threads.fits)

pub offset_bounds-row-i : goal.offset_bounds-row-i
offset_bounds-row-i c = omega (arith, c.loop-i-test.true, c.loop-i.invariant.threads.fits)

pub bounds-row-i : goal.bounds-row-i
bounds-row-i c = omega (arith, c.loop-i-test.true, c.loop-i.invariant.threads.fits)

pub is_bottom-requires : goal.is_bottom-requires
is_bottom-requires c = low (goal.at.is_bottom-requires c).In-loop-i

pub loop-i-preserved-then-not-is_bottom : goal.loop-i-preserved-then-not-is_bottom
loop-i-preserved-then-not-is_bottom c =
    gathered_past c.loop-i.invariant c.loop-i-test.true c.is_bottom.ensures (ap not c.if-not-is_bottom.true)

pub offset_bounds-bottoms-count : goal.offset_bounds-bottoms-count
offset_bounds-bottoms-count c = omega (arith, room (goal.at.offset_bounds-bottoms-count c).In-loop-i)

pub bounds-bottoms-count : goal.bounds-bottoms-count
bounds-bottoms-count c = room (goal.at.bounds-bottoms-count c).In-loop-i

pub overflow_add-count : goal.overflow_add-count
overflow_add-count c = omega (arith, room (goal.at.overflow_add-count c).In-loop-i)

pub loop-i-preserved : goal.loop-i-preserved
loop-i-preserved c =
    gathered_with c.loop-i.invariant c.loop-i-test.true c.is_bottom.ensures (ap not c.if-not-is_bottom.false)

pub returns : goal.returns
returns c = gathered_all c.loop-i.invariant c.loop-i-test.false
