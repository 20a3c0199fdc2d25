use Prim.Native.Nat.{◌-◌, ◌<◌}
use native.Mathlib.Omega.{arith}
use lib.ListN.{get_or}
use borrow.Author.Rules.{rules}
use Rattle.table.proofs.Tests.{no_way}
use Rattle.dequetest.proofs.Walking.{MarkedFrom, marked_start, marked_low, marked_on, marked_twice, marked_all}
use Rattle.dequetest.proofs.lines.mark_once.Goals.{In-loop-i}
use Rattle.dequetest.proofs.lines.mark_once.Goals as goal

pub loop-i-init : goal.loop-i-init
loop-i-init c = marked_start c.args.row.now c.args.len c.args.marks.now c.requires.threads c.requires.marks_value

-- the thread there
low : (c : In-loop-i) → get_or c.args.row.now (c.loop-i.i - 1) 0 < 1024
low c = marked_low _ _ _ c.loop-i.i (c.loop-i.i - 1) (omega (arith, c.loop-i-test.true)) c.loop-i.invariant

pub offset_bounds-row-i : goal.offset_bounds-row-i
offset_bounds-row-i c = omega (arith, c.loop-i.invariant.within, c.loop-i.invariant.threads.fits)

pub bounds-row-i : goal.bounds-row-i
bounds-row-i c = omega (arith, c.loop-i-test.true, c.loop-i.invariant.within, c.loop-i.invariant.threads.fits)

pub overflow_cast-t : goal.overflow_cast-t
overflow_cast-t c = omega (arith, low (goal.at.overflow_cast-t c).In-loop-i)

pub bounds-marks-t : goal.bounds-marks-t
bounds-marks-t c = low (goal.at.bounds-marks-t c).In-loop-i

pub returns-then-marks-t : goal.returns-then-marks-t
returns-then-marks-t c = record { value = marked_twice _ _ _ c.loop-i.i (c.loop-i.i - 1) (omega (arith, c.loop-i-test.true)) c.loop-i.invariant c.if-marks-t.true; false_after = (λ e. no_way (cc)) }

pub bounds-marks-t-in-loop-i : goal.bounds-marks-t-in-loop-i
bounds-marks-t-in-loop-i c = low (goal.at.bounds-marks-t-in-loop-i c).In-loop-i

pub loop-i-preserved : goal.loop-i-preserved
loop-i-preserved c =
    marked_on _ _ _ c.loop-i.i (c.loop-i.i - 1) (omega (arith, c.loop-i-test.true)) c.loop-i.invariant c.if-marks-t.false

pub returns : goal.returns
returns c = let both = marked_all _ _ _ _ c.loop-i.invariant c.loop-i-test.false in record { value = both.0; false_after = both.1 }
