use Rattle.std.proofs.Common.{ap, not}
use Prim.Native.Nat.{◌-◌, ◌<◌}
use native.Mathlib.Omega.{arith}
use lib.ListN.{get_or}
use borrow.Author.Rules.{rules}
use Rattle.dequetest.specs.Code.Standing.{bottom_at}
use Rattle.dequetest.proofs.Walking.{FitsTo, fits_start, fits_on, fits_not, fits_all}
use Rattle.dequetest.proofs.lines.in_lines.Goals.{In-loop-i}
use Rattle.dequetest.proofs.lines.in_lines.Goals as goal

pub loop-i-init : goal.loop-i-init
loop-i-init c = fits_start (bottom_at c.args.under.now c.args.first) c.args.status.now c.args.row.now c.args.len c.requires

-- the thread there
low : (c : In-loop-i) → get_or c.args.row.now c.loop-i.i 0 < 1024
low c = c.loop-i.invariant.threads.small c.loop-i.i c.loop-i-test.true

pub offset_bounds-row-i : goal.offset_bounds-row-i
offset_bounds-row-i c = omega (arith, c.loop-i-test.true, c.loop-i.invariant.threads.fits)

pub bounds-row-i : goal.bounds-row-i
bounds-row-i c = omega (arith, c.loop-i-test.true, c.loop-i.invariant.threads.fits)

pub overflow_cast-t : goal.overflow_cast-t
overflow_cast-t c = omega (arith, low (goal.at.overflow_cast-t c).In-loop-i)

pub bounds-status-t : goal.bounds-status-t
bounds-status-t c = low (goal.at.bounds-status-t c).In-loop-i

pub returns-then-not-fits_line : goal.returns-then-not-fits_line
returns-then-not-fits_line c =
    fits_not c.loop-i.invariant c.loop-i-test.true c.fits_line.ensures (ap not c.if-not-fits_line.true)

pub is_bottom-begins-requires : goal.is_bottom-begins-requires
is_bottom-begins-requires c = low (goal.at.is_bottom-begins-requires c).In-loop-i

pub loop-i-preserved : goal.loop-i-preserved
loop-i-preserved c =
    fits_on c.loop-i.invariant c.loop-i-test.true c.fits_line.ensures (ap not c.if-not-fits_line.false) c.is_bottom-begins.ensures

pub returns : goal.returns
returns c = fits_all c.loop-i.invariant c.loop-i-test.false
