-- `dequetest::lines::in_lines` meets its contract. The invariant: what the walk from place i on says is what the whole walk says.
use Prim.Native.Nat.{◌-◌, ◌<◌}
use native.Mathlib.Omega.{arith}
use lib.ListN.{get_or}
use borrow.Author.Rules.{rules}
use Rattle.dequetest.specs.Code.Standing.{bottom_at}
use Rattle.dequetest.proofs.Walking.{FitsTo, fits_start, fits_on, fits_not, fits_all}
use Rattle.dequetest.proofs.lines.in_lines.Given as goal

abbrev pub invariant-loop-i : goal.invariant-loop-i
invariant-loop-i l = FitsTo (bottom_at l.under l.first) l.status l.row l.len l.begins l.i
