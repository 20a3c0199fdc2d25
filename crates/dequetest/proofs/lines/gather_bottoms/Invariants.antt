-- `dequetest::lines::gather_bottoms` meets its contract. The invariant: the bottoms written and those from place i on are all.
use Rattle.dequetest.specs.Code.Standing.{bottom_at}
use Rattle.dequetest.proofs.Walking.{GatheredTo}
use Rattle.dequetest.proofs.lines.gather_bottoms.Given as goal

abbrev pub invariant-loop-i : goal.invariant-loop-i
invariant-loop-i l = GatheredTo (bottom_at l.under l.first) l.row l.len l.bottoms l.count l.i
