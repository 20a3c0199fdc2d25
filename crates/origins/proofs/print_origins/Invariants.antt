-- An action at each turn.
use Rattle.std.proofs.Common.{◌-◌, ◌<◌}
use Rattle.origins.proofs.print_origins.Given as goal

abbrev pub invariant-loop-a : goal.invariant-loop-a
invariant-loop-a l = l.m < 65536
