-- `soundness::unused::bytes_rest` meets its contract. The invariant: the places from `used` to i are 0.
use Rattle.order.proofs.Every.{PassedFrom}
use Rattle.soundness.proofs.Filled.{is_zero}
use Rattle.soundness.proofs.unused.bytes_rest.Given as goal

abbrev pub invariant-loop-i : goal.invariant-loop-i
invariant-loop-i l = PassedFrom l.used (is_zero l.bytes) l.i
