-- `soundness::shares::clear_joined` meets its contract. The invariants: the threads joined below thread t's actions, or below action a of it, are cleared.
use Rattle.soundness.proofs.Clearing.{Clearing, ClearingIn}
use Rattle.soundness.proofs.shares.clear_joined.Given as goal

abbrev pub invariant-loop-a : goal.invariant-loop-a
invariant-loop-a l = ClearingIn l.table l.n l.next l.status l.t l.stop l.amounts l.a

abbrev pub invariant-loop-t : goal.invariant-loop-t
invariant-loop-t l = Clearing l.table l.n l.next l.status l.amounts l.t
