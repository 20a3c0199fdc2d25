-- `soundness::shares::thread_balance` meets its contract. The invariant: the sum is what the thread's actions below a come to.
use Rattle.soundness.specs.Code.Balancing.{Balancing, Balanced}
use Rattle.soundness.proofs.shares.thread_balance.Given as goal

abbrev pub invariant-loop-a : goal.invariant-loop-a
invariant-loop-a l = Balancing l.table l.n l.t l.stop l.balances × Balanced l.table l.t l.stop l.a l.sum
