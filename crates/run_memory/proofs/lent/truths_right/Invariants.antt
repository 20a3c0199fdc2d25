-- `run_memory::lent::truths_right` meets its contract. The invariant: the workers below w have 0 or 1.
use lib.Dec.{ltb}
use lib.ListN.{get_or}
use Rattle.order.proofs.Every.{Passed}
use Rattle.run_memory.proofs.lent.truths_right.Given as goal

abbrev pub invariant-loop-w : goal.invariant-loop-w
invariant-loop-w l = Passed (λ i. ltb (get_or l.holds i 0) 2) l.w
