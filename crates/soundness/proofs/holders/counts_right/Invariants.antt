-- `soundness::holders::counts_right` meets its contract. The invariant: the counts of the threads below t are those of their statuses.
use Prim.Native.Nat.{ℕ}
use mathlib.Core.List.{List}
use mathlib.Core.Bool.{Bool}
use lib.Dec.{eqb}
use lib.ListN.{get_or}
use Rattle.soundness.specs.Code.Checks.{holders_wanted}
use Rattle.order.proofs.Every.{Passed}
use Rattle.soundness.proofs.holders.counts_right.Given as goal

abbrev pub test : List ℕ → List ℕ → ℕ → Bool
test status counts t = eqb (get_or counts t 0) (holders_wanted (get_or status t 0))

abbrev pub invariant-loop-t : goal.invariant-loop-t
invariant-loop-t l = Passed (test l.status l.counts) l.t
