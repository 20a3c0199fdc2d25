-- `soundness::listed::marks_right` meets its contract. The invariant: the threads below t are marked if they are live.
use Prim.Native.Nat.{ℕ}
use mathlib.Core.List.{List}
use mathlib.Core.Bool.{Bool, false}
use lib.ListN.{get_or}
use Rattle.schedule.specs.Sound.{live_in}
use Rattle.order.specs.Words.{agree}
use Rattle.order.proofs.Every.{Passed}
use Rattle.soundness.proofs.listed.marks_right.Given as goal

abbrev pub test : List ℕ → List Bool → ℕ → Bool
test status marks t = agree (get_or marks t false) (live_in status t)

abbrev pub invariant-loop-t : goal.invariant-loop-t
invariant-loop-t l = Passed (test l.status l.marks) l.t
