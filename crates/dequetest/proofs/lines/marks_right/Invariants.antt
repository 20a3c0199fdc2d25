-- `dequetest::lines::marks_right` meets its contract. The invariant: the threads below t are marked if they are ready or held.
use mathlib.Core.Path.{◌≡◌, ◌∙◌}
use Prim.Native.Nat.{ℕ, ◌-◌}
use mathlib.Core.List.{List}
use mathlib.Core.Bool.{Bool, false, ◌||◌, beq}
use native.Mathlib.Omega.{arith}
use borrow.Author.Rules.{rules}
use lib.Dec.{eqb}
use lib.ListN.{get_or}
use Rattle.schedule.specs.Machine.{ready, held}
use Rattle.order.specs.Words.{agree}
use Rattle.deques.specs.Lines.{is_held}
use Rattle.deques.specs.DequeWalk.{is_ready}
use Rattle.order.proofs.Every.{Passed, passed_none, passed_next, passed_stop, passed_all, beq_agree}
use Rattle.dequetest.proofs.lines.marks_right.Given as goal

abbrev pub test : List ℕ → List Bool → ℕ → Bool
test status marks t = agree (get_or marks t false) (is_ready status t || is_held status t)

abbrev pub invariant-loop-t : goal.invariant-loop-t
invariant-loop-t l = Passed (test l.status l.marks) l.t
