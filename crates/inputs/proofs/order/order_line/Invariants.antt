-- `inputs::order::order_line` meets its contract. The invariant: the order of the rest, after the workers so far, is the order of all.
use Prim.Native.Nat.{ℕ, ◌-◌, ◌≤◌}
use mathlib.Core.Path.{◌≡◌}
use mathlib.Core.List.{List}
use lib.ListN.{length, take, drop}
use Rattle.assembly.specs.Words.{words_in}
use Rattle.inputs.specs.Front.{order_from}
use Rattle.inputs.specs.Code.Steps.{Room}
use Rattle.inputs.proofs.order.order_line.Given as goal

pub record Inv (s buf₀ : List ℕ) (n₀ : ℕ) (buf : List ℕ) (n at : ℕ) : Type 0 where
  pub room : Room buf n
  pub within : at ≤ length s
  pub rest : order_from (take n buf) (words_in (drop at s)) ≡ order_from (take n₀ buf₀) (words_in s)

abbrev pub invariant-loop-at : goal.invariant-loop-at
invariant-loop-at l = Inv l.rest l.initial.order l.n-2 l.order l.n l.at

abbrev pub decreases-loop-at : goal.decreases-loop-at
decreases-loop-at l = length l.rest - l.at
