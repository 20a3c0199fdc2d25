-- `canonical::numbers::order_in` meets its contract. The invariant: the threads passed are at their numbers.
use mathlib.Core.Path.{◌≡◌}
use Prim.Native.Nat.{ℕ, ◌≤◌}
use mathlib.Core.List.{List}
use Rattle.canonical.specs.Code.NumbersOf.{order_of}
use Rattle.canonical.proofs.numbers.order_in.Given as goal

pub record Inv (names : List ℕ) (n : ℕ) (order : List ℕ) (t : ℕ) : Type 0 where
  pub within : t ≤ n
  pub same : order ≡ order_of names t

abbrev pub invariant-loop-t : goal.invariant-loop-t
invariant-loop-t l = Inv l.names l.n l.order l.t
