-- `joining::given::lengths_to` meets its contract. The invariant: the first i places have the first i lengths.
use mathlib.Core.Path.{◌≡◌}
use Prim.Native.Nat.{ℕ, ◌≤◌}
use mathlib.Core.List.{List}
use lib.ListN.{length, take}
use Rattle.joining.specs.Given.{lengths_to}
use Rattle.joining.proofs.given.lengths_to.Given as goal

pub record Inv (input : List ℕ) (k : ℕ) (lengths : List ℕ) (i : ℕ) : Type 0 where
  pub long : length lengths ≡ 16
  pub within : i ≤ k
  pub read : take i lengths ≡ lengths_to input i

abbrev pub invariant-loop-i : goal.invariant-loop-i
invariant-loop-i l = Inv l.input l.k l.lengths l.i
