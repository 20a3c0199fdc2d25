-- `soundness::numbers::advance` meets its contract. The invariant: the walk has come to action a, which is at most `to`.
use Prim.Native.Nat.{ℕ, ◌≤◌}
use mathlib.Core.List.{List}
use Rattle.table.specs.Format.{table_of}
use Rattle.table.specs.Checks.{owner}
use Rattle.soundness.specs.Code.Order.{NumbersTo}
use Rattle.soundness.proofs.numbers.advance.Given as goal

pub record Inv (s : List ℕ) (t to a number : ℕ) (before numbers : List ℕ) : Type 0 where
  pub within : a ≤ to
  pub numbered : NumbersTo (table_of s) t a number before numbers

abbrev pub invariant-loop-a : goal.invariant-loop-a
invariant-loop-a l = Inv l.table (owner (table_of l.table) l.from) l.to l.a l.number l.initial.numbers l.numbers
