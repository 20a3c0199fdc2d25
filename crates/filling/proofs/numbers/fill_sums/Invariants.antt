-- `filling::numbers::fill_sums` meets its contract. The invariant: the array has the sums of the threads from t on.
use Prim.Native.Nat.{ℕ, ◌≤◌}
use mathlib.Core.List.{List}
use Rattle.table.specs.Format.{table_of}
use Rattle.filling.specs.Code.Steps.{Ready, Sums}
use Rattle.filling.proofs.Numbering.{l}
use Rattle.filling.proofs.numbers.fill_sums.Given as goal

pub record Inv (s : List ℕ) (n K : ℕ) (sums : List ℕ) (t : ℕ) : Type 0 where
  pub ready : Ready s n K
  pub few : n ≤ 1024
  pub within : t ≤ n
  pub filled : Sums (table_of s) K sums t

abbrev pub invariant-loop-t : goal.invariant-loop-t
invariant-loop-t l = Inv l.table l.n l.quota l.sums l.t
