-- `soundness::numbers::fill_lengths` meets its contract. The invariant: the array has the lengths of the threads from t on.
use Prim.Native.Nat.{ℕ, ◌≤◌}
use mathlib.Core.List.{List}
use Rattle.table.specs.Format.{Table, table_of}
use Rattle.soundness.specs.Code.Checks.{Lengths}
use Rattle.soundness.proofs.numbers.fill_lengths.Given as goal

pub record Inv (T : Table) (n : ℕ) (lengths : List ℕ) (t : ℕ) : Type 0 where
  pub few : n ≤ 1024
  pub within : t ≤ n
  pub filled : Lengths T lengths t

abbrev pub invariant-loop-t : goal.invariant-loop-t
invariant-loop-t l = Inv (table_of l.table) l.n l.lengths l.t
