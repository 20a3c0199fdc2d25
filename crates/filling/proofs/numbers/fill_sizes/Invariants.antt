-- `filling::numbers::fill_sizes` meets its contract. The invariant: the sizes of the children of the new threads below c are there, and with the roots' they are all that is needed.
use mathlib.Core.Path.{◌≡◌}
use Prim.Native.Nat.{ℕ, ◌≤◌}
use mathlib.Core.List.{List}
use Rattle.table.specs.Format.{table_of}
use Rattle.filling.specs.Filled.{threads_to}
use Rattle.filling.specs.Code.Steps.{Ready}
use Rattle.filling.proofs.Numbering.{Children}
use Rattle.filling.proofs.numbers.fill_sizes.Given as goal

pub record Inv (s : List ℕ) (n K total : ℕ) (sums : List ℕ) (c : ℕ) : Type 0 where
  pub ready : Ready s n K
  pub all : total ≡ threads_to (table_of s) K (table_of s).actions
  pub low : n ≤ c
  pub children : Children s n K ready c sums

abbrev pub invariant-loop-c : goal.invariant-loop-c
invariant-loop-c l = Inv l.table l.n l.quota l.total l.sums l.c
