-- `filling::puts::put_trees` meets its contract. The invariant: the bodies of the threads from c on are what is left.
use mathlib.Core.Path.{◌≡◌}
use Prim.Native.Nat.{ℕ, ◌-◌, ◌≤◌}
use mathlib.Core.List.{List, flatten}
use lib.ListN.{drop}
use Rattle.rows.proofs.Rest.{Rest}
use Rattle.table.specs.Format.{table_of}
use Rattle.table.specs.Serial.{serial_order}
use Rattle.table.specs.Written.{action_rows}
use Rattle.filling.specs.Filled.{trees_along, threads_to}
use Rattle.filling.specs.Code.Steps.{Ready, Sizes}
use Rattle.filling.proofs.puts.put_trees.Given as goal

pub record Inv (s : List ℕ) (n K total : ℕ) (sums out₀ : List ℕ) (at₀ : ℕ) (out : List ℕ) (at c : ℕ) : Type 0 where
  pub ready : Ready s n K
  pub all : total ≡ threads_to (table_of s) K (table_of s).actions
  pub sizes : Sizes (table_of s) K sums
  pub low : n ≤ c
  pub high : c ≤ total
  pub left : Rest out₀ at₀ (action_rows (flatten (trees_along (table_of s) K (table_of s).threads (serial_order (table_of s))))) out at
      (action_rows (flatten (drop (c - (table_of s).threads) (trees_along (table_of s) K (table_of s).threads (serial_order (table_of s))))))

abbrev pub invariant-loop-c : goal.invariant-loop-c
invariant-loop-c l = Inv l.table l.n l.quota l.total l.sums l.initial.out l.initial.at l.out l.at l.c
