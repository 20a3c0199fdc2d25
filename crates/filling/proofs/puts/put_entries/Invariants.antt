-- `filling::puts::put_entries` meets its contract. The invariant: the entries of the threads from c on are what is left, and their first action is the next.
use mathlib.Core.Path.{◌≡◌}
use Prim.Native.Nat.{ℕ, ◌+◌, ◌≤◌}
use mathlib.Core.List.{List, flatten}
use lib.ListN.{length, drop}
use Rattle.rows.proofs.Rest.{Rest}
use Rattle.table.specs.Format.{table_of}
use Rattle.table.specs.Written.{entry_rows}
use Rattle.filling.specs.Filled.{filled_bodies, threads_to, actions_to}
use Rattle.filling.specs.Code.Steps.{Ready, Sizes}
use Rattle.filling.proofs.puts.put_entries.Given as goal

pub record Inv (s : List ℕ) (n K total : ℕ) (sums out₀ : List ℕ) (at₀ : ℕ) (out : List ℕ) (at first c : ℕ) : Type 0 where
  pub ready : Ready s n K
  pub all : total ≡ threads_to (table_of s) K (table_of s).actions
  pub sizes : Sizes (table_of s) K sums
  pub high : c ≤ total
  pub counted : first + length (flatten (drop c (filled_bodies (table_of s) K))) ≡ actions_to (table_of s) K (table_of s).actions
  pub left : Rest out₀ at₀ (entry_rows 0 (filled_bodies (table_of s) K)) out at (entry_rows first (drop c (filled_bodies (table_of s) K)))

abbrev pub invariant-loop-c : goal.invariant-loop-c
invariant-loop-c l = Inv l.table l.n l.quota l.total l.sums l.initial.out l.initial.at l.out l.at l.first l.c
