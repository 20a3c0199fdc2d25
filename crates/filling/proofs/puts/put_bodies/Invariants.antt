-- `filling::puts::put_bodies` meets its contract. The invariant: the actions from a on are what is left, and the place is that of a.
use mathlib.Core.Path.{◌≡◌}
use Prim.Native.Nat.{ℕ, ◌-◌, ◌≤◌, ◌<◌}
use mathlib.Core.List.{List}
use Rattle.rows.proofs.Rest.{Rest}
use Rattle.table.specs.Format.{table_of}
use Rattle.table.specs.Written.{action_rows}
use Rattle.filling.specs.Filled.{filled_from}
use Rattle.filling.specs.Code.Steps.{Ready, Sums, Starts, At}
use Rattle.filling.proofs.puts.put_bodies.Given as goal

pub record Inv (s : List ℕ) (n K : ℕ) (sums starts : List ℕ) (m : ℕ) (out₀ : List ℕ) (at₀ : ℕ) (out : List ℕ) (at thread root a : ℕ) : Type 0 where
  pub ready : Ready s n K
  pub all : m ≡ (table_of s).actions
  pub within : a ≤ m
  pub sums_right : Sums (table_of s) K sums 0
  pub starts_right : Starts (table_of s) K (table_of s).actions starts
  pub place : a < (table_of s).actions → At (table_of s) K a thread root
  pub left : Rest out₀ at₀ (action_rows (filled_from (table_of s) K 0 (table_of s).actions)) out at (action_rows (filled_from (table_of s) K a ((table_of s).actions - a)))

abbrev pub invariant-loop-a : goal.invariant-loop-a
invariant-loop-a l = Inv l.table l.n l.quota l.sums l.starts l.m l.initial.out l.initial.at l.out l.at l.place.thread l.place.root l.a
