-- `filling::numbers::fill_starts` meets its contract. The invariant: the starts of the threads forked below a, the sizes at the roots of the big allocs below a, and the place of a.
use mathlib.Core.Path.{◌≡◌}
use Prim.Native.Nat.{ℕ, ◌≤◌, ◌<◌}
use mathlib.Core.List.{List}
use Rattle.table.specs.Format.{table_of}
use Rattle.filling.specs.Code.Steps.{Ready, Sums, RootsTo, Starts, At}
use Rattle.filling.proofs.numbers.fill_starts.Given as goal

pub record Inv (s : List ℕ) (n K m : ℕ) (sums starts : List ℕ) (thread root a : ℕ) : Type 0 where
  pub ready : Ready s n K
  pub all : m ≡ (table_of s).actions
  pub within : a ≤ m
  pub sums_right : Sums (table_of s) K sums 0
  pub roots_right : RootsTo (table_of s) K a sums
  pub starts_right : Starts (table_of s) K a starts
  pub place : a < (table_of s).actions → At (table_of s) K a thread root

abbrev pub invariant-loop-a : goal.invariant-loop-a
invariant-loop-a l = Inv l.table l.n l.quota l.m l.sums l.starts l.place.thread l.place.root l.a
