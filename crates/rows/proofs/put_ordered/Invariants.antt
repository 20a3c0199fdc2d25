-- `rows::put_ordered` meets its contract. The invariant: the entries of the threads that are left are what is left.
use Prim.Native.Nat.{ℕ, ◌-◌, ◌≤◌, ◌<◌}
use mathlib.Core.List.{List}
use lib.ListN.{length, drop}
use Rattle.rows.specs.Rows.{ordered_entries}
use Rattle.rows.proofs.Rest.{Rest}
use Rattle.rows.proofs.put_ordered.Given as goal

pub record Inv (out₀ : List ℕ) (at₀ : ℕ) (s order out : List ℕ) (at before i : ℕ) : Type 0 where
  pub within : i ≤ length order
  pub small : before < 65536
  pub left : Rest out₀ at₀ (ordered_entries s 0 order) out at (ordered_entries s before (drop i order))

abbrev pub invariant-loop-t : goal.invariant-loop-t
invariant-loop-t l = Inv l.initial.out l.initial.at l.table l.order l.out l.at l.before l.t-index
