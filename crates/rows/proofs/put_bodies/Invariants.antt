-- `rows::put_bodies` meets its contract. The invariant: the bodies of the threads that are left are what is left.
use Prim.Native.Nat.{ℕ, ◌-◌, ◌≤◌}
use mathlib.Core.List.{List}
use lib.ListN.{length, drop}
use Rattle.rows.specs.Rows.{named_by, ordered_rows}
use Rattle.rows.proofs.Rest.{Rest}
use Rattle.rows.proofs.put_bodies.Given as goal

pub record Inv (out₀ : List ℕ) (at₀ : ℕ) (s order names out : List ℕ) (at i : ℕ) : Type 0 where
  pub within : i ≤ length order
  pub left : Rest out₀ at₀ (ordered_rows s (named_by names) order) out at (ordered_rows s (named_by names) (drop i order))

abbrev pub invariant-loop-t : goal.invariant-loop-t
invariant-loop-t l = Inv l.initial.out l.initial.at l.table l.order l.names l.out l.at l.t-index
