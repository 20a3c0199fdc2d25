-- `rows::put_entries` meets its contract. The invariant: the entries of the threads that are left are what is left.
use Prim.Native.Nat.{ℕ, ◌-◌, ◌≤◌}
use mathlib.Core.List.{List}
use Rattle.rows.specs.Rows.{shifted_entries}
use Rattle.rows.proofs.Rest.{Rest}
use Rattle.rows.proofs.put_entries.Given as goal

pub record Inv (out₀ : List ℕ) (at₀ : ℕ) (s : List ℕ) (o n : ℕ) (out : List ℕ) (at t : ℕ) : Type 0 where
  pub within : t ≤ n
  pub left : Rest out₀ at₀ (shifted_entries s o 0 n) out at (shifted_entries s o t (n - t))

abbrev pub invariant-loop-t : goal.invariant-loop-t
invariant-loop-t l = Inv l.initial.out l.initial.at l.table l.o l.n l.out l.at l.t
