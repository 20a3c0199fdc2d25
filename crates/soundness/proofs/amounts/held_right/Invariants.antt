-- `soundness::amounts::held_right` meets its contract. The invariant: the sums are those of what is done in the threads below t.
use Prim.Native.Nat.{ℕ, ◌≤◌}
use mathlib.Core.List.{List}
use Rattle.table.specs.Format.{table_of}
use Rattle.table.specs.Checks.{alloc_of, free_of}
use Rattle.soundness.specs.Code.Checks.{Accepted, Placed}
use Rattle.soundness.specs.declared.amounts.Sums.{Sums}
use Rattle.soundness.proofs.DoneSums.{Counted}
use Rattle.soundness.proofs.amounts.held_right.Given as goal

pub record Inv (s : List ℕ) (n : ℕ) (next status : List ℕ) (held : ℕ) (sums : Sums) (t : ℕ) : Type 0 where
  pub accepted : Accepted s n
  pub placed : Placed s n next
  pub within : t ≤ n
  pub drawn : Counted (table_of s) next status (alloc_of (table_of s)) t sums.allocs
  pub given : Counted (table_of s) next status (free_of (table_of s)) t sums.frees

abbrev pub invariant-loop-t : goal.invariant-loop-t
invariant-loop-t l = Inv l.table l.n l.next l.status l.held l.sums l.t
