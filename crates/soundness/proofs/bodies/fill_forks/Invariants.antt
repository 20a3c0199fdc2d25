-- `soundness::bodies::fill_forks` meets its contract. The invariants: the forks below a are noted; a is where thread t begins, or lies in its body.
use mathlib.Core.Path.{◌≡◌}
use Prim.Native.Nat.{ℕ, ◌+◌, ◌≤◌, ◌<◌}
use mathlib.Core.List.{List}
use Rattle.table.specs.Format.{table_of}
use Rattle.table.specs.Checks.{counts_below}
use Rattle.soundness.specs.Code.Checks.{Accepted, Noted}
use Rattle.soundness.proofs.Lookups.{Body}
use Rattle.soundness.proofs.bodies.fill_forks.Given as goal

pub record Inv (s : List ℕ) (n : ℕ) (forks parents : List ℕ) (a t : ℕ) : Type 0 where
  pub accepted : Accepted s n
  pub within : t ≤ n
  pub begins : a ≡ counts_below (table_of s) t
  pub noted : Noted (table_of s) forks parents a

pub record Inv2 (s : List ℕ) (n t stop : ℕ) (forks parents : List ℕ) (a : ℕ) : Type 0 where
  pub accepted : Accepted s n
  pub thread : t < n
  pub from : (table_of s).first t ≤ a
  pub upto : a ≤ stop
  pub stops : stop ≡ (table_of s).first t + (table_of s).count t
  pub room : Body (table_of s) t
  pub noted : Noted (table_of s) forks parents a

abbrev pub invariant-loop-a : goal.invariant-loop-a
invariant-loop-a l = Inv2 l.table l.n l.t l.stop l.forks l.parents l.a

abbrev pub invariant-loop-t : goal.invariant-loop-t
invariant-loop-t l = Inv l.table l.n l.forks l.parents l.first l.t
