-- `soundness::amounts::thread_sums` meets its contract. The invariant: the amounts of the thread's actions below a are added.
use Prim.Native.Nat.{ℕ, ◌≤◌}
use mathlib.Core.List.{List}
use Rattle.table.specs.Format.{table_of}
use Rattle.table.specs.Checks.{alloc_of, free_of}
use Rattle.soundness.specs.Code.Checks.{Accepted}
use Rattle.soundness.specs.Code.Adding.{Added}
use Rattle.soundness.proofs.amounts.thread_sums.Given as goal

pub record Inv (s : List ℕ) (n t stop allocs₀ frees₀ allocs frees a : ℕ) : Type 0 where
  pub accepted : Accepted s n
  pub few : stop ≤ 8192
  pub upto : a ≤ stop
  pub drawn : Added (alloc_of (table_of s)) ((table_of s).first t) a allocs₀ allocs
  pub given : Added (free_of (table_of s)) ((table_of s).first t) a frees₀ frees

abbrev pub invariant-loop-a : goal.invariant-loop-a
invariant-loop-a l = Inv l.table l.n l.t l.stop l.initial.allocs l.initial.frees l.allocs l.frees l.a
