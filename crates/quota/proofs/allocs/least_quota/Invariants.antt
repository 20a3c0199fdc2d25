-- `quota::allocs::least_quota` meets its contract. The invariant: `least` is the greatest of 1 and the allocs passed.
use mathlib.Core.Path.{◌≡◌}
use Prim.Native.Nat.{ℕ, ◌-◌, ◌≤◌, ◌<◌, max}
use mathlib.Core.List.{List}
use Rattle.table.specs.Sum.{greatest_to}
use Rattle.table.specs.Format.{threads_of, actions_of, bodies_from, table_of}
use Rattle.table.specs.Checks.{alloc_of}
use Rattle.quota.proofs.allocs.least_quota.Given as goal

pub record Inv (s list : List ℕ) (m least a : ℕ) : Type 0 where
  pub here : list ≡ bodies_from s (threads_of s)
  pub actions : m ≡ actions_of s
  pub some : m < 65536
  pub within : a ≤ m
  pub greatest : least ≡ max 1 (greatest_to (alloc_of (table_of s)) a)

abbrev pub invariant-loop-a : goal.invariant-loop-a
invariant-loop-a l = Inv l.table l.list l.m l.least l.a
