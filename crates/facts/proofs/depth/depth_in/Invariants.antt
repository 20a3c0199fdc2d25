-- `facts::depth::depth_in` meets its contract. The invariant: the walk over the threads that are left, from here, is the whole walk.
use mathlib.Core.Path.{◌≡◌}
use Prim.Native.Nat.{ℕ, ◌≤◌}
use mathlib.Core.List.{List}
use lib.ListN.{length, replicate}
use Rattle.table.specs.Format.{table_of}
use Rattle.facts.specs.Code.Steps.{Kept}
use Rattle.facts.specs.Code.DepthWalk.{depths_down, cut16}
use Rattle.facts.proofs.depth.depth_in.Given as goal

pub record Inv (s : List ℕ) (n m : ℕ) (depths : List ℕ) (t : ℕ) : Type 0 where
  pub kept : Kept s n m
  pub within : t ≤ n
  pub sized : length depths ≡ 1024
  pub same : depths_down cut16 (table_of s) t depths ≡ depths_down cut16 (table_of s) n (replicate 1024 0)

abbrev pub invariant-loop-t : goal.invariant-loop-t
invariant-loop-t l = Inv l.table l.n l.m l.depths l.t
