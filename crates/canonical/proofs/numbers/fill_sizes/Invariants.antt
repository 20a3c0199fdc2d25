-- `canonical::numbers::fill_sizes` meets its contract. The invariant: the walk over the threads that are left, from here, is the whole walk.
use mathlib.Core.Path.{◌≡◌}
use Prim.Native.Nat.{ℕ, ◌≤◌}
use mathlib.Core.List.{List}
use lib.ListN.{length, replicate}
use Rattle.table.specs.Format.{table_of}
use Rattle.canonical.specs.Code.NumberWalk.{cut16}
use Rattle.canonical.specs.Code.NumberWalk.{sizes_down}
use Rattle.canonical.specs.Code.NumbersOf.{Roomy}
use Rattle.canonical.proofs.numbers.fill_sizes.Given as goal

pub record Inv (s : List ℕ) (n : ℕ) (actions sizes : List ℕ) (t : ℕ) : Type 0 where
  pub roomy : Roomy s n actions
  pub within : t ≤ n
  pub sized : length sizes ≡ 1024
  pub same : sizes_down cut16 (table_of s) t sizes ≡ sizes_down cut16 (table_of s) n (replicate 1024 0)

abbrev pub invariant-loop-t : goal.invariant-loop-t
invariant-loop-t l = Inv l.table l.n l.actions l.sizes l.t
