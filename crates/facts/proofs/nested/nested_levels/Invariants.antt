-- `facts::nested::nested_levels` meets its contract. The invariant: t is the thread of action a, `levels` has the nesting of the root and of every thread forked before a, and `deepest` is
-- the greatest of these.
use mathlib.Core.Path.{◌≡◌}
use Prim.Native.Nat.{ℕ, ◌≤◌}
use mathlib.Core.List.{List}
use Rattle.table.specs.Format.{table_of, bodies_of}
use Rattle.table.specs.Code.Steps.{Nested}
use Rattle.table.proofs.Sizes.{Sizes}
use Rattle.facts.proofs.NestWalk.{NestsTo}
use Rattle.facts.proofs.nested.nested_levels.Given as goal

pub record Inv (s actions : List ℕ) (n m : ℕ) (levels : List ℕ) (deepest t a : ℕ) : Type 0 where
  pub sized : Sizes s n m
  pub nested : Nested s n m
  pub part : actions ≡ bodies_of s
  pub within : a ≤ m
  pub nests : NestsTo (table_of s) levels deepest t a

abbrev pub invariant-loop-a : goal.invariant-loop-a
invariant-loop-a l = Inv l.table l.actions l.n l.m l.levels l.deepest l.t l.a × (l.stop ≡ l.m)
