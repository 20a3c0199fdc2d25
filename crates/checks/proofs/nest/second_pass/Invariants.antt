-- `checks::nest::second_pass` meets its contract. The invariant: before action a the open children stand in `stack` from `top` on and `forked` marks the
-- threads forked, and what is found from action a on is what is found in all.
use mathlib.Core.Path.{◌≡◌}
use Prim.Native.Nat.{ℕ, ◌-◌, ◌*◌, ◌≤◌}
use mathlib.Core.List.{List}
use mathlib.Core.Bool.{Bool}
use lib.ListN.{length, drop}
use Rattle.table.specs.Format.{table_of, bodies_of}
use Rattle.table.specs.Pass.{try_from, try_pass}
use Rattle.table.specs.Checks.{second_pass}
use Rattle.table.specs.Code.Steps.{Formed}
use Rattle.table.proofs.Sizes.{Sizes}
use Rattle.checks.proofs.Stack.{Stacked}
use Rattle.checks.proofs.nest.second_pass.Given as goal

pub record Inv (s actions : List ℕ) (n m : ℕ) (forked : List Bool) (stack : List ℕ) (top a : ℕ) : Type 0 where
  pub sizes : Sizes s n m
  pub formed : Formed s n m
  pub part : actions ≡ bodies_of s
  pub size : length actions ≡ 4 * m
  pub within : a ≤ m
  pub stacked : length stack ≡ 1024
  pub low : top ≤ 1024
  pub before : Stacked (table_of s) a (drop top stack) forked
  pub remains : try_from (second_pass (table_of s)).checks a (m - a) ≡ try_pass (second_pass (table_of s))

abbrev pub invariant-loop-a : goal.invariant-loop-a
invariant-loop-a l = Inv l.table l.actions l.n l.m l.forked l.stack l.top l.a × (l.stop ≡ l.m)
