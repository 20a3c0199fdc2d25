-- `checks::forms::first_pass` meets its contract. The invariant: the walk has come to action a in its owner's body, and what is found from a on is what is found in all.
use mathlib.Core.Path.{◌≡◌}
use Prim.Native.Nat.{ℕ, ◌-◌, ◌*◌, ◌<◌, ◌≤◌}
use mathlib.Core.List.{List}
use lib.ListN.{length}
use Rattle.table.specs.Format.{table_of, bodies_of}
use Rattle.table.specs.Pass.{try_from, try_pass}
use Rattle.table.specs.Checks.{first_pass}
use Rattle.table.specs.Code.Steps.{Laid}
use Rattle.checks.specs.Code.Steps.{Reached}
use Rattle.table.proofs.Sizes.{Sizes}
use Rattle.checks.proofs.forms.first_pass.Given as goal

pub record Inv (s actions : List ℕ) (n m own stop a : ℕ) : Type 0 where
  pub sizes : Sizes s n m
  pub laid : Laid s n m
  pub part : actions ≡ bodies_of s
  pub size : length actions ≡ 4 * m
  pub within : a ≤ m
  pub reached : a < m → Reached (table_of s) own stop a
  pub remains : try_from (first_pass (table_of s)).checks a (m - a) ≡ try_pass (first_pass (table_of s))

abbrev pub invariant-loop-a : goal.invariant-loop-a
invariant-loop-a l = Inv l.table l.actions l.n l.m l.span.own l.span.stop l.a × (l.stop ≡ l.m)
