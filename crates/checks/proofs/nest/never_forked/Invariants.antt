-- `checks::nest::never_forked` meets its contract. The invariant: what is found from thread t on is what is found from thread 1 on.
use mathlib.Core.Path.{◌≡◌}
use Prim.Native.Nat.{ℕ, pred, ◌-◌, ◌≤◌}
use mathlib.Core.List.{List, [], ◌∷◌}
use mathlib.Core.Bool.{Bool}
use Rattle.table.specs.Pass.{try_from}
use Rattle.checks.specs.Code.Steps.{unmarked}
use Rattle.checks.proofs.nest.never_forked.Given as goal

pub record Inv (n : ℕ) (forked : List Bool) (t : ℕ) : Type 0 where
  pub small : n ≤ 1024
  pub remains : try_from (unmarked forked ∷ []) t (n - t) ≡ try_from (unmarked forked ∷ []) 1 (pred n)

abbrev pub invariant-loop-t : goal.invariant-loop-t
invariant-loop-t l = Inv l.n l.forked l.t
