-- `inputs::front::turns_line` meets its contract: the order goes on, or something else should have stood there.
use Rattle.std.specs.Prelude.{Err, Ok, Result}
use native.Mathlib.Omega.{arith}
use Prim.Native.Nat.{ℕ}
use mathlib.Core.Path.{◌≡◌, ap}
use mathlib.Core.List.{List}
use Rattle.inputs.specs.Front.{Order, ordered_to}
use Rattle.inputs.specs.Code.Steps.{Ordering, Stepping}
use Rattle.inputs.specs.declared.Wanted.{Wanted}
use Rattle.inputs.specs.declared.front.Front.TheVariants.{Turns}
use Rattle.inputs.specs.declared.front.Step.TheVariants.{Goes}
use Rattle.std.proofs.lemmas.Result.{err_from_is_err_and}
use Rattle.inputs.proofs.front.turns_line.Goals as goal

module _ (p K : ℕ) {r : Result ℕ Wanted} (buf : List ℕ) (o : Order) (d : Ordering r buf o) where
  goes_on : {n : ℕ} → r ≡ Ok n → Stepping (Ok (Goes (Turns p K n))) buf (ordered_to p K o)
  goes_on q = record { value = ap (ordered_to p K) (rw q at d.value); few = rw q at d.few }

  broken_off : {e : Wanted} → r ≡ Err e → Stepping (Err e) buf (ordered_to p K o)
  broken_off q = record { value = ap (ordered_to p K) (rw q at d.value); few = omega arith }

pub order_line-requires : goal.order_line-requires
order_line-requires c = c.requires

pub returns : goal.returns
returns c = goes_on _ _ _ _ c.order_line.ensures c.in_ok-j.was

pub returns-in_err-j : goal.returns-in_err-j
returns-in_err-j c = let q = err_from_is_err_and c.from_residual.result c.from_residual.ensures.1 in rw (q.1, q.2) (broken_off _ _ _ _ c.order_line.ensures c.in_err-j.was)
