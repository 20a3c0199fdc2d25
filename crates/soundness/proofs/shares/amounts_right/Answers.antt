-- `soundness::shares::amounts_right` meets its contract: the array has each thread's share, and the record's amounts are compared with it.
use mathlib.Core.Path.{◌≡◌, refl, ap, ◌∙◌}
use Prim.Native.Nat.{ℕ}
use mathlib.Core.List.{List, [], ◌∷◌}
use lib.Dec.{eqb}
use lib.Pointwise.{pointwise}
use Rattle.order.specs.Words.{same_list}
use Rattle.soundness.proofs.shares.amounts_right.Goals as goal

pointwise_same : (k l : List ℕ) → pointwise eqb k l ≡ same_list k l
unfolding same_list
pointwise_same [] [] = refl
pointwise_same [] (y ∷ l) = refl
pointwise_same (x ∷ k) [] = refl
pointwise_same (x ∷ k) (y ∷ l) = rw (pointwise_same k l)

pub fill_balances-requires : goal.fill_balances-requires
fill_balances-requires c = record { accepted = c.requires.accepted; status_value = c.requires.status_value; balances_value = refl }

pub clear_joined-requires : goal.clear_joined-requires
clear_joined-requires c = record { accepted = c.requires.accepted; status_value = c.requires.status_value; balances = c.fill_balances.ensures }

pub returns : goal.returns
returns c =
    c.eq.ensures ∙ pointwise_same c.args.amounts.now _ ∙ ap (same_list c.args.amounts.now) c.clear_joined.ensures
