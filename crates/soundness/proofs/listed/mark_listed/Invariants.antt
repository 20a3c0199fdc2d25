-- `soundness::listed::mark_listed` meets its contract. The invariant: the marked threads are those in the first i places, and all of them are below n.
use mathlib.Core.Path.{◌≡◌}
use Prim.Native.Nat.{ℕ, ◌≤◌}
use mathlib.Core.List.{List}
use mathlib.Core.Bool.{Bool, true, false}
use lib.Dec.{ltb}
use lib.ListN.{length, get_or, take}
use Rattle.order.specs.Words.{all_in, member}
use Rattle.soundness.proofs.listed.mark_listed.Given as goal

pub record Inv (n : ℕ) (list : List ℕ) (len : ℕ) (marks : List Bool) (i : ℕ) : Type 0 where
  pub threads : n ≤ 1024
  pub places : len ≤ 1024
  pub size : length list ≡ 1024
  pub room : length marks ≡ 1024
  pub within : i ≤ len
  pub below : all_in (λ t. ltb t n) (take i list) ≡ true
  pub marked : (t : ℕ) → get_or marks t false ≡ member t (take i list)

abbrev pub invariant-loop-i : goal.invariant-loop-i
invariant-loop-i l = Inv l.n l.list l.len l.marks l.i
