-- `soundness::numbers::rising` meets its contract. The invariant: the numbers rise along the whole list if they do from the place before i on.
use mathlib.Core.Path.{◌≡◌}
use Prim.Native.Nat.{ℕ, ◌-◌, ◌≤◌, ◌<◌}
use mathlib.Core.List.{List}
use lib.ListN.{length, get_or, take, drop}
use Rattle.order.specs.Words.{rises}
use Rattle.soundness.proofs.numbers.rising.Given as goal

pub record Inv (numbers list : List ℕ) (len i : ℕ) : Type 0 where
  pub few : len ≤ 1024
  pub size : length (take len list) ≡ len
  pub some : 0 < i
  pub remains : rises (λ t. get_or numbers t 0) (drop (i - 1) (take len list)) ≡ rises (λ t. get_or numbers t 0) (take len list)

abbrev pub invariant-loop-i : goal.invariant-loop-i
invariant-loop-i l = Inv l.numbers l.list l.len l.i
