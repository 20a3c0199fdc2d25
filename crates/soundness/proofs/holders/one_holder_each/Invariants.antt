-- `soundness::holders::one_holder_each` meets its contract. The invariant: the counts are of the workers below w, so that none is above w.
use mathlib.Core.Path.{◌≡◌}
use Prim.Native.Nat.{ℕ, ◌≤◌, ◌<◌}
use mathlib.Core.List.{List}
use lib.ListN.{length, get_or}
use Rattle.schedule.specs.declared.Worker.{Worker}
use Rattle.schedule.specs.Sound.{holds_thread}
use Rattle.order.specs.Words.{count_below}
use Rattle.soundness.proofs.holders.one_holder_each.Given as goal

-- how many of the first w workers hold thread t
abbrev pub holders : List Worker → ℕ → ℕ → ℕ
holders workers t w = count_below (holds_thread workers t) w

pub record Inv (n : ℕ) (workers : List Worker) (counts : List ℕ) (w : ℕ) : Type 0 where
  pub small : n ≤ 1024
  pub within : w ≤ 16
  pub room : length counts ≡ 1024
  pub counted : (t : ℕ) → t < 1024 → get_or counts t 0 ≡ holders workers t w

abbrev pub invariant-loop-x : goal.invariant-loop-x
invariant-loop-x l = Inv l.n l.x-items l.counts l.x-index
