-- `soundness::holders::busy_right` meets its contract. The invariant: `set` is the set of the workers from w on, in its lowest bits.
use mathlib.Core.Path.{◌≡◌}
use Prim.Native.Nat.{ℕ, ◌≤◌}
use mathlib.Core.List.{List}
use lib.ListN.{length, drop}
use Rattle.schedule.specs.declared.Worker.{Worker}
use Rattle.schedule.specs.Record.{set_of}
use Rattle.soundness.proofs.holders.busy_right.Given as goal

pub record Inv (workers : List Worker) (set w : ℕ) : Type 0 where
  pub size : length workers ≡ 16
  pub within : w ≤ 16
  pub part : set ≡ set_of (drop w workers)

abbrev pub invariant-loop-w : goal.invariant-loop-w
invariant-loop-w l = Inv l.workers l.set l.w
