-- `run_memory::runs::drive` meets its contract. The invariant: what is left of the run is the whole, and the root has not ended (Along).
use mathlib.Core.Path.{◌≡◌}
use Prim.Native.Nat.{ℕ, ◌%◌, ◌<◌}
use mathlib.Core.List.{List}
use mathlib.Core.Bool.{Bool, true}
use lib.ListN.{get_or}
use Rattle.schedule.specs.Runs.{worker_at}
use Rattle.run_memory.specs.Memory.{Memory}
use Rattle.run_memory.specs.Blocks.{memory_of}
use Rattle.run_memory.proofs.Drives.{Along}
use Rattle.run_memory.proofs.runs.drive.Given as goal

pub record Inv (s order : List ℕ) (rounds : Bool) (limit : ℕ) (M₀ M : Memory) (p i next : ℕ) : Type 0 where
  pub asked : rounds ≡ true → 0 < get_or M₀.settings 0 0
  pub workers : p ≡ get_or M₀.settings 0 0
  pub turn : rounds ≡ true → next ≡ i % get_or M₀.settings 0 0
  pub along : Along s (worker_at order rounds (get_or M₀.settings 0 0)) limit M₀ M i

abbrev pub invariant-loop-i : goal.invariant-loop-i
invariant-loop-i l =
    Inv l.table l.order l.rounds l.limit (memory_of l.initial.bytes l.initial.words l.initial.numbers l.initial.sums) (memory_of l.bytes l.words l.numbers l.sums) l.p l.i l.next
