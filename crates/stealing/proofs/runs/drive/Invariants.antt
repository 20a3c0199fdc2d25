-- `stealing::runs::drive` meets its contract. The invariant: what is left of the run is the whole (Along).
use mathlib.Core.Path.{◌≡◌}
use Prim.Native.Nat.{ℕ, ◌/◌}
use mathlib.Core.List.{List}
use lib.ListN.{length}
use Rattle.run_memory.specs.Memory.{Memory}
use Rattle.run_memory.specs.Blocks.{memory_of}
use Rattle.deques.specs.DequeRuns.{pair_at}
use Rattle.stealing.proofs.PairDrives.{Along}
use Rattle.stealing.proofs.runs.drive.Given as goal

pub record Inv (s order : List ℕ) (limit : ℕ) (M₀ M : Memory) (i : ℕ) : Type 0 where
  pub size : limit ≡ length order / 2
  pub along : Along s (pair_at order) (length order / 2) M₀ M i

abbrev pub invariant-loop-i : goal.invariant-loop-i
invariant-loop-i l =
    Inv l.table l.order l.limit (memory_of l.initial.bytes l.initial.words l.initial.numbers l.initial.sums) (memory_of l.bytes l.words l.numbers l.sums) l.i
