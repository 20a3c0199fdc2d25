-- `run_memory::runs::root_ended` meets its contract: the root's status is the block's first byte, and there is one.
use mathlib.Core.Path.{◌≡◌, sym, ap}
use Prim.Native.Nat.{ℕ, ◌<◌}
use mathlib.Core.List.{List}
use native.Mathlib.Omega.{arith}
use lib.Dec.{eqb}
use lib.ListN.{length}
use Rattle.schedule.specs.Machine.{ended}
use Rattle.run_memory.specs.Blocks.{part}
use Rattle.run_memory.proofs.Parts.{part_length, front_get}
use Rattle.run_memory.proofs.runs.root_ended.Goals as goal

rooted : (l : List ℕ) → length l ≡ 1040 → 0 < length (part 0 1024 l)
rooted l e = let n : length (part 0 1024 l) ≡ 1024 = part_length 0 1024 l (omega (arith, e)) in omega (arith, n)

pub bounds-places-0 : goal.bounds-places-0
bounds-places-0 c = omega arith

pub returns : goal.returns
returns c = let l = c.args.bytes.now in record { value = ap (λ (x : ℕ). eqb x ended) (sym (front_get 1024 l 0 0 (omega arith))); status_nonzero = rooted l (omega arith) }
