-- `run_memory::runs::worker_of` meets its contract: rounds count through the workers, a list names them.
use mathlib.Core.Path.{◌≡◌}
use Prim.Native.Nat.{ℕ}
use mathlib.Core.Bool.{Bool, true, false}
use Rattle.table.specs.Sum.{pick}
use Rattle.run_memory.proofs.runs.worker_of.Goals as goal

in_rounds_lem : (b : Bool) (x y : ℕ) → b ≡ true → x ≡ pick b x y
in_rounds_lem b x y e = rw e

from_list : (b : Bool) (x y : ℕ) {z : ℕ} → b ≡ false → z ≡ y → z ≡ pick b x y
from_list b x y e d = rw e d

pub returns-then-rounds : goal.returns-then-rounds
returns-then-rounds c = in_rounds_lem _ _ _ c.if-rounds.true

pub returns-else-rounds : goal.returns-else-rounds
returns-else-rounds c = from_list _ _ _ c.if-rounds.false c.byte.ensures
