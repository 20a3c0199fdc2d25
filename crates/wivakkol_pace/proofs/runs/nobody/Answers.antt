-- `wivakkol_pace::runs::nobody` meets its contract.
use mathlib.Core.Path.{ap}
use Prim.Native.Nat.{ℕ}
use lib.Dec.{eqb}
use Rattle.wivakkol_pace.proofs.runs.nobody.Goals as goal

pub returns-then-rounds : goal.returns-then-rounds
returns-then-rounds c = rw c.if-rounds.true (ap (λ (x : ℕ). eqb x 0) c.setting_at.ensures)

pub returns-else-rounds : goal.returns-else-rounds
returns-else-rounds c = rw c.if-rounds.false
