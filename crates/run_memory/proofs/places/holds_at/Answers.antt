-- `run_memory::places::holds_at` meets its contract: past its part a read gives 0.
use mathlib.Core.Path.{sym, ap}
use Prim.Native.Nat.{ℕ}
use mathlib.Core.Bool.{not}
use lib.Dec.{eqb}
use Rattle.run_memory.proofs.Parts.{part_get, part_past}
use Rattle.run_memory.proofs.places.holds_at.Goals as goal

pub returns-then-w-lt16 : goal.returns-then-w-lt16
returns-then-w-lt16 c =
    let d = c.args in
    ap (λ (x : ℕ). not (eqb x 0)) (sym (part_get 1024 16 d.bytes.now d.w 0 c.if-w-lt16.true))

pub returns-else-w-lt16 : goal.returns-else-w-lt16
returns-else-w-lt16 c =
    let d = c.args in
    ap (λ (x : ℕ). not (eqb x 0)) (sym (part_past 1024 16 d.bytes.now d.w 0 c.if-w-lt16.false))
