-- `stealing::moves::including` meets its contract.
use mathlib.Core.Path.{◌≡◌}
use Prim.Native.Nat.{ℕ, ◌+◌, ◌*◌, ◌%◌, ◌^◌, ◌<◌}
use mathlib.Core.Bool.{true, false}
use Rattle.array_machine.specs.Counted.{busy_after}
use Rattle.array_machine.proofs.Bits.{bit_is}
use Rattle.stealing.proofs.moves.including.Goals as goal

got : (busy : ℕ) {w : ℕ} → w < 16 → busy + (1 * 2 ^ w) % 65536 ≡ busy_after busy false true w
unfolding busy_after
got busy {w} h = rw (bit_is w h)

pub returns : goal.returns
returns c = got _ c.requires.0
