-- `run_memory::act::without` meets its contract: the bit of a worker above 15 is larger than any set.
use mathlib.Core.Path.{◌≡◌}
use Prim.Native.Nat.{ℕ, ◌-◌, ◌*◌, ◌%◌, ◌^◌, ◌≤◌, ◌<◌}
use mathlib.Core.Bool.{true, false}
use native.Mathlib.Nat.{pow-le-pow_right}
use native.Mathlib.Omega.{arith}
use Rattle.array_machine.specs.Counted.{busy_after}
use Rattle.array_machine.proofs.Bits.{bit_is}
use borrow.Author.Rules.{rules}
use Rattle.run_memory.proofs.act.without.Goals as goal

too_large : (busy : ℕ) {w : ℕ} → 16 ≤ w → busy < 65536 → 0 ≡ busy_after busy true false w
unfolding busy_after
too_large busy {w} h b = omega (arith, b, pow-le-pow_right {n = 2} (omega arith) h)

module _ (busy : ℕ) {w : ℕ} (h : w < 16) where
  gone : busy < (1 * 2 ^ w) % 65536 → 0 ≡ busy_after busy true false w
  unfolding busy_after
  gone d = omega (arith, bit_is w h)

  lost : busy - (1 * 2 ^ w) % 65536 ≡ busy_after busy true false w
  unfolding busy_after
  lost = rw (bit_is w h)

pub returns-then-w-ge16 : goal.returns-then-w-ge16
returns-then-w-ge16 c = too_large _ c.if-w-ge16.true (search rules)

pub returns-then-busy-bit : goal.returns-then-busy-bit
returns-then-busy-bit c = gone _ c.if-w-ge16.false c.if-busy-bit.true

pub returns-else-busy-bit : goal.returns-else-busy-bit
returns-else-busy-bit c = lost _ c.if-w-ge16.false
