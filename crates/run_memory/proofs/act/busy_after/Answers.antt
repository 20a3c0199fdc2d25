-- `run_memory::act::busy_after` meets its contract: the bit is 2 ^ w, and each way out is one of the definition's cases.
use mathlib.Core.Path.{◌≡◌}
use Prim.Native.Nat.{ℕ, ◌+◌, ◌*◌, ◌%◌, ◌^◌, ◌<◌}
use mathlib.Core.Bool.{Bool, true, false}
use Rattle.array_machine.specs.Counted.{busy_after}
use Rattle.array_machine.proofs.Bits.{bit_is}
use Rattle.array_machine.proofs.Leaves.{fits16}
use Rattle.run_memory.proofs.act.busy_after.Goals as goal

room : (busy : ℕ) {w : ℕ} → w < 16 → busy + 2 ^ w < 65536 → busy + (1 * 2 ^ w) % 65536 < 65536
room busy {w} h d = rw (bit_is w h) d

module _ (busy : ℕ) {w : ℕ} (h : w < 16) {held holds : Bool} where
  keeps : (b : Bool) → held ≡ b → holds ≡ b → busy ≡ busy_after busy held holds w
  unfolding busy_after
  keeps true e f = rw (e, f)
  keeps false e f = rw (e, f)

  lost : {x : ℕ} → held ≡ true → holds ≡ false → x ≡ busy_after busy true false w → x ≡ busy_after busy held holds w
  lost e f q = rw (e, f) q

  got : held ≡ false → holds ≡ true → busy + (1 * 2 ^ w) % 65536 ≡ busy_after busy held holds w
  unfolding busy_after
  got e f = rw (e, f, bit_is w h)

pub returns-then-holds : goal.returns-then-holds
returns-then-holds c = keeps _ c.requires.0 true c.if-held.true c.if-holds.true

pub returns-then-held : goal.returns-then-held
returns-then-held c =
    lost _ c.requires.0 c.if-held.true c.if-holds.false c.without.ensures

pub overflow_add-result : goal.overflow_add-result
overflow_add-result c = fits16 (room _ c.requires.0 (c.requires.1 c.if-held.false))

pub returns-then-holds-2 : goal.returns-then-holds-2
returns-then-holds-2 c = got _ c.requires.0 c.if-held.false c.if-holds-2.true

pub returns-else-holds-2 : goal.returns-else-holds-2
returns-else-holds-2 c = keeps _ c.requires.0 false c.if-held.false c.if-holds-2.false
