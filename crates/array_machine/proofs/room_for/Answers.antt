-- `array_machine::room_for` meets its contract: the tests in their order.
use mathlib.Core.Path.{◌≡◌, refl, sym}
use Prim.Native.Nat.{ℕ, ◌+◌, ◌-◌, ◌*◌, ◌%◌, ◌^◌, ◌≤◌, ◌<◌}
use mathlib.Core.Bool.{Bool, true, false}
use native.Mathlib.Omega.{arith}
use borrow.Author.Tests.{lt-ltb, le-ltb, leb-true, leb-false}
use lib.Dec.{leb, ltb}
use mir.Syntax.{w64}
use mir.Val.{Fits}
use Rattle.array_machine.specs.Counted.{room_for}
use Rattle.array_machine.proofs.Bits.{bit_is, bit_small}
use Rattle.array_machine.proofs.room_for.Goals as goal

below : {x : ℕ} → Fits w64 x → x < 2 ^ 64
below h = omega (arith, h)

same_test : (b x : ℕ) → x < 65536 → leb b (65535 - x) ≡ ltb (b + x) 65536
same_test b x h = go (leb b (65535 - x)) refl
  where
    go : (t : Bool) → leb b (65535 - x) ≡ t → t ≡ ltb (b + x) 65536
    go true e = sym (lt-ltb (b + x) 65536 (omega (arith, leb-true b (65535 - x) e)))
    go false e = sym (le-ltb (b + x) 65536 (omega (arith, leb-false b (65535 - x) e)))

module _ (turns busy w : ℕ) (holds : Bool) where
  last : turns ≡ 18446744073709551615 → false ≡ room_for turns busy holds w
  unfolding room_for
  last h = rw (le-ltb (turns + 1) (2 ^ 64) (omega (arith, h)))

  module _ (f : turns < 2 ^ 64) (h : turns ≡ 18446744073709551615 → ⊥) where
    one_more : ltb (turns + 1) (2 ^ 64) ≡ true
    one_more = lt-ltb (turns + 1) (2 ^ 64) (omega (arith, f, h))

    no_worker_lem : 16 ≤ w → false ≡ room_for turns busy holds w
    unfolding room_for
    no_worker_lem d = rw (one_more, le-ltb w 16 d)

    module _ (d : w < 16) where
      held : holds ≡ true → true ≡ room_for turns busy holds w
      unfolding room_for
      held e = rw (one_more, lt-ltb w 16 d, e)

      bit_room : holds ≡ false → leb busy (65535 - (1 * 2 ^ w) % 65536) ≡ room_for turns busy holds w
      unfolding room_for
      bit_room e = rw (one_more, lt-ltb w 16 d, e, bit_is w d) (same_test busy (2 ^ w) (bit_small w d))

pub returns-then-turns-eq18446744073709551615 : goal.returns-then-turns-eq18446744073709551615
returns-then-turns-eq18446744073709551615 c = last _ _ _ _ c.if-turns-eq18446744073709551615.true

pub returns-then-w-ge16 : goal.returns-then-w-ge16
returns-then-w-ge16 c = no_worker_lem _ _ _ _ (below c.ranges.turns) c.if-turns-eq18446744073709551615.false c.if-w-ge16.true

pub returns-then-holds : goal.returns-then-holds
returns-then-holds c = held _ _ _ _ (below c.ranges.turns) c.if-turns-eq18446744073709551615.false c.if-w-ge16.false c.if-holds.true

pub returns : goal.returns
returns c = bit_room _ _ _ _ (below c.ranges.turns) c.if-turns-eq18446744073709551615.false c.if-w-ge16.false c.if-holds.false
