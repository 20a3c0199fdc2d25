-- `run_memory::hindrance` meets its contract: the tests in their order.
use mathlib.Core.Path.{ap, ◌≡◌}
use Prim.Native.Nat.{ℕ, ◌≤◌, ◌<◌}
use borrow.Author.Tests.{lt-ltb, le-ltb, eq-eqb, ne_eqb}
use Rattle.schedule.specs.Machine.{ended}
use Rattle.run_memory.specs.Memory.{hindrance, unless}
use Rattle.run_memory.proofs.hindrance.Goals as goal

module _ (turns p w root : ℕ) where
  full : turns ≡ 18446744073709551615 → 32 ≡ hindrance turns p w root
  unfolding hindrance
  full h = rw (eq-eqb turns 18446744073709551615 h)

  module _ (h : turns ≡ 18446744073709551615 → ⊥) where
    no_worker_lem : p ≤ w → 30 ≡ hindrance turns p w root
    unfolding hindrance
    no_worker_lem d = rw (ne_eqb turns 18446744073709551615 h, le-ltb w p d)

    module _ (d : w < p) where
      over : root ≡ ended → 31 ≡ hindrance turns p w root
      unfolding hindrance
      over e = rw (ne_eqb turns 18446744073709551615 h, lt-ltb w p d, eq-eqb root ended e)

      none : (root ≡ ended → ⊥) → 0 ≡ hindrance turns p w root
      unfolding hindrance
      none e = rw (ne_eqb turns 18446744073709551615 h, lt-ltb w p d, ne_eqb root ended e)

pub returns-then-turns-eq18446744073709551615 : goal.returns-then-turns-eq18446744073709551615
returns-then-turns-eq18446744073709551615 c = ap (λ (n : ℕ). unless n) (full _ _ _ _ c.if-turns-eq18446744073709551615.true)

pub returns-then-p-w : goal.returns-then-p-w
returns-then-p-w c = ap (λ (n : ℕ). unless n) (no_worker_lem _ _ _ _ c.if-turns-eq18446744073709551615.false c.if-p-w.true)

pub returns-then-root-eq-ENDED : goal.returns-then-root-eq-ENDED
returns-then-root-eq-ENDED c = ap (λ (n : ℕ). unless n) (over _ _ _ _ c.if-turns-eq18446744073709551615.false c.if-p-w.false c.if-root-eq-ENDED.true)

pub returns-else-root-eq-ENDED : goal.returns-else-root-eq-ENDED
returns-else-root-eq-ENDED c = ap (λ (n : ℕ). unless n) (none _ _ _ _ c.if-turns-eq18446744073709551615.false c.if-p-w.false c.if-root-eq-ENDED.false)
