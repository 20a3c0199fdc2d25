-- The useful limit is within each of the three that it is the least of, and rises with K where K covers every stretch, or covers not.
use mathlib.Core.Path.{◌≡◌}
use Prim.Native.Nat.{ℕ, ◌+◌, ◌-◌, ◌*◌, ◌≤◌, min}
use native.Mathlib.Omega.{arith}
use native.Mathlib.Nat.{mul-le-mul_left, mul-le-mul_right}
use mathlib.Core.Bool.{Bool, true, false}
use lib.Dec.{eqb}
use borrow.Author.Tests.{ne_eqb}
use Rattle.table.specs.Sum.{pick}
use Rattle.table.specs.Format.{Table}
use Rattle.table.specs.Serial.{S1}
use Rattle.table.specs.Level.{D}
use Rattle.schedule.specs.Memory.{limit}
use Rattle.peaks.specs.Peak.{workers_peak}
use Rattle.peaks.specs.Rests.{covered, resting_peak, useful_limit}

pub useful_peak : (T : Table) (p K b : ℕ) → useful_limit T p K b ≤ workers_peak T p
unfolding useful_limit
useful_peak T p K b = omega arith

pub useful_within : (T : Table) (p K b : ℕ) → 1 ≤ b → useful_limit T p K b ≤ limit T p K b
unfolding useful_limit
useful_within T p K b h = rw (ne_eqb b 0 (λ e. omega arith)) (omega arith)

pub useful_resting : (T : Table) (p K b : ℕ) → covered T K ≡ true → useful_limit T p K b ≤ resting_peak T p
unfolding useful_limit
useful_resting T p K b e = rw e (omega arith)

-- where S_p is within M every K serves
pub useful_free : (T : Table) (p K b M : ℕ) → workers_peak T p ≤ M → useful_limit T p K b ≤ M
useful_free T p K b M h = omega (arith, useful_peak T p K b)

-- K and K' both cover every stretch, or neither does
pub useful_rises : (T : Table) (p K K' b : ℕ) → K ≤ K' → covered T K ≡ covered T K' → useful_limit T p K b ≤ useful_limit T p K' b
unfolding useful_limit limit
useful_rises T p K K' b h e =
    rw e (go (eqb b 0))
  where
    product : b * K * (p - 1) * (D T - 1) ≤ b * K' * (p - 1) * (D T - 1)
    product = mul-le-mul_right (D T - 1) (mul-le-mul_right (p - 1) (mul-le-mul_left b h))

    go : (q : Bool)
        → min (workers_peak T p) (min (pick q (workers_peak T p) (S1 T + b * K * (p - 1) * (D T - 1))) (pick (covered T K') (resting_peak T p) (workers_peak T p)))
        ≤ min (workers_peak T p) (min (pick q (workers_peak T p) (S1 T + b * K' * (p - 1) * (D T - 1))) (pick (covered T K') (resting_peak T p) (workers_peak T p)))
    go true = omega arith
    go false = omega (arith, product)
