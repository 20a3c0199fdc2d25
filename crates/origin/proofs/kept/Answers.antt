-- `origin::kept` meets its contract.
use mathlib.Core.Path.{◌≡◌}
use Prim.Native.Nat.{ℕ, ◌-◌, ◌*◌}
use native.Mathlib.Omega.{arith}
use Rattle.origin.proofs.kept.Goals as goal

told : (a b x r : ℕ) → b ≡ x → r ≡ a - 2 * b → r ≡ a - 2 * x
told a b x r e f = omega (arith, e, f)

pub brought-counted-requires : goal.brought-counted-requires
brought-counted-requires c = record { n_value = c.requires.n_value; le_quota = c.requires.le_quota; k_bound = omega (arith, c.requires.a_bound) }

pub overflow_mul-counted : goal.overflow_mul-counted
overflow_mul-counted c = omega (arith, c.brought-counted.ensures.read.small)

pub returns : goal.returns
returns c = record { value = told _ _ _ _ c.brought-counted.ensures.read.value c.saturating_sub.ensures; small = omega (arith, c.saturating_sub.ensures, c.requires.a_bound) }
