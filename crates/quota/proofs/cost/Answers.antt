-- `quota::cost` meets its contract: each factor has the range of its type, and so the products are below 2^56.
use Prim.Native.Nat.{ℕ, ◌*◌, ◌≤◌}
use native.Mathlib.Nat.{mul-le-mul}
use native.Mathlib.Omega.{arith}
use Rattle.quota.proofs.cost.Goals as goal

once : (b p : ℕ) → b ≤ 4294967295 → p ≤ 255 → b * p ≤ 4294967295 * 255
once b p g w = mul-le-mul g w

pub overflow_mul-result : goal.overflow_mul-result
overflow_mul-result c = record { fits = omega (arith, once c.args.b c.saturating_sub.result (omega arith) (omega arith)) }

pub overflow_mul-result-2 : goal.overflow_mul-result-2
overflow_mul-result-2 c =
    let e = once c.args.b c.saturating_sub.result (omega arith) (omega arith) in
    let d : c.saturating_sub-2.result ≤ 65535 = omega arith in
    record { fits = omega (arith, mul-le-mul e d) }
