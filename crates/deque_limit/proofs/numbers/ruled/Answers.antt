-- `deque_limit::numbers::ruled` meets its contract: the sum fits 64 bits.
use Prim.Native.Nat.{◌-◌, ◌*◌, ◌≤◌}
use native.Mathlib.Nat.{mul-le-mul}
use native.Mathlib.Omega.{arith}
use borrow.Author.Rules.{rules}
use Rattle.deque_limit.proofs.numbers.ruled.Goals as goal

pub overflow_mul-result : goal.overflow_mul-result
overflow_mul-result c =
    let levels : c.args.nested - 1 ≤ 65535 = search rules in
    omega (arith, mul-le-mul c.requires.few_quota levels)

pub overflow_add-result : goal.overflow_add-result
overflow_add-result c =
    let levels : c.args.nested - 1 ≤ 65535 = search rules in
    omega (arith, c.requires.low, mul-le-mul c.requires.few_quota levels)
