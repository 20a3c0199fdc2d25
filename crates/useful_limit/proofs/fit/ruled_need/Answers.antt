-- `useful_limit::fit::ruled_need` meets its contract: demand 3's limit fits 64 bits.
use native.Mathlib.Omega.{arith}
use Rattle.useful_limit.proofs.Steps.{limit_fits, ruled, unruled}
use Rattle.useful_limit.proofs.fit.ruled_need.Goals as goal

pub returns-then-x : goal.returns-then-x
returns-then-x c = unruled c.args.x c.args.quota c.if-x.true

pub overflow_mul-result : goal.overflow_mul-result
overflow_mul-result c = omega (arith, limit_fits _ _ c.requires.0 c.requires.1)

pub overflow_add-result : goal.overflow_add-result
overflow_add-result c = omega (arith, limit_fits _ _ c.requires.0 c.requires.1)

pub returns : goal.returns
returns c = ruled c.args.x c.args.quota c.if-x.false
