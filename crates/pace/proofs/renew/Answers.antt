use mathlib.Core.Path.{◌≡◌, sym, ◌∙◌}
use Prim.Native.Nat.{◌+◌, ◌*◌, ◌-◌, ◌≤◌}
use native.Mathlib.Omega.{arith}
use Rattle.pace.specs.Pace.{renewed}
use Rattle.pace.proofs.Steps.{renew_step, renew_end}
use Rattle.pace.proofs.renew.Goals as goal

pub loop-v-init : goal.loop-v-init
loop-v-init c =
    let w = c.args.w in
    let e : 0 + w ≡ w = omega arith in
    (omega arith, rw e)

pub overflow_mul-pace : goal.overflow_mul-pace
overflow_mul-pace c = omega arith

pub overflow_add-pace : goal.overflow_add-pace
overflow_add-pace c = omega arith

pub offset_bounds-pace-v : goal.offset_bounds-pace-v
offset_bounds-pace-v c = omega arith

pub bounds-pace-v : goal.bounds-pace-v
bounds-pace-v c = omega arith

pub loop-v-preserved : goal.loop-v-preserved
loop-v-preserved c =
    (omega arith, renew_step c.loop-v.v (omega arith) c.loop-v.pace c.args.w ∙ c.loop-v.invariant.1)

pub returns : goal.returns
returns c =
    sym (renew_end c.loop-v.v (16 * c.loop-v.v + c.args.w) c.loop-v.pace (omega arith)) ∙ c.loop-v.invariant.1
