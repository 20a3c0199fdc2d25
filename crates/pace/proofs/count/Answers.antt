use mathlib.Core.Path.{◌≡◌, sym, ◌∙◌}
use Prim.Native.Nat.{◌+◌, ◌*◌, ◌-◌, ◌≤◌}
use native.Mathlib.Omega.{arith}
use Rattle.pace.specs.Pace.{counted}
use Rattle.pace.proofs.Steps.{count_step, count_end}
use Rattle.pace.proofs.count.Goals as goal

pub overflow_mul-base : goal.overflow_mul-base
overflow_mul-base c = omega arith

pub loop-x-init : goal.loop-x-init
loop-x-init c =
    let w = c.args.w in
    let e : 16 * w + 0 ≡ 16 * w = omega arith in
    (omega arith, rw e)

pub overflow_add-base : goal.overflow_add-base
overflow_add-base c = omega arith

pub offset_bounds-pace-base : goal.offset_bounds-pace-base
offset_bounds-pace-base c = omega arith

pub bounds-pace-base : goal.bounds-pace-base
bounds-pace-base c = omega arith

pub one_more-requires : goal.one_more-requires
one_more-requires c = tt

pub overflow_add-pace : goal.overflow_add-pace
overflow_add-pace c = omega arith

pub offset_bounds-pace-base-in-loop-x : goal.offset_bounds-pace-base-in-loop-x
offset_bounds-pace-base-in-loop-x c = omega arith

pub bounds-pace-base-in-loop-x : goal.bounds-pace-base-in-loop-x
bounds-pace-base-in-loop-x c = omega arith

pub loop-x-preserved : goal.loop-x-preserved
loop-x-preserved c =
    let d = c.args in
    (omega arith, rw c.one_more.ensures (count_step c.loop-x.x (omega arith) c.loop-x.pace (16 * d.w) ∙ c.loop-x.invariant.1))

pub returns : goal.returns
returns c =
    let d = c.args in
    sym (count_end c.loop-x.x (16 * d.w + c.loop-x.x) c.loop-x.pace (omega arith)) ∙ c.loop-x.invariant.1
