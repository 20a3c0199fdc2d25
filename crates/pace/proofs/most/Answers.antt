use mathlib.Core.Path.{◌≡◌, ◌∙◌}
use Prim.Native.Nat.{◌+◌, ◌*◌, ◌-◌, ◌≤◌, max}
use native.Mathlib.Omega.{arith}
use borrow.Author.Rules.{rules}
use lib.ListN.{get_or}
use Rattle.pace.specs.Pace.{most_from}
use Rattle.pace.proofs.Steps.{most_step, most_end}
use Rattle.pace.proofs.most.Goals as goal

pub overflow_mul-base : goal.overflow_mul-base
overflow_mul-base c = omega arith

pub loop-x-init : goal.loop-x-init
loop-x-init c =
    let w = c.args.w in
    let e : 16 * w + 0 ≡ 16 * w = omega arith in
    (omega arith, rw e (omega arith))

pub overflow_add-n : goal.overflow_add-n
overflow_add-n c = omega arith

pub offset_bounds-pace-base : goal.offset_bounds-pace-base
offset_bounds-pace-base c = omega arith

pub bounds-pace-base : goal.bounds-pace-base
bounds-pace-base c = omega arith

pub loop-x-preserved : goal.loop-x-preserved
loop-x-preserved c =
    let d = c.args in
    let e : c.max-greatest.result ≡ max c.loop-x.greatest (get_or d.pace.now (16 * d.w + c.loop-x.x) 0) = search rules in
    (omega arith, rw e (most_step c.loop-x.x (omega arith) d.pace.now (16 * d.w) c.loop-x.greatest ∙ c.loop-x.invariant.1))

pub returns : goal.returns
returns c =
    let d = c.args in
    omega (arith, most_end c.loop-x.x (16 * d.w + c.loop-x.x) d.pace.now (omega arith), c.loop-x.invariant.1)
