use native.Mathlib.Omega.{arith}
use Rattle.rows.specs.Rows.{named_by}
use Rattle.rows.proofs.RowsLeft.{start, again, ends}
use Rattle.rows.proofs.put_body.Goals as goal

pub loop-i-init : goal.loop-i-init
loop-i-init c =
    let d = c.args in
    start d.out.now d.at d.actions.now d.first d.count (named_by d.names.now)

pub overflow_add-first : goal.overflow_add-first
overflow_add-first c = omega (arith, c.requires)

pub loop-i-preserved : goal.loop-i-preserved
loop-i-preserved c =
    let d = c.args in
    again d.out.now d.at d.actions.now d.first d.count (named_by d.names.now) c.loop-i.out c.loop-i.at c.loop-i.i c.loop-i.invariant c.loop-i-test.true
    c.action_in-action.result.code c.action_in-action.result.argument c.named-x.result c.action_in-action.ensures.code_value c.action_in-action.ensures.read.value (rw c.kind.ensures at c.named-x.ensures) _ _
    (omega arith) c.put_action-at.ensures

pub shape_of-out : goal.shape_of-out
shape_of-out c = omega (arith, c.loop-i.invariant.left.long)

pub returns : goal.returns
returns c =
    let d = c.args in
    ends d.out.now d.at d.actions.now d.first d.count (named_by d.names.now) c.loop-i.out c.loop-i.at c.loop-i.i c.loop-i.invariant c.loop-i-test.false
