use mathlib.Core.Path.{◌≡◌, ap, ◌∙◌}
use Prim.Native.Nat.{ℕ, ◌+◌}
use native.Mathlib.Omega.{arith}
use Rattle.table.specs.Format.{code_at, argument_at}
use Rattle.rows.specs.Rows.{moved_by}
use Rattle.rows.proofs.RowsLeft.{start, again, ends}
use Rattle.rows.proofs.put_actions.Goals as goal

zero_plus : (i : ℕ) → i ≡ 0 + i
zero_plus i = omega arith

pub loop-i-init : goal.loop-i-init
loop-i-init c =
    let d = c.args in
    start d.out.now d.at d.actions.now 0 d.count (moved_by d.o)

pub moved-x-requires : goal.moved-x-requires
moved-x-requires c = (c.action_in-action.ensures.read.small, c.requires.1)

pub loop-i-preserved : goal.loop-i-preserved
loop-i-preserved c =
    let d = c.args in
    again d.out.now d.at d.actions.now 0 d.count (moved_by d.o) c.loop-i.out c.loop-i.at c.loop-i.i c.loop-i.invariant c.loop-i-test.true
    c.action_in-action.result.code c.action_in-action.result.argument c.moved-x.result (c.action_in-action.ensures.code_value ∙ ap (code_at d.actions.now) (zero_plus c.loop-i.i)) (c.action_in-action.ensures.read.value ∙ ap (argument_at d.actions.now) (zero_plus c.loop-i.i)) (rw c.kind.ensures at c.moved-x.ensures) _ _
    (omega arith) c.put_action-at.ensures

pub shape_of-out : goal.shape_of-out
shape_of-out c = omega (arith, c.loop-i.invariant.left.long)

pub returns : goal.returns
returns c =
    let d = c.args in
    ends d.out.now d.at d.actions.now 0 d.count (moved_by d.o) c.loop-i.out c.loop-i.at c.loop-i.i c.loop-i.invariant c.loop-i-test.false
