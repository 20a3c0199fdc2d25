use Prim.Native.Nat.{◌≤◌, ◌<◌}
use native.Mathlib.Omega.{arith}
use lib.ListN.{length}
use Rattle.joining.specs.Answers.{parts_of}
use Rattle.joining.specs.Code.Rows.{moved_over, threads_over}
use Rattle.joining.proofs.Splits.{parts_length}
use Rattle.joining.proofs.OverParts.{start, runs, again, ends, over_moved}
use Rattle.joining.proofs.write.put_part_actions.Goals.{After-part_at-part}
use Rattle.joining.proofs.write.put_part_actions.Goals as goal

pub loop-i-init : goal.loop-i-init
loop-i-init c =
    let d = c.args in
    start moved_over threads_over d.out.now d.at 1 (parts_of d.lengths.now d.tables.now)

pub part_at-part-requires : goal.part_at-part-requires
part_at-part-requires c = (c.requires.lent, c.loop-i-test.true)

-- a part's root
within : (c : After-part_at-part) → c.loop-i.root ≤ 1024
within c =
    let h : c.loop-i.i < length (parts_of c.args.lengths.now c.args.tables.now) = omega (arith, c.loop-i-test.true, parts_length c.args.lengths.now c.args.tables.now) in
    omega (arith, runs over_moved c.loop-i.invariant h _ c.part_at-part.ensures, c.requires.threads)

pub overflow_cast-root : goal.overflow_cast-root
overflow_cast-root c = omega (arith, within (goal.at.overflow_cast-root c).After-part_at-part)

pub overflow_add-root : goal.overflow_add-root
overflow_add-root c = omega (arith, within (goal.at.overflow_add-root c).After-part_at-part, c.threads-root.ensures.small)

pub loop-i-preserved : goal.loop-i-preserved
loop-i-preserved c =
    let d = c.args in
    again over_moved c.loop-i.invariant (omega (arith, c.loop-i-test.true, parts_length d.lengths.now d.tables.now)) _ c.part_at-part.ensures c.threads-root.result c.threads-root.ensures.value _ _
    (omega arith) c.put_moved-at.ensures

pub shape_of-out : goal.shape_of-out
shape_of-out c = omega (arith, c.loop-i.invariant.left.long)

pub returns : goal.returns
returns c =
    let d = c.args in
    ends over_moved c.loop-i.invariant (omega (arith, c.loop-i-test.false, parts_length d.lengths.now d.tables.now))
