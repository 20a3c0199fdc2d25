use mathlib.Core.Path.{◌≡◌}
use Prim.Native.Nat.{ℕ, suc, ◌+◌, ◌*◌, ◌≤◌, ◌<◌}
use native.Mathlib.Omega.{arith}
use lib.ListN.{length}
use Rattle.joining.specs.Answers.{parts_of}
use Rattle.joining.specs.Code.Rows.{entries_over, actions_over}
use Rattle.joining.proofs.Splits.{parts_length}
use Rattle.joining.proofs.OverParts.{start, runs, again, ends, over_entries}
use Rattle.joining.proofs.write.put_part_entries.Goals.{After-part_at-part}
use Rattle.joining.proofs.write.put_part_entries.Goals as goal

pub overflow_mul-before : goal.overflow_mul-before
overflow_mul-before c = omega (arith, c.requires.lent.few)

pub overflow_add-before : goal.overflow_add-before
overflow_add-before c = omega (arith, c.requires.lent.few)

first_at : (k : ℕ) → 2 * k + 1 ≡ suc (2 * k)
first_at k = omega arith

pub loop-i-init : goal.loop-i-init
loop-i-init c =
    let d = c.args in
    rw (first_at (length d.lengths.now)) (start entries_over actions_over d.out.now d.at (suc (2 * length d.lengths.now)) (parts_of d.lengths.now d.tables.now))

pub part_at-part-requires : goal.part_at-part-requires
part_at-part-requires c = (c.requires.lent, c.loop-i-test.true)

-- what stands before a part's actions and with them
within : (c : After-part_at-part) → c.loop-i.before ≤ 8192
within c =
    let h : c.loop-i.i < length (parts_of c.args.lengths.now c.args.tables.now) = omega (arith, c.loop-i-test.true, parts_length c.args.lengths.now c.args.tables.now) in
    omega (arith, runs over_entries c.loop-i.invariant h _ c.part_at-part.ensures, c.requires.actions)

pub overflow_cast-before : goal.overflow_cast-before
overflow_cast-before c = omega (arith, within (goal.at.overflow_cast-before c).After-part_at-part)

pub overflow_add-before-in-loop-i : goal.overflow_add-before-in-loop-i
overflow_add-before-in-loop-i c = omega (arith, within (goal.at.overflow_add-before-in-loop-i c).After-part_at-part, c.actions-before.ensures.small)

pub loop-i-preserved : goal.loop-i-preserved
loop-i-preserved c =
    let d = c.args in
    again over_entries c.loop-i.invariant (omega (arith, c.loop-i-test.true, parts_length d.lengths.now d.tables.now)) _ c.part_at-part.ensures c.actions-before.result c.actions-before.ensures.value _ _
    (omega arith) c.put_entries-at.ensures

pub shape_of-out : goal.shape_of-out
shape_of-out c = omega (arith, c.loop-i.invariant.left.long)

pub returns : goal.returns
returns c =
    let d = c.args in
    ends over_entries c.loop-i.invariant (omega (arith, c.loop-i-test.false, parts_length d.lengths.now d.tables.now))
