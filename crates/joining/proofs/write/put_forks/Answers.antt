use Prim.Native.Nat.{◌+◌, ◌≤◌}
use native.Mathlib.Omega.{arith}
use Rattle.table.specs.Format.{code_of}
use Rattle.joining.specs.Answers.{parts_of}
use Rattle.joining.specs.Code.Rows.{starts_over, fork_rows, threads_over}
use Rattle.joining.proofs.Splits.{parts_length}
use Rattle.joining.proofs.OverParts.{start, runs, again, ends, over_forks}
use Rattle.joining.proofs.write.put_forks.Goals.{After-threads-root}
use Rattle.joining.proofs.write.put_forks.Goals as goal

pub loop-i-init : goal.loop-i-init
loop-i-init c =
    let d = c.args in
    start (λ o ps. fork_rows (starts_over o ps)) threads_over d.out.now d.at 1 (parts_of d.lengths.now d.tables.now)

pub part_at-requires : goal.part_at-requires
part_at-requires c =
    (c.requires.lent, c.loop-i-test.true)

-- a part's root and its threads
within : (c : After-threads-root) → c.loop-i.root + c.threads-root.result ≤ 1024
within c =
    omega (
      arith,
      runs over_forks c.loop-i.invariant (omega (arith, c.loop-i-test.true, parts_length c.args.lengths.now c.args.tables.now)) _ c.part_at.ensures,
      c.requires.threads,
      c.threads-root.ensures.value,
    )

pub overflow_add-root : goal.overflow_add-root
overflow_add-root c = omega (arith, within (goal.at.overflow_add-root c).After-threads-root)

pub loop-i-preserved : goal.loop-i-preserved
unfolding code_of
loop-i-preserved c =
    let d = c.args in
    again over_forks c.loop-i.invariant (omega (arith, c.loop-i-test.true, parts_length d.lengths.now d.tables.now)) _ c.part_at.ensures c.threads-root.result c.threads-root.ensures.value _ _
    (omega arith) (rw c.code.ensures at c.put_action-at.ensures)

pub shape_of-out : goal.shape_of-out
shape_of-out c = omega (arith, c.loop-i.invariant.left.long)

pub returns : goal.returns
returns c =
    let d = c.args in
    ends over_forks c.loop-i.invariant (omega (arith, c.loop-i-test.false, parts_length d.lengths.now d.tables.now))
