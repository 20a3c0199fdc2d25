use Rattle.std.proofs.Common.{◌≡◌, suc, ◌-◌, ◌≤◌, sym, ◌∙◌, subst, arith, rules}
use Rattle.table.specs.Format.{table_of}
use Rattle.peak_walk.specs.Code.Walk.{Right}
use Rattle.peak_walk.proofs.Filled.{few, filled_down}
use Rattle.peak_walk.proofs.fill.fill_load.Goals as goal

pub loop-t-init : goal.loop-t-init
loop-t-init c = (omega arith, c.requires.right)

pub walk_body-w-requires : goal.walk_body-w-requires
walk_body-w-requires c = c.requires.accepted.1

pub overflow_mul-t : goal.overflow_mul-t
overflow_mul-t c = omega (arith, few c.requires.accepted.0, c.loop-t.invariant.0)

pub overflow_add-t : goal.overflow_add-t
overflow_add-t c = omega (arith, few c.requires.accepted.0, c.loop-t.invariant.0, c.requires.accepted.1)

pub loop-t-preserved : goal.loop-t-preserved
loop-t-preserved c =
    let a = c.args in
    let z : c.loop-t.t ≡ suc (c.loop-t.t - 1) = omega (arith, c.loop-t-test.true) in (
      omega (arith, c.loop-t.invariant.0),
      filled_down a.table.now a.n c.requires.accepted.0 a.resting c.loop-t.peaks c.loop-t.finals c.loop-t.rows a.r c.requires.accepted.1 (c.loop-t.t - 1) (omega (arith, c.loop-t.invariant.0, z))
          (subst (Right (table_of a.table.now) a.resting c.loop-t.peaks c.loop-t.finals c.loop-t.rows a.r) z c.loop-t.invariant.1) _ _ _ _ _ _ c.walk_body-w.ensures c.put.ensures
          c.put-in-loop-t.ensures,
    )

pub shape_of-peaks : goal.shape_of-peaks
shape_of-peaks c = c.loop-t.invariant.1.peaks_size ∙ sym c.requires.right.peaks_size

pub shape_of-finals : goal.shape_of-finals
shape_of-finals c = c.loop-t.invariant.1.finals_size ∙ sym c.requires.right.finals_size

pub shape_of-rows : goal.shape_of-rows
shape_of-rows c = c.loop-t.invariant.1.rows_size ∙ sym c.requires.right.rows_size

pub returns : goal.returns
returns c =
    let z : c.loop-t.t ≡ 0 = omega (arith, c.loop-t-test.false) in
    rw z at c.loop-t.invariant.1
