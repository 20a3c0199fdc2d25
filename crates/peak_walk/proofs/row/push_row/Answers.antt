use Rattle.std.proofs.Common.{◌≡◌, ℕ, suc, ◌+◌, ◌-◌, ◌*◌, ◌≤◌, List, length, set, refl, ap, ◌∙◌, add-one, arith, rules}
use Rattle.peak_walk.proofs.OpenRows.{pushed_length}
use Rattle.peak_walk.specs.Code.Walk.{Small, row_value, pushed}
use Rattle.peak_walk.proofs.row.push_row.Goals as goal

again : (peaks finals rows₀ : List ℕ) (r c d j : ℕ) (rows rows' : List ℕ) (v : ℕ) → rows ≡ pushed peaks finals r c d rows₀ j → v ≡ row_value peaks finals r c d rows j
    → rows' ≡ set rows (17 * (d + 1) + j) v → rows' ≡ pushed peaks finals r c d rows₀ (j + 1)
unfolding pushed
again peaks finals rows₀ r c d j rows rows' v e f g = rw (add-one j) (g ∙ rw (f, e, add-one d))

pub loop-j-init : goal.loop-j-init
unfolding pushed
loop-j-init c = (omega arith, c.requires, refl)

pub row_value-v-requires : goal.row_value-v-requires
row_value-v-requires c = (c.loop-j.invariant.1, c.loop-j-test.true)

pub overflow_add-d : goal.overflow_add-d
overflow_add-d c = omega (arith, c.loop-j.invariant.1.depth)

pub overflow_mul-d : goal.overflow_mul-d
overflow_mul-d c = omega (arith, c.loop-j.invariant.1.depth)

pub overflow_add-d-in-loop-j : goal.overflow_add-d-in-loop-j
overflow_add-d-in-loop-j c = omega (arith, c.loop-j.invariant.1.depth, c.loop-j.invariant.1.load, c.loop-j-test.true)

pub loop-j-preserved : goal.loop-j-preserved
loop-j-preserved c =
    let g = c.args in (
      omega (arith, c.loop-j-test.true),
      c.loop-j.invariant.1,
      again g.peaks.now g.finals.now g.rows.now g.r g.c g.d c.loop-j.j c.loop-j.rows _ c.row_value-v.result c.loop-j.invariant.2 c.row_value-v.ensures c.put.ensures,
    )

pub shape_of-rows : goal.shape_of-rows
shape_of-rows c =
    let g = c.args in
    ap length c.loop-j.invariant.2 ∙ pushed_length g.peaks.now g.finals.now g.r g.c g.d g.rows.now c.loop-j.j

pub returns-2 : goal.returns-2
returns-2 c =
    let g = c.args in
    let z : c.loop-j.j + 1 ≡ suc g.r = omega arith in
    rw z at (again g.peaks.now g.finals.now g.rows.now g.r g.c g.d c.loop-j.j c.loop-j.rows _ c.row_value-v.result c.loop-j.invariant.2 c.row_value-v.ensures c.put.ensures)
