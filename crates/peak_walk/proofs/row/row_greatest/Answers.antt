use Rattle.std.proofs.Common.{◌≡◌, ℕ, suc, ◌+◌, ◌*◌, max, List, get_or, refl, ◌∙◌, add-one, arith}
use Rattle.table.specs.Sum.{greatest_to}
use Rattle.peak_walk.specs.Code.Walk.{slot}
use Rattle.peak_walk.proofs.row.row_greatest.Goals as goal

again : (rows : List ℕ) (d j best x v : ℕ) → best ≡ greatest_to (λ i. get_or rows (slot d i) 0) j → x ≡ get_or rows (17 * d + j) 0 → v ≡ max best x
    → v ≡ greatest_to (λ i. get_or rows (slot d i) 0) (j + 1)
unfolding greatest_to
again rows d j best x v e f g = rw (add-one j) (g ∙ rw (e, f))

pub loop-j-init : goal.loop-j-init
unfolding greatest_to
loop-j-init c = (omega arith, c.requires, refl)

pub overflow_mul-d : goal.overflow_mul-d
overflow_mul-d c = omega (arith, c.loop-j.invariant.1.depth)

pub overflow_add-d : goal.overflow_add-d
overflow_add-d c = omega (arith, c.loop-j.invariant.1.depth, c.loop-j.invariant.1.load, c.loop-j-test.true)

pub loop-j-preserved : goal.loop-j-preserved
loop-j-preserved c =
    let g = c.args in (
      omega (arith, c.loop-j-test.true),
      c.loop-j.invariant.1,
      again g.rows.now g.d c.loop-j.j c.loop-j.best c.number.result c.max-best.result c.loop-j.invariant.2 c.number.ensures c.max-best.ensures,
    )

pub returns-2 : goal.returns-2
returns-2 c =
    let g = c.args in
    let z : c.loop-j.j + 1 ≡ suc g.r = omega arith in
    rw z at (again g.rows.now g.d c.loop-j.j c.loop-j.best c.number.result c.max-best.result c.loop-j.invariant.2 c.number.ensures c.max-best.ensures)
