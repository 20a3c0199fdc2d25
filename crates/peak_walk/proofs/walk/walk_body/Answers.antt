use Rattle.std.proofs.Common.{◌≡◌, ℕ, ◌+◌, ◌-◌, ◌≤◌, Bool, List, length, refl, ap, ◌∙◌, add-one, arith, rules}
use Rattle.table.specs.Format.{kind_of, code_at, argument_at, bodies_from}
use Rattle.peak_walk.specs.Code.Walk.{Walked, walk, stepped, may_after, walked}
use Rattle.peak_walk.proofs.Readings.{read_code, read_argument, may_in}
use Rattle.peak_walk.proofs.Steps.{walked_depth, walked_length}
use Rattle.peak_walk.proofs.walk.walk_body.Goals as goal

again : (code argument : ℕ → ℕ) (resting : Bool) (peaks finals : List ℕ) (r first : ℕ) (rows : List ℕ) (i : ℕ) (w w' : Walked) (may : Bool) (k x : ℕ)
    → w ≡ walked code argument resting peaks finals r first rows i → may ≡ may_after code resting (first + i) → k ≡ code (first + i) → x ≡ argument (first + i)
    → w' ≡ stepped peaks finals r may (kind_of k) x w → w' ≡ walked code argument resting peaks finals r first rows (i + 1)
unfolding walked
again code argument resting peaks finals r first rows i w w' may k x e m c a s = rw (add-one i) (s ∙ rw (m, c, a, e))

pub loop-i-init : goal.loop-i-init
unfolding walked
loop-i-init c = (omega arith, refl)

pub overflow_add-a : goal.overflow_add-a
overflow_add-a c = omega (arith, c.first-first.ensures.small, c.count-count.ensures.small, c.loop-i-test.true)

pub may_after-may-requires : goal.may_after-may-requires
may_after-may-requires c = omega (arith, c.first-first.ensures.small, c.count-count.ensures.small, c.loop-i-test.true)

pub step-w-requires : goal.step-w-requires
step-w-requires c =
    let a = c.args in
    record {
      load = c.requires;
      child = c.action_in-action.ensures.read.small;
      depth =
          omega (
            arith,
            ap (λ (v : Walked). v.depth) c.loop-i.invariant.1,
            walked_depth (code_at (bodies_from a.table.now a.n)) (argument_at (bodies_from a.table.now a.n)) a.resting a.peaks.now a.finals.now a.r
                c.first-first.result a.rows.now c.loop-i.i,
            c.count-count.ensures.small,
            c.loop-i-test.true,
          );
    }

pub loop-i-preserved : goal.loop-i-preserved
loop-i-preserved c =
    let a = c.args in (
      omega (arith, c.loop-i-test.true),
      again (code_at (bodies_from a.table.now a.n)) (argument_at (bodies_from a.table.now a.n)) a.resting a.peaks.now a.finals.now a.r c.first-first.result
          a.rows.now c.loop-i.i (walk c.loop-i.w.balance c.loop-i.w.best c.loop-i.w.depth c.loop-i.rows) _ c.may_after-may.result c.action_in-action.result.code c.action_in-action.result.argument c.loop-i.invariant.1
          (may_in _ a.table.now a.n _ _ _ c.bodies-actions.ensures c.may_after-may.ensures) (read_code _ a.table.now a.n _ c.bodies-actions.ensures c.action_in-action.ensures.code_value)
          (read_argument _ a.table.now a.n _ c.bodies-actions.ensures c.action_in-action.ensures.read.value) c.step-w.ensures,
    )

pub shape_of-rows : goal.shape_of-rows
shape_of-rows c =
    let a = c.args in
    ap (λ (v : Walked). length v.rows) c.loop-i.invariant.1
    ∙ walked_length (code_at (bodies_from a.table.now a.n)) (argument_at (bodies_from a.table.now a.n)) a.resting a.peaks.now a.finals.now a.r
    c.first-first.result a.rows.now c.loop-i.i

pub returns : goal.returns
returns c =
    let z : c.loop-i.i ≡ c.count-count.result = omega (arith, c.loop-i.invariant.0, c.loop-i-test.false) in
    rw (z, c.count-count.ensures.value, c.first-first.ensures.value) at c.loop-i.invariant.1
