use Rattle.std.proofs.Common.{◌≡◌, ℕ, ◌+◌, List, refl, ◌∙◌, add-one, arith}
use Rattle.table.specs.Format.{kind_of, code_at, argument_at, bodies_from}
use Rattle.peak_walk.proofs.Readings.{read_code, read_argument}
use Rattle.peak_walk.specs.Code.Parallel.{Passed, pass, passed_on, passed}
use Rattle.peak_walk.proofs.parallel.pass_body.Goals as goal

again : (code argument : ℕ → ℕ) (bests finals : List ℕ) (first i : ℕ) (w w' : Passed) (k x : ℕ)
    → w ≡ passed code argument bests finals first i → k ≡ code (first + i) → x ≡ argument (first + i) → w' ≡ passed_on bests finals (kind_of k) x w
    → w' ≡ passed code argument bests finals first (i + 1)
unfolding passed
again code argument bests finals first i w w' k x e c a s = rw (add-one i) (s ∙ rw (c, a, e))

pub loop-i-init : goal.loop-i-init
unfolding passed
loop-i-init c = (omega arith, refl)

pub overflow_add-first : goal.overflow_add-first
overflow_add-first c = omega (arith, c.first-first.ensures.small, c.count-count.ensures.small, c.loop-i-test.true)

pub loop-i-preserved : goal.loop-i-preserved
loop-i-preserved c =
    let a = c.args in (
      omega (arith, c.loop-i-test.true),
      again (code_at (bodies_from a.table.now a.n)) (argument_at (bodies_from a.table.now a.n)) a.bests.now a.finals.now c.first-first.result c.loop-i.i
          (pass c.loop-i.w.balance c.loop-i.w.children c.loop-i.w.most) _ c.action_in-action.result.code c.action_in-action.result.argument c.loop-i.invariant.1
          (read_code _ a.table.now a.n _ c.bodies-actions.ensures c.action_in-action.ensures.code_value) (read_argument _ a.table.now a.n _ c.bodies-actions.ensures c.action_in-action.ensures.read.value) c.pass_on-w.ensures,
    )

pub returns : goal.returns
returns c =
    let z : c.loop-i.i ≡ c.count-count.result = omega (arith, c.loop-i.invariant.0, c.loop-i-test.false) in
    rw (z, c.count-count.ensures.value, c.first-first.ensures.value) at c.loop-i.invariant.1
