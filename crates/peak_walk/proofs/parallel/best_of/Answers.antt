use Rattle.std.proofs.Common.{◌≡◌, suc, ◌-◌, sym, ◌∙◌, subst, arith}
use Rattle.table.specs.Format.{table_of}
use Rattle.peak_walk.specs.Code.Parallel.{Bests}
use Rattle.peak_walk.proofs.PassedDown.{passed_down, root_best}
use Rattle.peak_walk.proofs.parallel.best_of.Goals as goal

pub loop-t-init : goal.loop-t-init
loop-t-init c = (omega arith, c.requires.bests)

pub loop-t-preserved : goal.loop-t-preserved
loop-t-preserved c =
    let a = c.args in
    let z : c.loop-t.t ≡ suc (c.loop-t.t - 1) = omega (arith, c.loop-t-test.true) in (
      omega (arith, c.loop-t.invariant.0),
      passed_down a.table.now a.n c.requires.accepted c.loop-t.bests c.loop-t.finals (c.loop-t.t - 1) (omega (arith, c.loop-t.invariant.0, z))
          (subst (Bests (table_of a.table.now) c.loop-t.bests c.loop-t.finals) z c.loop-t.invariant.1) _ _ _ _ _ c.pass_body-w.ensures c.put.ensures c.put-in-loop-t.ensures,
    )

pub shape_of-bests : goal.shape_of-bests
shape_of-bests c = c.loop-t.invariant.1.bests_size ∙ sym c.requires.bests.bests_size

pub shape_of-finals : goal.shape_of-finals
shape_of-finals c = c.loop-t.invariant.1.finals_size ∙ sym c.requires.bests.finals_size

pub returns : goal.returns
returns c =
    let z : c.loop-t.t ≡ 0 = omega (arith, c.loop-t-test.false) in
    c.number.ensures ∙ root_best c.args.table.now c.args.n c.requires.accepted _ _ (rw z at c.loop-t.invariant.1)
