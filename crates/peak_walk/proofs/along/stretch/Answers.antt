use Rattle.peak_walk.proofs.Readings.{drawn_fits, kind_read, alloc_read, drawn_read, read_code, read_argument, ends_in, drawn_next, greatest_more, stretch_whole}
use Rattle.std.proofs.Common.{◌≡◌, ◌+◌, refl, arith}
use Rattle.table.specs.Sum.{greatest_to}
use Rattle.table.specs.Format.{table_of}
use Rattle.peaks.specs.Rests.{drawn_at, drawn_before}
use Rattle.peak_walk.proofs.along.stretch.Goals.{After-drawn_of-x}
use Rattle.peak_walk.proofs.along.stretch.Goals as goal

-- what the action draws, as the calls give it
draws : (c : After-drawn_of-x) → c.drawn_of-x.result ≡ drawn_at (table_of c.args.table.now) c.args.quota c.loop-a.a
draws c =
    drawn_read _ _ _ _ _ (alloc_read _ _ _ _ c.threads.ensures.value (read_code _ c.args.table.now c.threads.result _ c.bodies-actions.ensures c.action_in-action.ensures.code_value) _ (read_argument _ c.args.table.now c.threads.result _ c.bodies-actions.ensures c.action_in-action.ensures.read.value) _ c.alloc.ensures) c.drawn_of-x.ensures

pub loop-a-init : goal.loop-a-init
unfolding greatest_to drawn_before
loop-a-init c = (omega arith, refl, refl)

pub overflow_add-before : goal.overflow_add-before
overflow_add-before c =
    omega (arith, drawn_fits _ _ _ c.loop-a.before c.drawn_of-x.result (omega (arith, c.loop-a-test.true, c.actions-m.ensures.small)) c.loop-a.invariant.2 (draws (goal.at.overflow_add-before c).After-drawn_of-x))

pub since-before-requires : goal.since-before-requires
since-before-requires c =
    omega (arith, drawn_fits _ _ _ c.loop-a.before c.drawn_of-x.result (omega (arith, c.loop-a-test.true, c.actions-m.ensures.small)) c.loop-a.invariant.2 (draws (goal.at.since-before-requires c).After-drawn_of-x))

pub loop-a-preserved : goal.loop-a-preserved
loop-a-preserved c = (
  omega (arith, c.loop-a-test.true),
  greatest_more _ c.loop-a.a c.loop-a.best (c.loop-a.before + c.drawn_of-x.result) c.max-best.result c.loop-a.invariant.1 (λ i. c.loop-a.invariant.2 i + draws (goal.at.loop-a-preserved c).After-drawn_of-x i) c.max-best.ensures,
  drawn_next _ _ c.loop-a.a c.loop-a.before c.drawn_of-x.result c.since-before.result _ c.ends_stretch.result (kind_read _ _ _ _ c.threads.ensures.value (read_code _ c.args.table.now c.threads.result _ c.bodies-actions.ensures c.action_in-action.ensures.code_value))
      c.loop-a.invariant.2 (draws (goal.at.loop-a-preserved c).After-drawn_of-x) (ends_in _ _ _ c.kind.ensures c.ends_stretch.ensures) c.since-before.ensures,
)

pub returns : goal.returns
returns c =
    stretch_whole _ _ c.loop-a.a c.actions-m.result _ c.loop-a.invariant.1 (omega (arith, c.loop-a.invariant.0, c.loop-a-test.false)) c.actions-m.ensures.value
