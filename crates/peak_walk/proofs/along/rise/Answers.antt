use Rattle.peak_walk.proofs.Readings.{up_fits, down_fits, alloc_read, free_read, read_code, read_argument, may_in, rests_read, since_next, greatest_more, rise_whole}
use Rattle.std.proofs.Common.{◌-◌, refl, ◌∙◌, arith}
use Rattle.table.specs.Sum.{greatest_to}
use Rattle.peak_walk.specs.Along.{since_rest}
use Rattle.peak_walk.proofs.along.rise.Goals as goal

pub loop-a-init : goal.loop-a-init
unfolding greatest_to since_rest
loop-a-init c = (omega arith, refl, refl, refl)

pub may_after-rests-requires : goal.may_after-rests-requires
may_after-rests-requires c = omega (arith, c.loop-a-test.true, c.actions-m.ensures.small)

pub since-up-requires : goal.since-up-requires
since-up-requires c =
    omega (
      arith,
      up_fits _ _ c.loop-a.up c.alloc.result (omega (arith, c.loop-a-test.true, c.actions-m.ensures.small)) c.loop-a.invariant.2
          (alloc_read _ _ _ _ c.threads.ensures.value (read_code _ c.args.table.now c.threads.result _ c.bodies-actions.ensures c.action_in-action.ensures.code_value) _ (read_argument _ c.args.table.now c.threads.result _ c.bodies-actions.ensures c.action_in-action.ensures.read.value) _ c.alloc.ensures),
    )

pub since-down-requires : goal.since-down-requires
since-down-requires c =
    omega (
      arith,
      down_fits _ _ c.loop-a.down c.free.result (omega (arith, c.loop-a-test.true, c.actions-m.ensures.small)) c.loop-a.invariant.3
          (free_read _ _ _ _ c.threads.ensures.value (read_code _ c.args.table.now c.threads.result _ c.bodies-actions.ensures c.action_in-action.ensures.code_value) _ (read_argument _ c.args.table.now c.threads.result _ c.bodies-actions.ensures c.action_in-action.ensures.read.value) _ c.free.ensures),
    )

pub loop-a-preserved : goal.loop-a-preserved
loop-a-preserved c =
    let e = c.threads.ensures.value in
    let still = rests_read _ _ _ c.may_after-rests.result e (may_in _ c.args.table.now c.threads.result _ _ _ c.bodies-actions.ensures c.may_after-rests.ensures) in (
      omega (arith, c.loop-a-test.true),
      greatest_more _ c.loop-a.a c.loop-a.best c.saturating_sub.result c.max-best.result c.loop-a.invariant.1 (c.saturating_sub.ensures ∙ (λ i. c.loop-a.invariant.2 i - c.loop-a.invariant.3 i)) c.max-best.ensures,
      since_next _ _ c.loop-a.a c.loop-a.up c.alloc.result c.since-up.result c.may_after-rests.result c.loop-a.invariant.2
          (alloc_read _ _ _ _ e (read_code _ c.args.table.now c.threads.result _ c.bodies-actions.ensures c.action_in-action.ensures.code_value) _ (read_argument _ c.args.table.now c.threads.result _ c.bodies-actions.ensures c.action_in-action.ensures.read.value) _ c.alloc.ensures) still c.since-up.ensures,
      since_next _ _ c.loop-a.a c.loop-a.down c.free.result c.since-down.result c.may_after-rests.result c.loop-a.invariant.3
          (free_read _ _ _ _ e (read_code _ c.args.table.now c.threads.result _ c.bodies-actions.ensures c.action_in-action.ensures.code_value) _ (read_argument _ c.args.table.now c.threads.result _ c.bodies-actions.ensures c.action_in-action.ensures.read.value) _ c.free.ensures) still c.since-down.ensures,
    )

pub returns : goal.returns
returns c =
    rise_whole _ c.loop-a.a c.actions-m.result _ c.loop-a.invariant.1 (omega (arith, c.loop-a.invariant.0, c.loop-a-test.false)) c.actions-m.ensures.value
