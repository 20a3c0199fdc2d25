use mathlib.Core.Path.{◌∙◌}
use Rattle.links.proofs.Filling.{filled_start, filled_out_lem, filled_over, filled_past, filled_with_lem}
use Rattle.links.proofs.fill_actives.Goals.{then-status-t-ne-WAITING, else-status-t-ne-WAITING}
use Rattle.links.proofs.fill_actives.Goals as goal

pub loop-passed-init : goal.loop-passed-init
loop-passed-init c =
    filled_start 1024 c.args.status.now c.args.right.now c.args.leftmost _ _ c.clear.ensures c.clear-2.ensures

pub loop-passed-preserved : goal.loop-passed-preserved
loop-passed-preserved c =
    elim c.if-status-t-ne-WAITING.branch [
      | then-status-t-ne-WAITING w ↦ filled_with_lem c.loop-passed.invariant c.loop-passed-test.true c.if-t-ge-NO_THREAD.false w.if-status-t-ne-WAITING.true ((λ i. record { left = w.under-is i; right = w.over-is i; head = w.first-is i }) ∙ w.link_last-first.ensures) w.last-is
      | else-status-t-ne-WAITING w ↦ filled_past c.loop-passed.invariant c.loop-passed-test.true c.if-t-ge-NO_THREAD.false w.if-status-t-ne-WAITING.false (λ i. record { left = w.under-is i; right = w.over-is i; head = w.first-is i }) w.last-is
    ]

pub returns-after-loop-passed : goal.returns-after-loop-passed
returns-after-loop-passed c = filled_over c.loop-passed.invariant c.loop-passed-test.false

pub returns-then-t-ge-NO_THREAD : goal.returns-then-t-ge-NO_THREAD
returns-then-t-ge-NO_THREAD c = filled_out_lem c.loop-passed.invariant c.if-t-ge-NO_THREAD.true
