use mathlib.Core.Path.{◌≡◌}
use Prim.Native.Nat.{ℕ, ◌+◌, ◌<◌}
use mathlib.Core.List.{List}
use mathlib.Core.Bool.{false}
use borrow.Author.Tests.{ne_eqb}
use lib.ListN.{get_or}
use Rattle.schedule.specs.Sound.{unused}
use Rattle.order.specs.Words.{all_below}
use Rattle.order.proofs.Every.{from_on, PassedFrom, from_none, from_more, from_fails, from_all}
use Rattle.soundness.proofs.unused.unused_right.Goals as goal

module _ (n : ℕ) (next status : List ℕ) (t : ℕ) (p : PassedFrom n (unused next status) t) where
  born : t < 1024 → (get_or status t 0 ≡ 0 → ⊥) → false ≡ all_below (from_on n (unused next status)) 1024
  unfolding unused
  born h e = from_fails p h (rw (ne_eqb (get_or status t 0) 0 e))

  moved : t < 1024 → get_or status t 0 ≡ 0 → (get_or next t 0 ≡ 0 → ⊥) → false ≡ all_below (from_on n (unused next status)) 1024
  unfolding unused
  moved h d e = from_fails p h (rw (d, ne_eqb (get_or next t 0) 0 e))

  again : get_or status t 0 ≡ 0 → get_or next t 0 ≡ 0 → PassedFrom n (unused next status) (t + 1)
  unfolding unused
  again d e = from_more p (rw (d, e))

pub loop-t-init : goal.loop-t-init
loop-t-init c = from_none _ (unused c.args.next.now c.args.status.now)

pub returns-then-status-t-ne-UNBORN : goal.returns-then-status-t-ne-UNBORN
returns-then-status-t-ne-UNBORN c =
    born _ c.args.next.now c.args.status.now _ c.loop-t.invariant c.loop-t-test.true c.if-status-t-ne-UNBORN.true

pub returns-then-next-t-ne0 : goal.returns-then-next-t-ne0
returns-then-next-t-ne0 c =
    moved _ c.args.next.now c.args.status.now _ c.loop-t.invariant c.loop-t-test.true c.if-status-t-ne-UNBORN.false
    c.if-next-t-ne0.true

pub loop-t-preserved : goal.loop-t-preserved
loop-t-preserved c =
    again _ c.args.next.now c.args.status.now _ c.loop-t.invariant c.if-status-t-ne-UNBORN.false c.if-next-t-ne0.false

pub returns : goal.returns
returns c = from_all c.loop-t.invariant c.loop-t-test.false
