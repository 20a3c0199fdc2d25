use mathlib.Core.Path.{◌≡◌, refl, sym, ap, ◌∙◌}
use Prim.Native.Nat.{ℕ, ◌+◌, ◌-◌, ◌^◌, ◌<◌, ◌≤◌, max}
use mathlib.Core.List.{List}
use mathlib.Core.Bool.{Bool, true, false}
use native.Mathlib.Numerals.{add-one}
use native.Mathlib.Omega.{arith}
use native.Mathlib.Nat.{min-eq_left}
use lib.ListN.{get_or}
use Rattle.table.specs.Sum.{pick, sum_to, greatest_to}
use Rattle.table.specs.Format.{kind_of, is, code_at, argument_at}
use Rattle.table.specs.declared.kinds.Kind.{Kind}
use Rattle.table.specs.declared.kinds.Kind.TheVariants.{Alloc as alloc, Free as free, Fork as fork}
use Rattle.table.specs.Code.Steps.{child_amount, amount_at, WalkReady}
use Rattle.facts.specs.Code.Steps.{top_of, PeaksReady}
use Rattle.table.proofs.Tests.{is_true}
use Rattle.table.proofs.Sums.{sum_to_part}
use Rattle.table.proofs.Walks.{Summed, sum_next, child_small}
use Rattle.facts.proofs.peak.peak_walk.Invariants.{Inv}
use Rattle.facts.proofs.peak.peak_walk.Goals.{After-kind-kind, After-child_amount-in-loop-i, After-child_amount-in-loop-i-2}
use Rattle.facts.proofs.peak.peak_walk.Goals as goal

module _ {l : List ℕ} {count : ℕ} {rises falls peaks : List ℕ} where
  start : WalkReady fork l count rises falls → PeaksReady l count rises falls peaks → Inv l count rises falls peaks 0 0 0 0
  unfolding sum_to greatest_to
  start r p = record { ready = r; low = p; within = omega arith; risen = refl; fallen = refl; highest = refl }

  module _ {rise fall peak i : ℕ} (v : Inv l count rises falls peaks rise fall peak i) where
    held : fall ≤ rise
    held = omega (arith, v.low.held i v.within)

    -- what is held while a child runs fits
    top_small : {k : Kind} {x d : ℕ} → i < count → k ≡ kind_of (code_at l i) → x ≡ argument_at l i → d ≡ child_amount fork k x peaks → rise - fall + d < 2 ^ 64
    top_small h e f g =
        omega (arith, sum_to_part (amount_at alloc fork l rises) i count v.within, rw (e, f) at g, go (is fork (kind_of (code_at l i))) refl)
      where
        go : (t : Bool) → is fork (kind_of (code_at l i)) ≡ t → pick t (get_or peaks (argument_at l i) 0) 0 < 2 ^ 40
        go true q = v.low.small i h (is_true fork _ q)
        go false q = omega arith

    top_next : {k : Kind} {x d r : ℕ} → k ≡ kind_of (code_at l i) → x ≡ argument_at l i → d ≡ child_amount fork k x peaks → r ≡ max peak (rise - fall + d)
        → r ≡ greatest_to (top_of l rises falls peaks) (i + 1)
    unfolding greatest_to top_of
    top_next e f g q = rw add-one (cc)

-- what the calls of an action give: a child's number, and the two sums after it
child_index : (c : After-kind-kind) → c.kind-kind.result ≡ fork → c.action_in-action.result.argument < 1024
child_index c e =
    let v = c.loop-i.invariant in
    child_small v.0.ready (omega (arith, v.1, c.loop-i-test.true)) c.action_in-action.ensures.code_value c.action_in-action.ensures.read.value (sym c.kind-kind.ensures ∙ e)

risen_next : (c : After-child_amount-in-loop-i) →
    let s = c.args in
    Summed (amount_at alloc fork s.body.now s.rises.now) c.loop-i.i (c.loop-i.rise + (c.alloc.result + c.child_amount-in-loop-i.result))
risen_next c =
    let v = c.loop-i.invariant in
    sum_next alloc fork _ _ v.0.ready.rise_small (omega (arith, v.1, c.loop-i-test.true)) c.action_in-action.ensures.code_value c.action_in-action.ensures.read.value
    c.alloc.ensures (rw c.kind-kind.ensures at c.child_amount-in-loop-i.ensures) v.0.risen

fallen_next : (c : After-child_amount-in-loop-i-2) →
    let s = c.args in
    Summed (amount_at free fork s.body.now s.falls.now) c.loop-i.i (c.loop-i.fall + (c.free.result + c.child_amount-in-loop-i-2.result))
fallen_next c =
    let v = c.loop-i.invariant in
    sum_next free fork _ _ v.0.ready.fall_small (omega (arith, v.1, c.loop-i-test.true)) c.action_in-action.ensures.code_value c.action_in-action.ensures.read.value
    c.free.ensures (rw c.kind-kind.ensures at c.child_amount-in-loop-i-2.ensures) v.0.fallen

pub loop-i-init : goal.loop-i-init
loop-i-init c = let r = c.requires in (start r.walk_ready r.peaks_ready, c.min-stop.ensures ∙ min-eq_left (omega (arith, r.walk_ready.room)))

pub overflow_sub-rise : goal.overflow_sub-rise
overflow_sub-rise c = held c.loop-i.invariant.0

pub child_amount-requires : goal.child_amount-requires
child_amount-requires c = child_index (goal.at.child_amount-requires c).After-kind-kind

pub overflow_add-rise : goal.overflow_add-rise
overflow_add-rise c =
    record { fits = top_small c.loop-i.invariant.0 (omega (arith, c.loop-i.invariant.1, c.loop-i-test.true)) (c.kind-kind.ensures ∙ ap kind_of c.action_in-action.ensures.code_value) c.action_in-action.ensures.read.value c.child_amount.ensures }

pub child_amount-requires-in-loop-i : goal.child_amount-requires-in-loop-i
child_amount-requires-in-loop-i c = child_index (goal.at.child_amount-requires-in-loop-i c).After-kind-kind

pub overflow_add-rise-in-loop-i : goal.overflow_add-rise-in-loop-i
overflow_add-rise-in-loop-i c = omega (arith, (risen_next (goal.at.overflow_add-rise-in-loop-i c).After-child_amount-in-loop-i).small)

pub overflow_add-rise-in-loop-i-2 : goal.overflow_add-rise-in-loop-i-2
overflow_add-rise-in-loop-i-2 c = omega (arith, (risen_next (goal.at.overflow_add-rise-in-loop-i-2 c).After-child_amount-in-loop-i).small)

pub child_amount-requires-in-loop-i-2 : goal.child_amount-requires-in-loop-i-2
child_amount-requires-in-loop-i-2 c = child_index (goal.at.child_amount-requires-in-loop-i-2 c).After-kind-kind

pub overflow_add-fall : goal.overflow_add-fall
overflow_add-fall c = omega (arith, (fallen_next (goal.at.overflow_add-fall c).After-child_amount-in-loop-i-2).small)

pub overflow_add-fall-in-loop-i : goal.overflow_add-fall-in-loop-i
overflow_add-fall-in-loop-i c = omega (arith, (fallen_next (goal.at.overflow_add-fall-in-loop-i c).After-child_amount-in-loop-i-2).small)

pub loop-i-preserved : goal.loop-i-preserved
loop-i-preserved c =
    let w = c.loop-i.invariant in
    let v = w.0 in (
      record {
        ready = v.ready;
        low = v.low;
        within = omega (arith, w.1, c.loop-i-test.true);
        risen = rw add-one (risen_next (goal.at.loop-i-preserved c).After-child_amount-in-loop-i).value;
        fallen = rw add-one (fallen_next (goal.at.loop-i-preserved c).After-child_amount-in-loop-i-2).value;
        highest = top_next v (c.kind-kind.ensures ∙ ap kind_of c.action_in-action.ensures.code_value) c.action_in-action.ensures.read.value c.child_amount.ensures c.max-peak.ensures;
      },
      w.1,
    )

pub returns : goal.returns
returns c = let v = c.loop-i.invariant.0 in
    let l : c.loop-i.i ≡ c.args.count = omega (arith, c.loop-i.invariant.1) in record { rise_value = rw l at v.risen; fall_value = rw l at v.fallen; peak_value = rw l at v.highest }
