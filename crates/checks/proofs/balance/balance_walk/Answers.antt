use Rattle.std.specs.Prelude.{None, Option}
use mathlib.Core.Path.{◌≡◌, refl, sym, ◌∙◌}
use Prim.Native.Nat.{ℕ, suc, ◌+◌, ◌<◌, ◌≤◌}
use mathlib.Core.List.{List}
use native.Mathlib.Numerals.{add-one}
use native.Mathlib.Omega.{arith}
use native.Mathlib.Nat.{min-eq_left}
use lib.Dec.{ltb}
use Rattle.table.specs.Sum.{sum_to}
use Rattle.table.specs.Format.{kind_of}
use Rattle.table.specs.declared.kinds.Kind.TheVariants.{Alloc as alloc, Free as free, Join as join}
use Rattle.table.specs.Code.Steps.{WalkReady, amount_at}
use Rattle.checks.specs.Code.Steps.{first_that, first_next, overdrawn, balance_of}
use Rattle.table.proofs.Walks.{Summed, sum_next, child_small}
use Rattle.checks.proofs.balance.balance_walk.Invariants.{Inv}
use Rattle.checks.proofs.balance.balance_walk.Goals.{After-child_amount, After-child_amount-in-loop-i}
use Rattle.checks.proofs.balance.balance_walk.Goals as goal

start : {l : List ℕ} {count : ℕ} {rises falls : List ℕ} → WalkReady join l count rises falls → Inv l count rises falls 0 0 None 0
unfolding sum_to first_that
start r = record { ready = r; within = omega arith; rise_is = refl; fall_is = refl; below_is = refl }

again : {l : List ℕ} {count : ℕ} {rises falls : List ℕ} {rise fall i rise' fall' : ℕ} {below below' : Option ℕ} → Inv l count rises falls rise fall below i → i < count
    → rise' ≡ sum_to (amount_at alloc join l rises) (suc i) → fall' ≡ sum_to (amount_at free join l falls) (suc i)
    → below' ≡ first_next below (ltb rise' fall') i → Inv l count rises falls rise' fall' below' (i + 1)
unfolding first_that overdrawn
again v h p q w =
    record {
      ready = v.ready;
      within = omega arith;
      rise_is = rw add-one p;
      fall_is = rw add-one q;
      below_is = rw (add-one, ← p, ← q, ← v.below_is) w;
    }

done : {l : List ℕ} {count : ℕ} {rises falls : List ℕ} {rise fall i : ℕ} {below : Option ℕ} → Inv l count rises falls rise fall below i → count ≤ i
    → record { rise = rise; fall = fall; below = below } ≡ balance_of l rises falls count
unfolding balance_of
done {count = count} {i = i} v h =
    let e : i ≡ count = omega arith in
    rw (v.rise_is, v.fall_is, v.below_is, e)

-- the sums after this action
risen : (c : After-child_amount) →
    let s = c.args in
    Summed (amount_at alloc join s.body.now s.rises.now) c.loop-i.i (c.loop-i.rise + (c.alloc.result + c.child_amount.result))
risen c =
    let v = c.loop-i.invariant in
    sum_next alloc join _ _ v.0.ready.rise_small (omega (arith, v.1, c.loop-i-test.true))
    c.action_in-action.ensures.code_value c.action_in-action.ensures.read.value c.alloc.ensures (rw c.kind-kind.ensures at c.child_amount.ensures) v.0.rise_is

fallen : (c : After-child_amount-in-loop-i) →
    let s = c.args in
    Summed (amount_at free join s.body.now s.falls.now) c.loop-i.i (c.loop-i.fall + (c.free.result + c.child_amount-in-loop-i.result))
fallen c =
    let v = c.loop-i.invariant in
    sum_next free join _ _ v.0.ready.fall_small (omega (arith, v.1, c.loop-i-test.true))
    c.action_in-action.ensures.code_value c.action_in-action.ensures.read.value c.free.ensures (rw c.kind-kind.ensures at c.child_amount-in-loop-i.ensures) v.0.fall_is

pub loop-i-init : goal.loop-i-init
loop-i-init c =
    let r = c.requires in
    (start r, c.min-stop.ensures ∙ min-eq_left (omega (arith, r.room)))

pub child_amount-requires : goal.child_amount-requires
unfolding kind_of
child_amount-requires c =
    λ g. child_small c.loop-i.invariant.0.ready (omega (arith, c.loop-i.invariant.1, c.loop-i-test.true))
    c.action_in-action.ensures.code_value c.action_in-action.ensures.read.value (sym c.kind-kind.ensures ∙ g)

pub overflow_add-rise : goal.overflow_add-rise
overflow_add-rise c = omega (arith, risen (goal.at.overflow_add-rise c).After-child_amount)

pub overflow_add-rise-in-loop-i : goal.overflow_add-rise-in-loop-i
overflow_add-rise-in-loop-i c = omega (arith, risen (goal.at.overflow_add-rise-in-loop-i c).After-child_amount)

pub child_amount-requires-in-loop-i : goal.child_amount-requires-in-loop-i
unfolding kind_of
child_amount-requires-in-loop-i c =
    λ g. child_small c.loop-i.invariant.0.ready (omega (arith, c.loop-i.invariant.1, c.loop-i-test.true))
    c.action_in-action.ensures.code_value c.action_in-action.ensures.read.value (sym c.kind-kind.ensures ∙ g)

pub overflow_add-fall : goal.overflow_add-fall
overflow_add-fall c = omega (arith, fallen (goal.at.overflow_add-fall c).After-child_amount-in-loop-i)

pub overflow_add-fall-in-loop-i : goal.overflow_add-fall-in-loop-i
overflow_add-fall-in-loop-i c = omega (arith, fallen (goal.at.overflow_add-fall-in-loop-i c).After-child_amount-in-loop-i)

pub loop-i-preserved : goal.loop-i-preserved
loop-i-preserved c =
    let v = c.loop-i.invariant in
    (again v.0 (omega (arith, v.1, c.loop-i-test.true)) (risen (goal.at.loop-i-preserved c).After-child_amount).value (fallen (goal.at.loop-i-preserved c).After-child_amount-in-loop-i).value c.first_next-below.ensures, v.1)

pub returns : goal.returns
returns c = done c.loop-i.invariant.0 (omega (arith, c.loop-i.invariant.1, c.loop-i-test.false))
