use mathlib.Core.Path.{◌≡◌, refl, sym, ap, ◌∙◌}
use Prim.Native.Nat.{ℕ, ◌+◌, ◌-◌, ◌*◌, ◌/◌}
use native.Mathlib.Omega.{arith}
use borrow.Author.Rules.{rules}
use lib.Dec.{eqb}
use lib.ListN.{length}
use Rattle.run_memory.specs.Blocks.{memory_of}
use Rattle.dfdeques.proofs.DequeByValue.{told_small}
use Rattle.deque_listing.proofs.PairLines.{Tells, start, finished, spent, stopped, goes_on}
use Rattle.deque_listing.proofs.turns.put_each.Goals as goal

pub loop-i-init : goal.loop-i-init
loop-i-init c =
    record { stands = c.requires; listed = start _ _ _ _ }

pub shape_of-out-then-status_at-eq-ENDED : goal.shape_of-out-then-status_at-eq-ENDED
shape_of-out-then-status_at-eq-ENDED c = omega (arith, c.loop-i.invariant.listed.long)

pub returns-then-status_at-eq-ENDED : goal.returns-then-status_at-eq-ENDED
returns-then-status_at-eq-ENDED c =
    finished c.loop-i.invariant (sym c.status_at.ensures ∙ c.if-status_at-eq-ENDED.true) c.put_end.ensures

pub bounds-order-i : goal.bounds-order-i
bounds-order-i c = omega (arith, c.loop-i-test.true)

pub bounds-order-i-in-loop-i : goal.bounds-order-i-in-loop-i
bounds-order-i-in-loop-i c = omega (arith, c.loop-i-test.true)

pub overflow_cast-w : goal.overflow_cast-w
overflow_cast-w c = omega (arith, c.type_inv.order (2 * c.loop-i.i))

pub overflow_cast-c : goal.overflow_cast-c
overflow_cast-c c = omega (arith, c.type_inv.order (2 * c.loop-i.i + 1))

pub overflow_cast-number : goal.overflow_cast-number
overflow_cast-number c = omega (arith, told_small _ _ _ _ c.in-Err.ensures.turn_value)

pub shape_of-out-in-Err : goal.shape_of-out-in-Err
shape_of-out-in-Err c = omega (arith, c.loop-i.invariant.listed.long)

pub returns-in-Err : goal.returns-in-Err
returns-in-Err c =
    stopped c.loop-i.invariant c.loop-i-test.true (λ x. c.if-status_at-eq-ENDED.false (c.status_at.ensures ∙ x)) c.in-Err.ensures.turn_value (c.in-Err.ensures.nonzero _ refl) c.put_refused.ensures

pub loop-i-preserved : goal.loop-i-preserved
loop-i-preserved c =
    goes_on c.loop-i.invariant c.loop-i-test.true (λ x. c.if-status_at-eq-ENDED.false (c.status_at.ensures ∙ x)) c.in-Ok.ensures.turn_value refl (omega (arith, c.out-in-loop-i-1.given))
    c.put_step-at.ensures

pub shape_of-out : goal.shape_of-out
shape_of-out c = omega (arith, c.loop-i.invariant.listed.long)

pub returns : goal.returns
returns c =
    spent c.loop-i.invariant _ (ap (λ (x : ℕ). eqb x 4) c.status_at-ended.ensures) c.loop-i-test.false c.put_end-2.ensures
