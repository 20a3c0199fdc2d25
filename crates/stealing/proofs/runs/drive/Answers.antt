use mathlib.Core.Path.{◌≡◌, refl, sym, ap, subst, ◌∙◌}
use Prim.Native.Nat.{ℕ, ◌/◌, ◌≤◌, ◌<◌}
use lib.ListN.{length}
use Rattle.std.specs.Prelude.{Err, Ok, Result}
use Rattle.schedule.specs.declared.Reply.{Reply}
use Rattle.schedule.specs.declared.Reply.TheVariants.{Idle}
use Rattle.run_memory.specs.Memory.{Memory, Told, told, number_in}
use Rattle.run_memory.proofs.Drives.{stopped_as_lem}
use Rattle.stealing.specs.StealingMemory.{said_in}
use Rattle.stealing.proofs.PairDrives.{first_along, spent_at, root_stops, hindered, again, worker_read, choice_read}
use Rattle.stealing.proofs.runs.drive.Goals.{In-loop-i}
use Rattle.stealing.proofs.runs.drive.Goals as goal

inside : (i : In-loop-i) → i.loop-i.i < length i.args.order.now / 2
inside i = subst (λ (n : ℕ). i.loop-i.i < n) i.loop-i.invariant.size i.loop-i-test.true

-- what a turn said, of the answer that it gave
refused_so : {n : ℕ} {r : Result Reply ℕ} {M : Memory} {t : Told} → r ≡ Err n → told (number_in r) (said_in r) M ≡ t → told n Idle M ≡ t
refused_so {M} e d = ap (λ (y : Result Reply ℕ). told (number_in y) (said_in y) M) (sym e) ∙ d

taken_so : (r : Result Reply ℕ) → ((n : ℕ) → r ≡ Err n → ⊥) → number_in r ≡ 0
taken_so (Ok x) h = refl
taken_so (Err n) h = absurd (h n refl)

pub loop-i-init : goal.loop-i-init
loop-i-init c = record { size = refl; along = first_along _ _ _ _ }

pub returns-then-root_ended-clause-run_value : goal.returns-then-root_ended-clause-run_value
returns-then-root_ended-clause-run_value c =
    stopped_as_lem _ _ c.over.ensures (root_stops c.loop-i.invariant.along (inside (goal.at.returns-then-root_ended-clause-run_value c).In-loop-i) (sym c.root_ended.ensures.value ∙ c.if-root_ended.true))

pub returns-in-Err-clause-run_value : goal.returns-in-Err-clause-run_value
returns-in-Err-clause-run_value c =
    let e = c.deque_turn_in.ensures in
    stopped_as_lem _ _ c.refused.ensures
    (hindered c.loop-i.invariant.along (inside (goal.at.returns-in-Err-clause-run_value c).In-loop-i) (sym c.root_ended.ensures.value ∙ c.if-root_ended.false) (worker_read c.args.order.now _ c.byte-w.ensures) (choice_read c.args.order.now _ c.byte-c.ensures)
    (refused_so c.in-Err.is e.turn_value) (e.nonzero _ c.in-Err.is))

pub loop-i-preserved : goal.loop-i-preserved
loop-i-preserved c =
    record {
      size = c.loop-i.invariant.size;
      along =
          again c.loop-i.invariant.along (inside (goal.at.loop-i-preserved c).In-loop-i) (sym c.root_ended.ensures.value ∙ c.if-root_ended.false) (worker_read c.args.order.now _ c.byte-w.ensures) (choice_read c.args.order.now _ c.byte-c.ensures)
          c.deque_turn_in.ensures.turn_value (taken_so _ c.in_default.not-Err);
    }

pub returns-clause-run_value : goal.returns-clause-run_value
returns-clause-run_value c =
    let z = c.loop-i.invariant.size in
    stopped_as_lem _ _ c.over-2.ensures (spent_at c.loop-i.invariant.along c.root_ended-2.ensures.value z (subst (λ (n : ℕ). n ≤ c.loop-i.i) z c.loop-i-test.false))
