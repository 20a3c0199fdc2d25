use mathlib.Core.Path.{◌≡◌, refl, sym, ap, ◌∙◌}
use Prim.Native.Nat.{ℕ, ◌+◌, ◌%◌, ◌<◌}
use mathlib.Core.List.{List}
use mathlib.Core.Bool.{Bool, true, false}
use native.Mathlib.Nat.{zero-mod}
use borrow.Author.Tests.{eqb-true, eqb-false}
use lib.Dec.{ltb}
use lib.ListN.{get_or}
use Rattle.table.specs.Sum.{pick}
use Rattle.schedule.specs.Runs.{worker_at}
use Rattle.std.specs.Prelude.{Err, Ok, Result}
use Rattle.schedule.specs.declared.Taken.{Taken}
use Rattle.schedule.specs.declared.Reply.TheVariants.{Idle}
use Rattle.run_memory.specs.Memory.{Memory, Told, told, number_in, reply_in}
use Rattle.run_memory.proofs.Turning.{in_turn}
use Rattle.run_memory.proofs.Drives.{root_stops, first_along, stopped_as_lem, spent_at, hindered, undone, goes_on, finished}
use Rattle.run_memory.proofs.runs.drive.Goals as goal

module _ (order : List ℕ) (rounds : Bool) (p i : ℕ) where
  -- the worker that is next, or the list's
  this_worker : {w next : ℕ} → (rounds ≡ true → next ≡ i % p) → w ≡ pick rounds next (get_or order i 0) → w ≡ worker_at order rounds p i
  unfolding worker_at
  this_worker {w} {next} h e = e ∙ go rounds h
    where
      go : (b : Bool) → (b ≡ true → next ≡ i % p) → pick b next (get_or order i 0) ≡ pick b (i % p) (get_or order i 0)
      go true f = f refl
      go false f = refl

  -- and the one after it
  next_worker : {q next after : ℕ} → q ≡ p → (rounds ≡ true → 0 < p) → (rounds ≡ true → next ≡ i % p) → after ≡ pick (ltb (next + 1) q) (next + 1) 0 → rounds ≡ true → after ≡ (i + 1) % p
  next_worker {q} {next} d a h e b = e ∙ ap (λ (x : ℕ). pick (ltb (next + 1) x) (next + 1) 0) d ∙ in_turn p i (a b) (h b)

pub returns-then-root_ended-clause-run_value : goal.returns-then-root_ended-clause-run_value
returns-then-root_ended-clause-run_value c =
    stopped_as_lem _ _ c.over.ensures (root_stops _ _ _ 0 _ (eqb-true _ _ (sym c.root_ended.ensures.value ∙ c.if-root_ended.true)))

pub loop-i-init : goal.loop-i-init
loop-i-init c =
    record {
      asked = c.requires;
      workers = c.setting_at-p.ensures;
      turn = λ _. sym (zero-mod _);
      along = first_along _ _ _ _ c.root_ended.ensures.status_nonzero (eqb-false _ _ (sym c.root_ended.ensures.value ∙ c.if-root_ended.false));
    }

-- what a turn said, of the answer that it gave
took : {x : Taken} {r : Result Taken ℕ} {M : Memory} {t : Told} → r ≡ Ok x → told (number_in r) (reply_in r) M ≡ t → told 0 x.reply M ≡ t
took {M} e d = ap (λ (y : Result Taken ℕ). told (number_in y) (reply_in y) M) (sym e) ∙ d

refused_so : {n : ℕ} {r : Result Taken ℕ} {M : Memory} {t : Told} → r ≡ Err n → told (number_in r) (reply_in r) M ≡ t → told n Idle M ≡ t
refused_so {M} e d = ap (λ (y : Result Taken ℕ). told (number_in y) (reply_in y) M) (sym e) ∙ d

pub returns-in-Err-clause-run_value : goal.returns-in-Err-clause-run_value
returns-in-Err-clause-run_value c =
    let v = c.loop-i.invariant in
    let e = c.turn_in.ensures in
    stopped_as_lem _ _ c.refused.ensures
    (hindered v.along c.loop-i-test.true (this_worker c.args.order.now c.args.rounds _ _ v.turn c.worker_of-w.ensures) (refused_so c.in-Err.is e.sums_after) (e.nonzero _ c.in-Err.is))

pub loop-i-preserved-in_default : goal.loop-i-preserved-in_default
loop-i-preserved-in_default c =
    let v = c.loop-i.invariant in
    record {
      asked = v.asked;
      workers = v.workers;
      turn = next_worker c.args.order.now c.args.rounds _ _ v.workers v.asked v.turn c.following-next.ensures;
      along = undone v.along c.loop-i-test.true (this_worker c.args.order.now c.args.rounds _ _ v.turn c.worker_of-w.ensures) (took c.in-Ok.is c.turn_in.ensures.sums_after) refl c.in_default.not-Done;
    }

pub returns-then-ends_root-clause-run_value : goal.returns-then-ends_root-clause-run_value
returns-then-ends_root-clause-run_value c =
    let v = c.loop-i.invariant in
    stopped_as_lem _ _ c.over-then-ends_root.ensures
    (finished v.along c.loop-i-test.true
    (this_worker c.args.order.now c.args.rounds _ _ v.turn c.worker_of-w.ensures) (took c.in-Ok.is c.turn_in.ensures.sums_after) refl
    c.in-Done.is (sym c.ends_root.ensures ∙ c.if-ends_root.true))

pub loop-i-preserved : goal.loop-i-preserved
loop-i-preserved c =
    let v = c.loop-i.invariant in
    record {
      asked = v.asked;
      workers = v.workers;
      turn = next_worker c.args.order.now c.args.rounds _ _ v.workers v.asked v.turn c.following-next.ensures;
      along =
          goes_on v.along c.loop-i-test.true (this_worker c.args.order.now c.args.rounds _ _ v.turn c.worker_of-w.ensures) (took c.in-Ok.is c.turn_in.ensures.sums_after) refl
          c.in-Done.is (sym c.ends_root.ensures ∙ c.if-ends_root.false);
    }

pub returns-clause-run_value : goal.returns-clause-run_value
returns-clause-run_value c = stopped_as_lem _ _ c.over-2.ensures (spent_at c.loop-i.invariant.along c.loop-i-test.false)
