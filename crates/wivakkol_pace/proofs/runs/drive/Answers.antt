use mathlib.Core.Path.{◌≡◌, refl, sym, ap, ◌∙◌}
use Prim.Native.Nat.{ℕ}
use mathlib.Core.List.{List}
use borrow.Author.Tests.{eqb-false}
use Rattle.std.specs.Prelude.{Err, Ok, Result}
use Rattle.schedule.specs.declared.Taken.{Taken}
use Rattle.schedule.specs.declared.Reply.TheVariants.{Idle}
use Rattle.run_memory.specs.Memory.{Memory, told, number_in, reply_in}
use Rattle.wivakkol_pace.specs.Paced.{PacedTold, paced_told}
use Rattle.wivakkol_pace.proofs.PacedDrives.{first_along, stopped_as_lem, spent_at, root_stops, hindered, undone, goes_on, finished}
use Rattle.wivakkol_pace.proofs.runs.drive.Goals as goal

-- what a turn said, of the answer that it gave
took : {x : Taken} {r : Result Taken ℕ} {M : Memory} {P : List ℕ} {t : PacedTold} → r ≡ Ok x → paced_told (told (number_in r) (reply_in r) M) P ≡ t → paced_told (told 0 x.reply M) P ≡ t
took {M = M} {P = P} e d = ap (λ (y : Result Taken ℕ). paced_told (told (number_in y) (reply_in y) M) P) (sym e) ∙ d

refused_so : {n : ℕ} {r : Result Taken ℕ} {M : Memory} {P : List ℕ} {t : PacedTold} → r ≡ Err n → paced_told (told (number_in r) (reply_in r) M) P ≡ t → paced_told (told n Idle M) P ≡ t
refused_so {M = M} {P = P} e d = ap (λ (y : Result Taken ℕ). paced_told (told (number_in y) (reply_in y) M) P) (sym e) ∙ d

pub returns-then-root_ended-clause-run_value : goal.returns-then-root_ended-clause-run_value
returns-then-root_ended-clause-run_value c =
    stopped_as_lem _ _ _ c.over.ensures (root_stops _ _ _ 0 _ _ (sym c.root_ended.ensures.value ∙ c.if-root_ended.true))

pub loop-i-init : goal.loop-i-init
loop-i-init c = first_along _ _ _ _ _ c.root_ended.ensures.status_nonzero (eqb-false _ _ (sym c.root_ended.ensures.value ∙ c.if-root_ended.false))

pub returns-in-Err-clause-run_value : goal.returns-in-Err-clause-run_value
returns-in-Err-clause-run_value c =
    let e = c.paced_in.ensures in
    stopped_as_lem _ _ _ c.refused.ensures
    (hindered c.loop-i.invariant c.loop-i-test.true c.worker_of-w.ensures (refused_so c.in-Err.is e.pace_after) (e.nonzero _ c.in-Err.is))

pub loop-i-preserved-in_default : goal.loop-i-preserved-in_default
loop-i-preserved-in_default c =
    undone c.loop-i.invariant c.loop-i-test.true c.worker_of-w.ensures (took c.in-Ok.is c.paced_in.ensures.pace_after) refl c.in_default.not-Done

pub returns-then-ends_root-clause-run_value : goal.returns-then-ends_root-clause-run_value
returns-then-ends_root-clause-run_value c =
    stopped_as_lem _ _ _ c.over-then-ends_root.ensures
    (finished c.loop-i.invariant c.loop-i-test.true c.worker_of-w.ensures (took c.in-Ok.is c.paced_in.ensures.pace_after) refl c.in-Done.is
    (sym c.ends_root.ensures ∙ c.if-ends_root.true))

pub loop-i-preserved : goal.loop-i-preserved
loop-i-preserved c =
    goes_on c.loop-i.invariant c.loop-i-test.true c.worker_of-w.ensures (took c.in-Ok.is c.paced_in.ensures.pace_after) refl c.in-Done.is
    (sym c.ends_root.ensures ∙ c.if-ends_root.false)

pub returns-clause-run_value : goal.returns-clause-run_value
returns-clause-run_value c = stopped_as_lem _ _ _ c.over-2.ensures (spent_at c.loop-i.invariant c.loop-i-test.false)
