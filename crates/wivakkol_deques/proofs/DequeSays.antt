-- On memory in which a record of DFDeques stands, what a turn and a run answer to C is the values of the record's, and the record after it stands in the memory left.
use Rattle.std.specs.Prelude.{Err, Ok, Result}
use Rattle.table.specs.declared.Refusal.{Refusal}
use mathlib.Core.Path.{◌≡◌, refl, ap, ◌∙◌}
use Prim.Native.Nat.{ℕ}
use mathlib.Core.List.{List}
use mathlib.Core.Bool.{Bool, true, false}
use borrow.Author.Tests.{eqb-true}
use lib.Dec.{eqb}
use Rattle.table.specs.Sum.{pick}
use Rattle.table.specs.Pass.{refusal}
use Rattle.schedule.specs.declared.Reply.{Reply}
use Rattle.schedule.specs.declared.Reply.TheVariants.{Idle, Done, Quota, Wait}
use Rattle.schedule.specs.Answers.{reply_values, report_values}
use Rattle.run_memory.specs.Memory.{Memory, reply_row, no_row, Answer, Told}
use Rattle.run_memory.specs.Stands.{values_row}
use Rattle.run_memory.specs.Runs.{Stopped}
use Rattle.wivakkol.proofs.RunAnswers.{values_run, reported}
use Rattle.deques.specs.declared.DequeRun.{DequeRun}
use Rattle.deques.specs.declared.DequeRan.{DequeRan}
use Rattle.deques.specs.declared.DequeTurned.{DequeTurned}
use Rattle.deques.specs.DequeTurn.{deque_turned}
use Rattle.deques.specs.DequeRuns.{pairs_run}
use Rattle.deques.specs.DequeValues.{deque_turning_values}
use Rattle.stealing.specs.StealingMemory.{deque_turn_in, deque_list_in, deque_run_in, DequesStand}
use Rattle.stealing.proofs.InMemory.{deque_turn_refines}
use Rattle.stealing.proofs.PairsRefine.{deque_list_refines}
use Rattle.wivakkol_deques.specs.DequeLent.{lent_deque_turn, lent_deque_list}

-- what is said of an answer: its number and row, and the record that it leaves
pub record AnswersDeques (s : List ℕ) (a : Answer) (number : ℕ) (row : List ℕ) (r : DequeRun) : Type 0 where
  pub number_is : a.number ≡ number
  pub row_is : a.row ≡ row
  pub record_after : deque_run_in s a.memory ≡ r
  pub stands : DequesStand s a.memory

-- ---- a turn

replied : (x : Reply) → (0 ≡ (reply_values x).number) × (reply_row x 0 ≡ values_row (reply_values x))
replied Idle = (refl, refl)
replied (Done t a) = (refl, refl)
replied (Quota t x) = (refl, refl)
replied (Wait t c) = (refl, refl)

abbrev turning_of : ℕ → Reply → Result Reply Refusal
turning_of number x = pick (eqb number 0) (Ok x) (Err (refusal number 0))

told_so : (number : ℕ) (x : Reply)
    → (number ≡ (deque_turning_values (turning_of number x)).number) × (pick (eqb number 0) (reply_row x 0) no_row ≡ values_row (deque_turning_values (turning_of number x)))
told_so number x = go (eqb number 0) refl
  where
    go : (b : Bool) → eqb number 0 ≡ b
        → (number ≡ (deque_turning_values (pick b (Ok x) (Err (refusal number 0)))).number)
        × (pick b (reply_row x 0) no_row ≡ values_row (deque_turning_values (pick b (Ok x) (Err (refusal number 0)))))
    go true e = (eqb-true _ _ e ∙ (replied x).0, (replied x).1)
    go false e = (refl, refl)

-- ---- the calls

module _ (s : List ℕ) (M : Memory) (h : DequesStand s M) where
  pub deque_turn_answers : (w c : ℕ)
      → let d : DequeTurned = deque_turned (deque_run_in s M) w c in
      AnswersDeques s (lent_deque_turn s w c M) (deque_turning_values d.answer).number (values_row (deque_turning_values d.answer)) d.run
  unfolding lent_deque_turn
  deque_turn_answers w c =
      let t : Told = deque_turn_in s w c M in
      let v = deque_turn_refines s M h w c in
      let r = told_so t.number t.reply in
      record {
        number_is = r.0 ∙ ap (λ (y : DequeTurned). (deque_turning_values y.answer).number) v.as_turned;
        row_is = r.1 ∙ ap (λ (y : DequeTurned). values_row (deque_turning_values y.answer)) v.as_turned;
        record_after = ap (λ (y : DequeTurned). y.run) v.as_turned;
        stands = v.stands;
      }

  pub deque_list_answers : (l : List ℕ)
      → let d : DequeRan = pairs_run (deque_run_in s M) l in
      AnswersDeques s (lent_deque_list s l M) (report_values d.report).number (values_run (report_values d.report)) d.run
  unfolding lent_deque_list
  deque_list_answers l =
      let d : Stopped = deque_list_in s l M in
      let v = deque_list_refines s M h l in
      let r = reported d.number d.finished d.turns in
      record {
        number_is = r.number_is ∙ ap (λ (y : DequeRan). (report_values y.report).number) v.by_value;
        row_is = r.row_is ∙ ap (λ (y : DequeRan). values_run (report_values y.report)) v.by_value;
        record_after = ap (λ (y : DequeRan). y.run) v.by_value;
        stands = v.stands;
      }
