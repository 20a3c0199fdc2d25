-- A beginning in lent memory stands as a run of DFDeques, and every list of calls on memory where one stands is that list on the record, answers included.
use Rattle.std.specs.Prelude.{Err, Ok, Result}
use Rattle.table.specs.declared.Refusal.{Refusal}
use mathlib.Core.Path.{◌≡◌, refl, sym, ap, ap₂, subst, ◌∙◌}
use Prim.Native.Nat.{ℕ}
use mathlib.Core.List.{List, [], ◌∷◌, ◌++◌}
use mathlib.Core.Bool.{Bool, true, false}
use lib.Dec.{eqb}
use Rattle.table.specs.Sum.{pick}
use Rattle.table.specs.Pass.{refusal, try_at}
use Rattle.schedule.specs.declared.Reply.{Reply}
use Rattle.schedule.specs.declared.Reply.TheVariants.{Idle, Done, Quota, Wait}
use Rattle.schedule.specs.Turn.{root_ended, no_worker}
use Rattle.schedule.specs.Answers.{reply_values}
use Rattle.filling.specs.Filled.{filled_out}
use Rattle.run_memory.specs.Memory.{Memory}
use Rattle.wivakkol.specs.Lent.{lent_begin}
use Rattle.deques.specs.declared.DequeRun.{DequeRun}
use Rattle.deques.specs.declared.DequeBegun.{DequeBegun}
use Rattle.deques.specs.DequeTurn.{unsound_deques, no_choice, deque_checks, step_deques, deque_turned_as, deque_turned}
use Rattle.deques.specs.DequeRuns.{pair, pair_at, pairs_run}
use Rattle.deques.specs.DequeBegin.{deque_begin}
use Rattle.deques.specs.DequeValues.{deque_turning_values}
use Rattle.deques.specs.DequeCalls.{DequeCall, turn, over_pairs, deque_turn_row, pairs_from, after_deque_call, pairs_of, after_deque_calls, pairs_of_calls}
use Rattle.stealing.specs.StealingMemory.{deque_run_in, DequesStand}
use Rattle.claims.specs.LentCalls.{returned}
use Rattle.claims.proofs.LentLimit.{found_none, memory_so, row_turns}
use Rattle.wivakkol_deques.specs.DequeLent.{lent_deque_open}
use Rattle.wivakkol_deques.proofs.DequeOpens.{deque_open_record, deque_open_row, deques_open_refines, deques_reopened}
use Rattle.wivakkol_deques.proofs.DequeStarts.{deque_begun_so, start_deques_stand}
use Rattle.wivakkol_deques.proofs.DequeSays.{deque_turn_answers, deque_list_answers}
use Rattle.deque_claims.specs.LentDequeCalls.{LentDequeCall, moving, opening, lent_deque_move, lent_deque_call, lent_pairs_of, lent_deques_after, lent_pairs, lent_deques_returned, deque_moves_of, deque_returned_of, deques_returned_by}
use Rattle.schedule.proofs.Runs.Values.{reply_number}

-- ---- a beginning

module _ (s : List ℕ) (p K room : ℕ) (e : (lent_begin s p K room).number ≡ 0) where
  -- The record of DFDeques' beginning stands in the memory that `wivakkol_begin` leaves, with the filled-out table:
  pub begun_deques_stand : DequesStand (filled_out s K) (lent_begin s p K room).memory
  begun_deques_stand = subst (λ (M : Memory). DequesStand (filled_out s K) M) (sym (memory_so s p K room e)) (start_deques_stand s p K (found_none s p K room e))

  pub begun_deques_there : deque_begin s p K ≡ record { answer = Ok tt; run = deque_run_in (filled_out s K) (lent_begin s p K room).memory }
  begun_deques_there =
      deque_begun_so s p K (found_none s p K room e) ∙ ap (λ (M : Memory). record { answer = Ok tt; run = deque_run_in (filled_out s K) M }) (sym (memory_so s p K room e))

  pub begun_deques_record : deque_begin s p K ≡ record { answer = Ok tt; run = (deque_begin s p K).run }
  begun_deques_record = begun_deques_there ∙ (λ i. record { answer = Ok tt; run = sym (ap (λ (x : DequeBegun). x.run) begun_deques_there) i })

-- ---- the row of turns

-- a turn was taken where it was not refused: no check has the number 0
pub turned_row : (r : DequeRun) (w c : ℕ) → pick (eqb (deque_turning_values (deque_turned r w c).answer).number 0) (pair w c ∷ []) [] ≡ deque_turn_row (deque_turned r w c).answer (pair w c)
unfolding deque_turned deque_checks try_at
turned_row r w c = go (unsound_deques r) (no_worker r.run w) (root_ended r.run) (no_choice r c)
  where
    go : (x y z v : Bool)
        → let a : Result Reply Refusal =
        (deque_turned_as (pick x (Err (refusal 32 0)) (pick y (Err (refusal 30 0)) (pick z (Err (refusal 31 0)) (pick v (Err (refusal 49 0)) (Ok tt))))) r (step_deques r w c)).answer in
        pick (eqb (deque_turning_values a).number 0) (pair w c ∷ []) [] ≡ deque_turn_row a (pair w c)
    go true y z v = refl
    go false true z v = refl
    go false false true v = refl
    go false false false true = refl
    go false false false false = rw (reply_number (step_deques r w c).reply)

-- ---- a call

pub record CallRefines (s : List ℕ) (M : Memory) (c : DequeCall) : Type 0 where
  pub record_after : deque_run_in s (lent_deque_move s c M).memory ≡ after_deque_call c (deque_run_in s M)
  pub answer : returned (lent_deque_move s c M).number (lent_deque_move s c M).row ≡ deque_returned_of c (deque_run_in s M)
  pub row : lent_pairs_of (moving c) (lent_deque_move s c M) ≡ pairs_of c (deque_run_in s M)
  pub stands : DequesStand s (lent_deque_move s c M).memory

pub deque_call_refines : (s : List ℕ) (M : Memory) → DequesStand s M → (c : DequeCall) → CallRefines s M c
unfolding lent_deque_move lent_pairs_of after_deque_call pairs_of
deque_call_refines s M h (turn w c) =
    let t = deque_turn_answers s M h w c in
    record {
      record_after = t.record_after;
      answer = λ i. returned (t.number_is i) (t.row_is i);
      row = ap (λ (n : ℕ). pick (eqb n 0) (pair w c ∷ []) []) t.number_is ∙ turned_row (deque_run_in s M) w c;
      stands = t.stands;
    }
deque_call_refines s M h (over_pairs l) =
    let t = deque_list_answers s M h l in
    record {
      record_after = t.record_after;
      answer = λ i. returned (t.number_is i) (t.row_is i);
      row = ap (pairs_from (pair_at l) 0) (row_turns (pairs_run (deque_run_in s M) l).report t.row_is);
      stands = t.stands;
    }

-- ---- lists of calls

-- what a list of calls leaves and returns: it is those of them that move the run, on the record, and the record after it stands
pub record DequesRefine (s : List ℕ) (M : Memory) (l : List LentDequeCall) : Type 0 where
  pub record_after : deque_run_in s (lent_deques_after s l M) ≡ after_deque_calls (deque_moves_of l) (deque_run_in s M)
  pub answers : lent_deques_returned s l M ≡ deques_returned_by l (deque_run_in s M)
  pub row : lent_pairs s l M ≡ pairs_of_calls (deque_moves_of l) (deque_run_in s M)
  pub stands : DequesStand s (lent_deques_after s l M)

pub deque_calls_refine : (s : List ℕ) (M : Memory) → DequesStand s M → (l : List LentDequeCall) → DequesRefine s M l
unfolding lent_deques_after lent_deques_returned lent_pairs lent_deque_call lent_pairs_of deque_moves_of deques_returned_by after_deque_calls pairs_of_calls
deque_calls_refine s M h [] = record { record_after = refl; answers = refl; row = refl; stands = h }
deque_calls_refine s M h (moving c ∷ l) =
    let t = deque_call_refines s M h c in
    let d : DequesRefine s (lent_deque_move s c M).memory l = deque_calls_refine s (lent_deque_move s c M).memory t.stands l in
    record {
      record_after = d.record_after ∙ ap (after_deque_calls (deque_moves_of l)) t.record_after;
      answers = ap₂ ◌∷◌ t.answer (d.answers ∙ ap (deques_returned_by l) t.record_after);
      row = ap₂ ◌++◌ t.row (d.row ∙ ap (pairs_of_calls (deque_moves_of l)) t.record_after);
      stands = d.stands;
    }
deque_calls_refine s M h (opening ∷ l) =
    let d : DequesRefine s (lent_deque_open s M).memory l = deque_calls_refine s (lent_deque_open s M).memory (deques_reopened s M h) l in
    record {
      record_after = d.record_after ∙ ap (after_deque_calls (deque_moves_of l)) (deque_open_record s M);
      answers = ap₂ ◌∷◌ (λ i. returned (deques_open_refines s M h i) (deque_open_row s M i)) (d.answers ∙ ap (deques_returned_by l) (deque_open_record s M));
      row = d.row ∙ ap (pairs_of_calls (deque_moves_of l)) (deque_open_record s M);
      stands = d.stands;
    }
