-- On memory that has the blank record every call of DFDeques is that call on the blank record: 30, a spent run over no pair or an opening's 0, and the blank record is left.
use mathlib.Core.Path.{◌≡◌, refl, sym, ap, ap₂, ◌∙◌}
use Prim.Native.Nat.{ℕ, ◌/◌}
use mathlib.Core.List.{List, [], ◌∷◌, ◌++◌}
use mathlib.Core.Bool.{Bool, true, false}
use lib.Dec.{ltb, eqb}
use lib.ListN.{length, get_or}
use Rattle.table.specs.Sum.{pick}
use Rattle.table.specs.Pass.{refusal}
use Rattle.schedule.specs.declared.Report.TheVariants.{Spent, Refused}
use Rattle.schedule.specs.Calls.{turns_in}
use Rattle.run_memory.specs.Memory.{Memory, Answer}
use Rattle.run_memory.specs.Runs.{stopped, stopped_as}
use Rattle.deques.specs.declared.DequeTurned.{DequeTurned}
use Rattle.deques.specs.declared.DequeRan.{DequeRan}
use Rattle.deques.specs.DequeRecord.{blank_deques}
use Rattle.deques.specs.DequeRuns.{pair, pair_at, deque_ran}
use Rattle.deques.specs.DequeCalls.{DequeCall, turn, over_pairs, deque_turn_row, pairs_from, after_deque_call, pairs_of, after_deque_calls, pairs_of_calls}
use Rattle.deques.proofs.DequeAnswers.{deque_blank_turn, deque_blank_run}
use Rattle.claims.specs.LentCalls.{returned}
use Rattle.wivakkol_deques.specs.DequeLent.{deque_blank_in, lent_deque_open}
use Rattle.wivakkol_deques.proofs.DequeOpens.{blank_deques_pass, open_blank_deques, blank_deque_turn, blank_deque_list, deque_opened_blank}
use Rattle.deque_claims.specs.LentDequeCalls.{LentDequeCall, moving, opening, lent_deque_move, lent_deque_call, lent_pairs_of, lent_deques_after, lent_pairs, lent_deques_returned, deque_moves_of, turning_numbers, report_numbers, deque_returned_of, deques_returned_by}

-- a call on such memory
record BlankCall (s : List ℕ) (M : Memory) (c : DequeCall) : Type 0 where
  memory_same : (lent_deque_move s c M).memory ≡ M
  answer : returned (lent_deque_move s c M).number (lent_deque_move s c M).row ≡ deque_returned_of c blank_deques
  record_same : after_deque_call c blank_deques ≡ blank_deques
  row : lent_pairs_of (moving c) (lent_deque_move s c M) ≡ pairs_of c blank_deques

-- what a run says of a blank record, in memory and by value
abbrev lent_blank : Memory → Bool → Answer
lent_blank M b = stopped_as (stopped (pick b 30 0) false 0 M)

abbrev ran_blank : Bool → DequeRan
ran_blank b = deque_ran (pick b (Refused 0 (refusal 30 0)) (Spent 0)) blank_deques

blank_call : (s : List ℕ) (M : Memory) → deque_blank_in M ≡ true → (c : DequeCall) → BlankCall s M c
unfolding lent_deque_move lent_pairs_of after_deque_call pairs_of pairs_from
blank_call s M h (turn w c) =
    let a = blank_deque_turn M h s w c in
    let b = sym (deque_blank_turn w c) in
    record {
      memory_same = ap (λ (x : Answer). x.memory) a;
      answer = ap (λ (x : Answer). returned x.number x.row) a ∙ ap (λ (x : DequeTurned). turning_numbers x.answer) b;
      record_same = ap (λ (x : DequeTurned). x.run) (deque_blank_turn w c);
      row = ap (λ (x : Answer). pick (eqb x.number 0) (pair w c ∷ []) []) a ∙ ap (λ (x : DequeTurned). deque_turn_row x.answer (pair w c)) b;
    }
blank_call s M h (over_pairs l) =
    let a = blank_deque_list M h s l in
    let b = sym (deque_blank_run l) in
    let q : Bool = ltb 0 (length l / 2) in
    record {
      memory_same = ap (λ (x : Answer). x.memory) a;
      answer = ap (λ (x : Answer). returned x.number x.row) a ∙ said q ∙ ap (λ (x : DequeRan). report_numbers x.report) b;
      record_same = ap (λ (x : DequeRan). x.run) (deque_blank_run l);
      row = ap (λ (x : Answer). pairs_from (pair_at l) 0 (get_or x.row 2 0)) a ∙ taken q ∙ ap (λ (x : DequeRan). pairs_from (pair_at l) 0 (turns_in x.report)) b;
    }
  where
    said : (q : Bool) → returned (lent_blank M q).number (lent_blank M q).row ≡ report_numbers (ran_blank q).report
    said true = refl
    said false = refl

    taken : (q : Bool) → pairs_from (pair_at l) 0 (get_or (lent_blank M q).row 2 0) ≡ pairs_from (pair_at l) 0 (turns_in (ran_blank q).report)
    taken true = refl
    taken false = refl

-- a list of calls on such memory
pub record BlankRefines (s : List ℕ) (M : Memory) (l : List LentDequeCall) : Type 0 where
  pub blank_there : deque_blank_in (lent_deques_after s l M) ≡ true
  pub record_same : after_deque_calls (deque_moves_of l) blank_deques ≡ blank_deques
  pub answers : lent_deques_returned s l M ≡ deques_returned_by l blank_deques
  pub row : lent_pairs s l M ≡ pairs_of_calls (deque_moves_of l) blank_deques

pub blank_refines : (s : List ℕ) (M : Memory) → deque_blank_in M ≡ true → (l : List LentDequeCall) → BlankRefines s M l
unfolding lent_deques_after lent_deques_returned lent_pairs lent_deque_call lent_pairs_of deque_moves_of deques_returned_by after_deque_calls pairs_of_calls
blank_refines s M h [] = record { blank_there = h; record_same = refl; answers = refl; row = refl }
blank_refines s M h (moving c ∷ l) =
    let t = blank_call s M h c in
    let d : BlankRefines s (lent_deque_move s c M).memory l = blank_refines s (lent_deque_move s c M).memory (ap deque_blank_in t.memory_same ∙ h) l in
    let same = sym t.record_same in
    record {
      blank_there = d.blank_there;
      record_same = ap (after_deque_calls (deque_moves_of l)) t.record_same ∙ d.record_same;
      answers = ap₂ ◌∷◌ t.answer (d.answers ∙ ap (deques_returned_by l) same);
      row = ap₂ ◌++◌ t.row (d.row ∙ ap (pairs_of_calls (deque_moves_of l)) same);
    }
blank_refines s M h (opening ∷ l) =
    let a = open_blank_deques M h s in
    let d : BlankRefines s (lent_deque_open s M).memory l = blank_refines s (lent_deque_open s M).memory (deque_opened_blank s M h) l in
    record {
      blank_there = d.blank_there;
      record_same = d.record_same;
      answers = ap₂ ◌∷◌ (ap (λ (x : Answer). returned x.number x.row) a ∙ ap (λ (q : Bool). returned (pick q 32 0) (0 ∷ [])) (sym blank_deques_pass)) d.answers;
      row = d.row;
    }
