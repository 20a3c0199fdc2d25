-- Demand 1 for DFDeques from C, in two calls. A turn and a list do not test whether what they are lent is sound: opening does. Opening answers 32 exactly where the call on the record would
-- (`OpenAnswers`), and after an opening that answered 0 every call is DFDeques' on the record that stands there, refusals included (`AfterOpen`). The two together, from the functions' own
-- promises: `opened_code_refines`.
use Rattle.std.specs.Prelude.{Err}
use mathlib.Core.Path.{◌≡◌, refl, sym, ap, subst, ◌∙◌}
use mathlib.Core.Logic.{◌↔◌}
use Prim.Native.Nat.{ℕ}
use native.Mathlib.Omega.{arith}
use mathlib.Core.List.{List}
use mathlib.Core.Bool.{Bool, true, false}
use Rattle.table.specs.Sum.{pick}
use Rattle.table.specs.Pass.{refusal, try_at}
use Rattle.schedule.specs.declared.Report.TheVariants.{Refused}
use Rattle.schedule.specs.Turn.{root_ended, no_worker}
use Rattle.run_memory.specs.Memory.{Memory, Answer}
use Rattle.run_memory.specs.Stands.{truths}
use Rattle.deques.specs.declared.DequeRun.{DequeRun}
use Rattle.deques.specs.declared.DequeRan.{DequeRan}
use Rattle.deques.specs.declared.DequeTurned.{DequeTurned}
use Rattle.deques.specs.DequeTurn.{unsound_deques, no_choice, deque_checks, deque_turned}
use Rattle.deques.specs.DequeRuns.{Pair, deque_ran, pairs_run}
use Rattle.deques.specs.DequeValues.{deque_turn_values}
use Rattle.deques.specs.DequeCalls.{DequeCall, turn, over_pairs, after_deque_call, after_deque_calls, pairs_of_calls}
use Rattle.stealing.specs.StealingMemory.{deque_run_in}
use Rattle.wivakkol_deques.specs.DequeLent.{deque_blank_in, deque_record_in, lent_deque_open}
use Rattle.wivakkol_deques.proofs.DequeOpens.{deque_open_record, deques_worked, blank_here, run_here, deque_open_untrue, deque_open_tested, deque_opened_stands, deque_opened_blank}
use Rattle.claims.specs.LentCalls.{Returned}
use Rattle.claims.proofs.Shaped.{Shaped}
use Rattle.deque_claims.specs.LentDequeCalls.{LentDequeCall, opening, lent_deque_call, lent_deques_after, lent_pairs, lent_deques_returned, deque_moves_of, turning_numbers, report_numbers, deque_returned_of, deques_returned_by}
use Rattle.deque_claims.proofs.DequesRefine.{deque_calls_refine}
use Rattle.deque_claims.proofs.BlankDeques.{blank_refines}
use Rattle.deque_claims.proofs.DequeSizes.{deque_call_shaped}
use Rattle.deque_claims.proofs.DequeSays.{OpenSays, open_is, open_says}
use Rattle.deque_claims.proofs.FromC.{DequeHistory, deque_history_is, Defines, deque_history_exists}
use Rattle.claims.proofs.Opened.{neither, check_applies}

-- ---- what opening answers

-- the number that opening a run in memory M beside table s answers
pub record OpenAnswers (s : List ℕ) (M : Memory) (number : ℕ) : Type 0 where
  -- a truth value that is written as neither 0 nor 1 is no record's
  pub no_record : truths M.holds ≡ false → number ≡ 32
  -- else it is 32 where check 32 applies to the record, "record not sound and not blank", and 0 where it does not
  pub tested : truths M.holds ≡ true → number ≡ pick (unsound_deques (deque_record_in s M)) 32 0
  -- and so it is 32 exactly where the turn on the record is refused with 32, whoever's turn it is and whatever the choice
  pub as_a_turn : truths M.holds ≡ true → (w c : ℕ) → (number ≡ 32) ↔ ((deque_turn_values (deque_record_in s M) w c).number ≡ 32)
  -- where it is 32, every call on the record is refused with 32 and leaves it alone
  pub as_a_call : truths M.holds ≡ true → number ≡ 32 → (c : DequeCall) → ((deque_returned_of c (deque_record_in s M)).number ≡ 32) × (after_deque_call c (deque_record_in s M) ≡ deque_record_in s M)

-- a turn is refused with 32 exactly where check 32 applies
turn_tested : (r : DequeRun) (w c : ℕ) → (◌≡◌ {A = ℕ} (pick (unsound_deques r) 32 0) 32) ↔ ((deque_turn_values r w c).number ≡ 32)
unfolding deque_turn_values deque_checks try_at
turn_tested r w c = go (unsound_deques r) refl (no_worker r.run w) refl (root_ended r.run) refl (no_choice r c) refl
  where
    go : (x : Bool) → unsound_deques r ≡ x → (y : Bool) → no_worker r.run w ≡ y → (z : Bool) → root_ended r.run ≡ z → (v : Bool) → no_choice r c ≡ v
        → (◌≡◌ {A = ℕ} (pick x 32 0) 32) ↔ ((deque_turn_values r w c).number ≡ 32)
    go true e y f z g v k = rw e ((λ i. refl), (λ i. refl))
    go false e true f z g v k = rw (e, f) (neither (λ i. omega (arith, i)) (λ i. omega (arith, i)))
    go false e false f true g v k = rw (e, f, g) (neither (λ i. omega (arith, i)) (λ i. omega (arith, i)))
    go false e false f false g true k = rw (e, f, g, k) (neither (λ i. omega (arith, i)) (λ i. omega (arith, i)))
    go false e false f false g false k = rw (e, f, g, k) (neither (λ i. omega (arith, i)) (λ i. omega (arith, i)))

turn_so : (r : DequeRun) → unsound_deques r ≡ true → (w c : ℕ) → deque_turned r w c ≡ record { answer = Err (refusal 32 0); run = r }
unfolding deque_turned deque_checks try_at
turn_so r e w c = rw e

list_so : (r : DequeRun) → unsound_deques r ≡ true → (l : List ℕ) → pairs_run r l ≡ deque_ran (Refused 0 (refusal 32 0)) r
unfolding pairs_run
list_so r e l = rw e

-- where it applies every call is refused
call_tested : (r : DequeRun) → unsound_deques r ≡ true → (c : DequeCall) → ((deque_returned_of c r).number ≡ 32) × (after_deque_call c r ≡ r)
unfolding after_deque_call
call_tested r e (turn w c) = let d = turn_so r e w c in (ap (λ (x : DequeTurned). (turning_numbers x.answer).number) d, ap (λ (x : DequeTurned). x.run) d)
call_tested r e (over_pairs l) = let d = list_so r e l in (ap (λ (x : DequeRan). (report_numbers x.report).number) d, ap (λ (x : DequeRan). x.run) d)

pub open_answers : (s : List ℕ) (M : Memory) → OpenAnswers s M (lent_deque_open s M).number
open_answers s M =
    let t : truths M.holds ≡ true → (lent_deque_open s M).number ≡ pick (unsound_deques (deque_record_in s M)) 32 0 = deque_open_tested s M in
    record {
      no_record = deque_open_untrue s M;
      tested = t;
      as_a_turn = λ h w c. rw (t h) (turn_tested (deque_record_in s M) w c);
      as_a_call = λ h n. call_tested (deque_record_in s M) (check_applies (unsound_deques (deque_record_in s M)) (sym (t h) ∙ n));
    }

-- ---- what follows it

-- Calls l on the memory that an opening left: with r the record that stands in M, the record after them, what was returned to every call, in number and row, and the row of pairs whose turns
-- were taken are those of the calls on r.
pub record AfterOpen (s : List ℕ) (M : Memory) (l : List LentDequeCall) (answers : List Returned) (row : List Pair) (N : Memory) : Type 0 where
  pub record_after : deque_record_in s N ≡ after_deque_calls (deque_moves_of l) (deque_record_in s M)
  pub answers_are : answers ≡ deques_returned_by l (deque_record_in s M)
  pub row_is : row ≡ pairs_of_calls (deque_moves_of l) (deque_record_in s M)

module _ (s : List ℕ) (M : Memory) (l : List LentDequeCall) where
  abbrev M' : Memory
  M' = (lent_deque_open s M).memory

  abbrev Goal : Type 0
  Goal = AfterOpen s M l (lent_deques_returned s l M') (lent_pairs s l M') (lent_deques_after s l M')

  after_blank : deque_blank_in M ≡ true → Goal
  after_blank e =
      let d = blank_refines s M' (deque_opened_blank s M e) l in
      let r = sym (blank_here s M e) in
      record {
        record_after = blank_here s (lent_deques_after s l M') d.blank_there ∙ sym d.record_same ∙ ap (after_deque_calls (deque_moves_of l)) r;
        answers_are = d.answers ∙ ap (deques_returned_by l) r;
        row_is = d.row ∙ ap (pairs_of_calls (deque_moves_of l)) r;
      }

  after_run : Shaped M → (lent_deque_open s M).number ≡ 0 → deque_blank_in M ≡ false → Goal
  after_run h n e =
      let c = deque_calls_refine s M' (deque_opened_stands s M h.holds h.threads h.quotas n e) l in
      let r : deque_run_in s M' ≡ deque_record_in s M = deque_open_record s M ∙ sym (run_here s M e) in
      record {
        record_after = run_here s (lent_deques_after s l M') (deques_worked s (lent_deques_after s l M') c.stands) ∙ c.record_after ∙ ap (after_deque_calls (deque_moves_of l)) r;
        answers_are = c.answers ∙ ap (deques_returned_by l) r;
        row_is = c.row ∙ ap (pairs_of_calls (deque_moves_of l)) r;
      }

  open_then : Shaped M → (lent_deque_open s M).number ≡ 0 → Goal
  open_then h n = go (deque_blank_in M) refl
    where
      go : (y : Bool) → deque_blank_in M ≡ y → Goal
      go true e = after_blank e
      go false e = after_run h n e

-- ---- the two calls together, from the functions' own promises

pub record OpenedRun (s : List ℕ) (M : Memory) (a : Answer) : Type 0 where
  pub opened : OpenAnswers s M a.number
  pub then : a.number ≡ 0 → {l : List LentDequeCall} {answers : List Returned} {row : List Pair} {N : Memory} → DequeHistory s a.memory l answers row N → AfterOpen s M l answers row N

-- `wivakkol_deque_open_on` was lent table s and memory M, whatever stands there, its rows of the lengths of the parts, and answered a; turns, lists and openings follow in any order.
pub opened_code_refines : {s : List ℕ} {M : Memory} {a : Answer} → OpenSays s M a → Shaped M → OpenedRun s M a
opened_code_refines {s} {M} {a} h k =
    let b = open_is h in
    record {
      opened = subst (λ (x : Answer). OpenAnswers s M x.number) (sym b) (open_answers s M);
      then = λ n {l} {answers} {row} {N} t.
          let d = deque_history_is t in
          let g = open_then s M l k (ap (λ (x : Answer). x.number) (sym b) ∙ n) in
          let e = ap (λ (x : Answer). x.memory) b in
          subst (λ (x : Memory). AfterOpen s M l answers row x) (sym (d.memory_is ∙ ap (lent_deques_after s l) e))
          (subst (λ (x : List Pair). AfterOpen s M l answers x (lent_deques_after s l (lent_deque_open s M).memory)) (sym (d.row_is ∙ ap (lent_pairs s l) e))
          (subst (λ (x : List Returned). AfterOpen s M l x (lent_pairs s l (lent_deque_open s M).memory) (lent_deques_after s l (lent_deque_open s M).memory)) (sym (d.answers_are ∙ ap (lent_deques_returned s l) e)) g));
    }

-- and of every list of calls there is such a history
pub opened_history_exists : (s : List ℕ) (M : Memory) → Shaped M → (l : List LentDequeCall) → OpenSays s M (lent_deque_open s M) × Defines s (lent_deque_open s M).memory l
unfolding lent_deque_call
opened_history_exists s M h l = (open_says s M, deque_history_exists s (lent_deque_open s M).memory (deque_call_shaped s opening M h) l)
