-- Document 01's demand 1 from C, in two calls. A turn, a list, rounds and a preview do not test whether what they are lent is sound: opening does. Opening answers 32 exactly where document
-- 01's call on the record would (`OpenAnswers`), and after an opening that answered 0 every call is document 01's on the record that stands there, refusals included (`AfterOpen`). The two
-- together, from the functions' own promises: `opened_code_refines`.
use mathlib.Core.Path.{◌≡◌, refl, sym, ap, subst, ◌∙◌}
use mathlib.Core.Logic.{◌↔◌}
use Prim.Native.Nat.{ℕ, zero, suc, ◌<◌}
use native.Mathlib.Omega.{arith}
use mathlib.Core.List.{List}
use mathlib.Core.Bool.{Bool, true, false, not}
use borrow.Author.Tests.{eqb-true}
use lib.Dec.{eqb, ltb}
use lib.ListN.{get_or, replicate}
use Rattle.table.specs.Sum.{pick}
use Rattle.table.specs.Pass.{refusal, try_at}
use Rattle.schedule.specs.declared.Run.{Run}
use Rattle.schedule.specs.declared.Worker.{Worker}
use Rattle.schedule.specs.declared.Turned.{Turned}
use Rattle.schedule.specs.declared.Ran.{Ran}
use Rattle.schedule.specs.declared.Report.TheVariants.{Refused}
use Rattle.schedule.specs.Machine.{nobody}
use Rattle.schedule.specs.Record.{blank}
use Rattle.schedule.specs.Turn.{unsound, root_ended, no_worker, turn_checks}
use Rattle.schedule.specs.Values.{turn_values}
use Rattle.schedule.specs.Shown.{preview_values}
use Rattle.schedule.specs.Runs.{ran, list_run, rounds_run}
use Rattle.schedule.specs.Answers.{turning_values, report_values}
use Rattle.schedule.proofs.Runs.Blank.{blank_tested}
use Rattle.schedule.specs.Calls.{Call, turn, over_list, in_rounds, after_call, after_calls, row_of_calls, answer_of}
use Rattle.order.proofs.Words.{all_below_exactly}
use Rattle.soundness.proofs.Chains.{never}
use Rattle.array_machine.proofs.Answers.{turned_unsound}
use Rattle.run_memory.specs.Memory.{Memory, Answer}
use Rattle.run_memory.specs.Stands.{truths, run_in}
use Rattle.run_memory.proofs.Refines.{own_worker}
use Rattle.wivakkol.specs.Opened.{sound_in, blank_in, opened_as, lent_open}
use Rattle.wivakkol.specs.Preview.{lent_preview, shown_as}
use Rattle.wivakkol.proofs.Opens.{tested_same, open_record, open_blank, stands_worked}
use Rattle.wivakkol.proofs.PreviewRefines.{preview_refines}
use Rattle.claims.specs.LentCalls.{LentCall, opening, Returned, lent_call, lent_after, lent_returned, lent_row, moves_of}
use Rattle.claims.specs.Answers.{in_numbers, returned_by}
use Rattle.wivakkol_marks.specs.MarkedIn.{record_in}
use Rattle.claims.proofs.Shaped.{Shaped}
use Rattle.claims.proofs.Sizes.{call_shaped}
use Rattle.claims.proofs.LentLimit.{open_refine}
use Rattle.claims.proofs.LentSays.{OpenSays, open_is, open_says}
use Rattle.claims.proofs.Blank.{is_blank_lem, blank_preview, beside_blank, blank_refines}
use Rattle.claims.proofs.FromC.{LentHistory, lent_history_is, Defines, lent_history_exists}

-- ---- what opening answers

-- the number that opening a run in memory M beside table s answers
pub record OpenAnswers (s : List ℕ) (M : Memory) (number : ℕ) : Type 0 where
  -- a truth value that is written as neither 0 nor 1 is no record's
  pub no_record : truths M.holds ≡ false → number ≡ 32
  -- else it is 32 where check 32 applies to the record, "record not sound and not blank", and 0 where it does not
  pub tested : truths M.holds ≡ true → number ≡ pick (unsound (record_in s M)) 32 0
  -- and so it is 32 exactly where document 01's turn on the record is refused with 32, whoever's turn it is
  pub as_a_turn : truths M.holds ≡ true → (w : ℕ) → (number ≡ 32) ↔ ((turn_values (record_in s M) w).number ≡ 32)
  -- where it is 32, every call of document 01 on the record is refused with 32 and leaves it alone
  pub as_a_call : truths M.holds ≡ true → number ≡ 32 → (c : Call) → ((in_numbers (answer_of c (record_in s M))).number ≡ 32) × (after_call c (record_in s M) ≡ record_in s M)

-- neither of two numbers is 32
pub neither : {x y : ℕ} → (x ≡ 32 → ⊥) → (y ≡ 32 → ⊥) → (x ≡ 32) ↔ (y ≡ 32)
neither d e = ((λ i. absurd (d i)), (λ i. absurd (e i)))

-- a turn is refused with 32 exactly where check 32 applies
pub turn_tested : (r : Run) (w : ℕ) → (◌≡◌ {A = ℕ} (pick (unsound r) 32 0) 32) ↔ ((turn_values r w).number ≡ 32)
unfolding turn_values turn_checks try_at
turn_tested r w = go (unsound r) refl (no_worker r w) refl (root_ended r) refl
  where
    go : (x : Bool) → unsound r ≡ x → (y : Bool) → no_worker r w ≡ y → (z : Bool) → root_ended r ≡ z → (◌≡◌ {A = ℕ} (pick x 32 0) 32) ↔ ((turn_values r w).number ≡ 32)
    go true e y f z g = rw e ((λ i. refl), (λ i. refl))
    go false e true f z g = rw (e, f) (neither (λ i. omega (arith, i)) (λ i. omega (arith, i)))
    go false e false f true g = rw (e, f, g) (neither (λ i. omega (arith, i)) (λ i. omega (arith, i)))
    go false e false f false g = rw (e, f, g) (neither (λ i. omega (arith, i)) (λ i. omega (arith, i)))

pub check_applies : (x : Bool) → ◌≡◌ {A = ℕ} (pick x 32 0) 32 → x ≡ true
check_applies true e = refl
check_applies false e = absurd (omega (arith, e))

list_so : (r : Run) → unsound r ≡ true → (l : List ℕ) → list_run r l ≡ ran (Refused 0 (refusal 32 0)) r
unfolding list_run
list_so r e l = rw e

rounds_so : (r : Run) → unsound r ≡ true → (limit : ℕ) → rounds_run r limit ≡ ran (Refused 0 (refusal 32 0)) r
unfolding rounds_run
rounds_so r e limit = rw e

run_refused : {d : Ran} {r : Run} → d ≡ ran (Refused 0 (refusal 32 0)) r → ((report_values d.report).number ≡ 32) × (d.run ≡ r)
run_refused k = (ap (λ (x : Ran). (report_values x.report).number) k, ap (λ (x : Ran). x.run) k)

-- there every call is
call_tested : (r : Run) → unsound r ≡ true → (c : Call) → ((in_numbers (answer_of c r)).number ≡ 32) × (after_call c r ≡ r)
unfolding after_call
call_tested r e (turn w) = let d = turned_unsound r w e in (ap (λ (x : Turned). (turning_values x.answer).number) (sym d), ap (λ (x : Turned). x.run) (sym d))
call_tested r e (over_list l) = run_refused (list_so r e l)
call_tested r e (in_rounds limit) = run_refused (rounds_so r e limit)

module _ (s : List ℕ) (M : Memory) where
  -- the record that stands in the memory is the blank one, or the table's bytes and the memory's numbers
  blank_here : blank_in M ≡ true → record_in s M ≡ blank
  unfolding record_in
  blank_here e = rw e

  run_here : blank_in M ≡ false → record_in s M ≡ run_in s M
  unfolding record_in
  run_here e = rw e

-- the blank record's truth values are written as 0
blank_truths : (s : List ℕ) (M : Memory) → blank_in M ≡ true → truths M.holds ≡ true
unfolding truths blank
blank_truths s M h = (all_below_exactly (λ w. ltb (get_or M.holds w 0) 2) 16).1 at
  where
    nobody_at : (n w : ℕ) → get_or (replicate n nobody) w nobody ≡ nobody
    nobody_at zero w = refl
    nobody_at (suc n) zero = refl
    nobody_at (suc n) (suc w) = nobody_at n w

    none : (x : ℕ) → not (eqb x 0) ≡ false → ltb x 2 ≡ true
    none x e = go (eqb x 0) refl e
      where
        go : (q : Bool) → eqb x 0 ≡ q → not q ≡ false → ltb x 2 ≡ true
        go true f d = rw (eqb-true x 0 f)
        go false f d = never (sym d)

    at : (w : ℕ) → w < 16 → ltb (get_or M.holds w 0) 2 ≡ true
    at w l =
        none (get_or M.holds w 0)
        (ap (λ (x : Worker). x.holds) (sym (own_worker M w l) ∙ ap (λ (r : Run). get_or r.worker w nobody) (is_blank_lem s M h) ∙ nobody_at 16 w))

no_sound : (s : List ℕ) (M : Memory) → truths M.holds ≡ false → sound_in s M ≡ false
unfolding sound_in
no_sound s M h = rw h

pub open_answers : (s : List ℕ) (M : Memory) → OpenAnswers s M (lent_open s M).number
unfolding lent_open
open_answers s M =
    let t : truths M.holds ≡ true → (lent_open s M).number ≡ pick (unsound (record_in s M)) 32 0 = λ h. tested h (blank_in M) refl in
    record { no_record = λ h. refused h (blank_in M) refl; tested = t; as_a_turn = λ h w. rw (t h) (turn_tested (record_in s M) w); as_a_call = λ h n. call_tested (record_in s M) (check_applies (unsound (record_in s M)) (sym (t h) ∙ n)) }
  where
    refused : truths M.holds ≡ false → (y : Bool) → blank_in M ≡ y → (opened_as (sound_in s M) y s M).number ≡ 32
    refused h true e = never (sym h ∙ blank_truths s M e)
    refused h false e = rw (no_sound s M h)

    by_sound : (x : Bool) → (opened_as x false s M).number ≡ pick (not x) 32 0
    by_sound true = refl
    by_sound false = refl

    either : (x : Bool) → (opened_as x true s M).number ≡ 0
    either true = refl
    either false = refl

    tested : truths M.holds ≡ true → (y : Bool) → blank_in M ≡ y → (opened_as (sound_in s M) y s M).number ≡ pick (unsound (record_in s M)) 32 0
    tested h true e = rw (blank_here s M e, blank_tested) (either (sound_in s M))
    tested h false e = rw (run_here s M e, ← (tested_same s M h e)) (by_sound (sound_in s M))

-- ---- what follows it

-- Calls l on the memory that an opening left: with r the record that stands in M, the record after them, what was returned to every call, in number and row, and the row of turns taken are those
-- of the calls on r; and a preview of any worker's turn, before them, between them or after them, shows what the turn on the record then standing there says and leaves.
pub record AfterOpen (s : List ℕ) (M : Memory) (l : List LentCall) (answers : List Returned) (row : List ℕ) (N : Memory) : Type 0 where
  pub record_after : record_in s N ≡ after_calls (moves_of l) (record_in s M)
  pub answers_are : answers ≡ returned_by l (record_in s M)
  pub row_is : row ≡ row_of_calls (moves_of l) (record_in s M)
  pub previews : (w : ℕ) → lent_preview s w N ≡ shown_as (preview_values (record_in s N) w)

module _ (s : List ℕ) (M : Memory) (l : List LentCall) where
  abbrev M' : Memory
  M' = (lent_open s M).memory

  abbrev Goal : Type 0
  Goal = AfterOpen s M l (lent_returned s l M') (lent_row s l M') (lent_after s l M')

  after_blank : blank_in M ≡ true → Goal
  after_blank e =
      let b : blank_in M' ≡ true = ap (λ (x : Answer). blank_in x.memory) (open_blank s M e) ∙ beside_blank M ∙ e in
      let d = blank_refines s M' b l in
      let r = sym (blank_here s M e) in
      let left : record_in s (lent_after s l M') ≡ blank = blank_here s (lent_after s l M') d.blank_there in
      record {
        record_after = left ∙ sym d.record_same ∙ ap (after_calls (moves_of l)) r;
        answers_are = d.answers ∙ ap (returned_by l) r;
        row_is = d.row ∙ ap (row_of_calls (moves_of l)) r;
        previews = λ w. rw left (blank_preview s (lent_after s l M') d.blank_there w);
      }

  after_run : Shaped M → (lent_open s M).number ≡ 0 → blank_in M ≡ false → Goal
  after_run h n e =
      let c = open_refine s M h.holds h.threads h.quotas n e l in
      let r : run_in s M' ≡ record_in s M = open_record s M ∙ sym (run_here s M e) in
      let left : record_in s (lent_after s l M') ≡ run_in s (lent_after s l M') = run_here s (lent_after s l M') (stands_worked s (lent_after s l M') c.stands) in
      record {
        record_after = left ∙ c.record_after ∙ ap (after_calls (moves_of l)) r;
        answers_are = c.answers ∙ ap (returned_by l) r;
        row_is = c.row ∙ ap (row_of_calls (moves_of l)) r;
        previews = λ w. rw left (preview_refines s (lent_after s l M') c.stands w);
      }

  pub open_then : Shaped M → (lent_open s M).number ≡ 0 → Goal
  open_then h n = go (blank_in M) refl
    where
      go : (y : Bool) → blank_in M ≡ y → Goal
      go true e = after_blank e
      go false e = after_run h n e

-- ---- the two calls together, from the functions' own promises

pub record OpenedRun (s : List ℕ) (M : Memory) (a : Answer) : Type 0 where
  pub opened : OpenAnswers s M a.number
  pub then : a.number ≡ 0 → {l : List LentCall} {answers : List Returned} {row : List ℕ} {N : Memory} → LentHistory s a.memory l answers row N → AfterOpen s M l answers row N

-- `wivakkol_open_on` was lent table s and memory M, whatever stands there, its rows of the lengths of the parts, and answered a; turns, lists, rounds and openings follow in any order.
pub opened_code_refines : {s : List ℕ} {M : Memory} {a : Answer} → OpenSays s M a → Shaped M → OpenedRun s M a
opened_code_refines {s} {M} {a} h k =
    let b = open_is h in
    record {
      opened = subst (λ (x : Answer). OpenAnswers s M x.number) (sym b) (open_answers s M);
      then = λ n {l} {answers} {row} {N} t.
          let d = lent_history_is t in
          let g = open_then s M l k (ap (λ (x : Answer). x.number) (sym b) ∙ n) in
          let e = ap (λ (x : Answer). x.memory) b in
          subst (λ (x : Memory). AfterOpen s M l answers row x) (sym (d.memory_is ∙ ap (lent_after s l) e))
          (subst (λ (x : List ℕ). AfterOpen s M l answers x (lent_after s l (lent_open s M).memory)) (sym (d.row_is ∙ ap (lent_row s l) e))
          (subst (λ (x : List Returned). AfterOpen s M l x (lent_row s l (lent_open s M).memory) (lent_after s l (lent_open s M).memory)) (sym (d.answers_are ∙ ap (lent_returned s l) e)) g));
    }

-- and of every list of calls there is such a history
pub opened_history_exists : (s : List ℕ) (M : Memory) → Shaped M → (l : List LentCall) → OpenSays s M (lent_open s M) × Defines s (lent_open s M).memory l
unfolding lent_call
opened_history_exists s M h l = (open_says s M, lent_history_exists s (lent_open s M).memory (call_shaped s opening M h) l)
