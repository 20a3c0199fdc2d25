-- On memory that has the blank record every call is document 01's on the blank record: 30, an empty list's spent or an opening's 0, and the blank record is left.
use mathlib.Core.Path.{◌≡◌, refl, sym, ap, ap₂, ◌∙◌}
use Prim.Native.Nat.{ℕ, ◌%◌}
use native.Mathlib.Omega.{arith}
use mathlib.Core.List.{List, [], ◌∷◌, ◌++◌}
use mathlib.Core.Bool.{Bool, true, false}
use borrow.Author.Tests.{le-ltb}
use lib.Dec.{eqb}
use lib.ListN.{get_or, take}
use Rattle.table.specs.Sum.{pick}
use Rattle.table.specs.Pass.{try_at}
use Rattle.schedule.specs.declared.Run.{Run}
use Rattle.schedule.specs.declared.Turned.{Turned}
use Rattle.schedule.specs.declared.Ran.{Ran}
use Rattle.schedule.specs.Machine.{ended}
use Rattle.schedule.specs.Record.{blank}
use Rattle.schedule.specs.Turn.{no_worker, turn_checks}
use Rattle.schedule.specs.Runs.{worker_at}
use Rattle.schedule.specs.Answers.{nothing, spent}
use Rattle.schedule.specs.Values.{turn_values}
use Rattle.schedule.specs.Shown.{preview_values}
use Rattle.schedule.specs.Calls.{Call, turn, over_list, in_rounds, turns_in, turn_row, after_call, after_calls, row_of, row_of_calls, turning, report, answer_of}
use Rattle.schedule.proofs.Runs.Blank.{blank_tested, turned_blank, list_none, list_some, rounds_blank}
use Rattle.order.specs.Firsts.{firsts}
use Rattle.soundness.proofs.Passed.{no_workers as blank_of}
use Rattle.run_memory.specs.Memory.{Memory, moved_in, run_row, Answer, answer, hindrance, turn_in}
use Rattle.run_memory.specs.Stands.{run_in}
use Rattle.run_memory.specs.Runs.{over_in, drive_in, list_run_in}
use Rattle.wivakkol.specs.Lent.{lent_list}
use Rattle.wivakkol.specs.Opened.{blank_in, blanked_in, lent_open}
use Rattle.wivakkol.specs.Preview.{lent_preview, shown_as}
use Rattle.wivakkol.proofs.Opens.{no_workers, blank_passed, open_blank, blank_turn, blank_rounds}
use Rattle.claims.specs.LentCalls.{LentCall, moving, opening, Returned, returned, lent_move, lent_call, lent_row_of, lent_after, lent_returned, lent_row, moves_of}
use Rattle.claims.specs.Answers.{in_numbers, returned_by}

-- ---- on memory that has it

module _ (s : List ℕ) (M : Memory) (h : blank_in M ≡ true) where
  pub is_blank_lem : run_in [] M ≡ blank
  is_blank_lem = blank_of (run_in [] M) (blank_passed s M h) (no_workers s M h)

  not_over : over_in M ≡ false
  unfolding blank
  not_over = ap (λ (r : Run). eqb (get_or r.status 0 0) ended) is_blank_lem

  no_turns : (moved_in M).turns ≡ 0
  unfolding blank
  no_turns = ap (λ (r : Run). r.turns) is_blank_lem

  lent_none : lent_list s [] M ≡ answer 0 (run_row spent 0) M
  unfolding lent_list list_run_in drive_in
  lent_none = rw (no_turns, not_over)

  lent_some : (w : ℕ) (l : List ℕ) → lent_list s (w ∷ l) M ≡ answer 30 (run_row nothing 0) M
  unfolding lent_list list_run_in drive_in worker_at turn_in hindrance
  lent_some w l = rw (no_turns, not_over, no_workers s M h, le-ltb w 0 (omega arith))

  pub blank_preview : (w : ℕ) → lent_preview s w M ≡ shown_as (preview_values blank w)
  unfolding lent_preview preview_values turn_values turn_checks try_at no_worker blank
  blank_preview w = rw (blank_turn s M h w, blank_tested, le-ltb w 0 (omega arith))

-- a call on such memory
record BlankCall (s : List ℕ) (M : Memory) (c : Call) : Type 0 where
  memory_same : (lent_move s c M).memory ≡ M
  answer : returned (lent_move s c M).number (lent_move s c M).row ≡ in_numbers (answer_of c blank)
  record_same : after_call c blank ≡ blank
  row : lent_row_of (moving c) M (lent_move s c M) ≡ row_of c blank

blank_call : (s : List ℕ) (M : Memory) → blank_in M ≡ true → (c : Call) → BlankCall s M c
unfolding lent_move lent_row_of after_call row_of firsts
blank_call s M h (turn w) =
    let a = blank_turn s M h w in
    let b = sym (turned_blank w) in
    record {
      memory_same = ap (λ (x : Answer). x.memory) a;
      answer = ap (λ (x : Answer). returned x.number x.row) a ∙ ap (λ (x : Turned). in_numbers (turning x.answer)) b;
      record_same = ap (λ (x : Turned). x.run) (turned_blank w);
      row = ap (λ (x : Answer). pick (eqb x.number 0) (w ∷ []) []) a ∙ ap (λ (x : Turned). turn_row x.answer w) b;
    }
blank_call s M h (over_list []) =
    let a = lent_none s M h in
    let b = sym list_none in
    record {
      memory_same = ap (λ (x : Answer). x.memory) a;
      answer = ap (λ (x : Answer). returned x.number x.row) a ∙ ap (λ (x : Ran). in_numbers (report x.report)) b;
      record_same = ap (λ (x : Ran). x.run) list_none;
      row = ap (λ (x : Answer). take (get_or x.row 2 0) []) a ∙ ap (λ (x : Ran). take (turns_in x.report) []) b;
    }
blank_call s M h (over_list (w ∷ l)) =
    let a = lent_some s M h w l in
    let b = sym (list_some w l) in
    record {
      memory_same = ap (λ (x : Answer). x.memory) a;
      answer = ap (λ (x : Answer). returned x.number x.row) a ∙ ap (λ (x : Ran). in_numbers (report x.report)) b;
      record_same = ap (λ (x : Ran). x.run) (list_some w l);
      row = ap (λ (x : Answer). take (get_or x.row 2 0) (w ∷ l)) a ∙ ap (λ (x : Ran). take (turns_in x.report) (w ∷ l)) b;
    }
blank_call s M h (in_rounds limit) =
    let a = blank_rounds s M h limit in
    let b = sym (rounds_blank limit) in
    record {
      memory_same = ap (λ (x : Answer). x.memory) a;
      answer = ap (λ (x : Answer). returned x.number x.row) a ∙ ap (λ (x : Ran). in_numbers (report x.report)) b;
      record_same = ap (λ (x : Ran). x.run) (rounds_blank limit);
      row = ap (λ (x : Answer). firsts (λ i. i % (get_or M.settings 0 0)) 0 (get_or x.row 2 0)) a ∙ ap (λ (x : Ran). firsts (λ i. i % blank.workers) 0 (turns_in x.report)) b;
    }

-- what stands beside the record is no part of it
pub beside_blank : (M : Memory) → blank_in (blanked_in M) ≡ blank_in M
unfolding blank_in
beside_blank M = refl

-- a list of calls on such memory
pub record BlankRefines (s : List ℕ) (M : Memory) (l : List LentCall) : Type 0 where
  pub blank_there : blank_in (lent_after s l M) ≡ true
  pub record_same : after_calls (moves_of l) blank ≡ blank
  pub answers : lent_returned s l M ≡ returned_by l blank
  pub row : lent_row s l M ≡ row_of_calls (moves_of l) blank

pub blank_refines : (s : List ℕ) (M : Memory) → blank_in M ≡ true → (l : List LentCall) → BlankRefines s M l
unfolding lent_after lent_returned lent_row lent_call lent_row_of moves_of returned_by after_calls row_of_calls
blank_refines s M h [] = record { blank_there = h; record_same = refl; answers = refl; row = refl }
blank_refines s M h (moving c ∷ l) =
    let t = blank_call s M h c in
    let d : BlankRefines s (lent_move s c M).memory l = blank_refines s (lent_move s c M).memory (ap blank_in t.memory_same ∙ h) l in
    let same = sym t.record_same in
    record {
      blank_there = d.blank_there;
      record_same = ap (after_calls (moves_of l)) t.record_same ∙ d.record_same;
      answers = ap₂ ◌∷◌ t.answer (d.answers ∙ ap (returned_by l) same);
      row = ap₂ ◌++◌ t.row (d.row ∙ ap (row_of_calls (moves_of l)) same);
    }
blank_refines s M h (opening ∷ l) =
    let a = open_blank s M h in
    let d : BlankRefines s (lent_open s M).memory l = blank_refines s (lent_open s M).memory (ap (λ (x : Answer). blank_in x.memory) a ∙ beside_blank M ∙ h) l in
    record {
      blank_there = d.blank_there;
      record_same = d.record_same;
      answers = ap₂ ◌∷◌ (ap (λ (x : Answer). returned x.number x.row) a ∙ ap (λ (q : Bool). returned (pick q 32 0) (0 ∷ [])) (sym blank_tested)) d.answers;
      row = d.row;
    }
