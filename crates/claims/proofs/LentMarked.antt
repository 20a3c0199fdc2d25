-- Lists of calls with marks in them (N11) on a run in lent memory: on memory where a record stands they are those calls on the record and its marks, answers included, and so from a beginning
-- on the limits on memory, on threads and on turns hold, with the turns that led to the mark and those since.
use mathlib.Core.Path.{◌≡◌, refl, sym, ap, ap₂, subst, ◌∙◌}
use Prim.Native.Nat.{ℕ, ◌≤◌}
use native.Mathlib.Omega.{arith}
use mathlib.Core.List.{List, [], ◌∷◌, ◌++◌, append-nil}
use mathlib.Core.Bool.{Bool, true, false}
use lib.ListN.{length, set, length-set}
use lib.Dec.{eqb}
use Rattle.table.specs.Sum.{pick}
use Rattle.table.specs.Format.{Table, table_of}
use Rattle.filling.specs.Filled.{filled_out}
use Rattle.order.specs.Turns.{turns_of}
use Rattle.schedule.specs.declared.Run.{Run}
use Rattle.schedule.specs.Record.{blank}
use Rattle.schedule.specs.Begin.{start_state}
use Rattle.schedule.specs.Sound.{Steady}
use Rattle.schedule.specs.Turn.{unsound}
use Rattle.schedule.specs.Calls.{Call, after_call, row_of, answer_of}
use Rattle.schedule.specs.Memory.{replies}
use Rattle.schedule.specs.Most.{not_idle}
use Rattle.schedule.proofs.Stores.{steady_fits}
use Rattle.schedule.proofs.Runs.Histories.{calls_steady}
use Rattle.run_memory.specs.Memory.{Memory}
use Rattle.run_memory.specs.Stands.{run_in, Stands}
use Rattle.wivakkol.specs.Lent.{lent_begin}
use Rattle.wivakkol.specs.Opened.{blank_in, lent_open}
use Rattle.wivakkol.proofs.Opens.{open_refines, opens_stands, stands_worked}
use Rattle.bounds.proofs.Limit.{MemoryLimit}
use Rattle.bounds.proofs.ThreadLimit.{ThreadLimit}
use Rattle.bounds.proofs.PeakLimit.{PeakLimit, UsefulLimit}
use Rattle.sharp.proofs.QuotaLimit.{EveryOrder}
use Rattle.marks.specs.Marks.{Marked, marked, unmarked, MarkValues, MarkCall, after_mark, after_marks, Led, led, led_by, nowhere, row_of_marks, turns_by, turns_to}
use Rattle.marks.specs.Marks.{moving as on_run}
use Rattle.marks.specs.Marks.{setting as marking}
use Rattle.marks.specs.Marks.{going as returning}
use Rattle.marks.proofs.Marked.{Follows, mark_follows, unmarked_follows}
use Rattle.marks.proofs.Turns.{turns_led_to}
use Rattle.wivakkol_marks.specs.LentMarks.{Marks, marks, mark_in, mark_fault, back_fault, lent_mark, lent_back, lent_unmark}
use Rattle.wivakkol_marks.specs.LentMarks.{setting as setting_as}
use Rattle.wivakkol_marks.specs.LentMarks.{going as going_as}
use Rattle.wivakkol_marks.specs.MarkedIn.{record_in, marks_in, marked_in}
use Rattle.wivakkol_marks.proofs.MarkRefines.{opened_record, mark_values_lem, back_values_lem, mark_refines, back_refines, back_stands, unmark_refines}
use Rattle.claims.specs.LentCalls.{moving, opening, returned, lent_move, lent_call, lent_row_of}
use Rattle.claims.specs.Answers.{in_numbers}
use Rattle.claims.specs.LentMarkCalls.{LentMarkCall, running, setting, going, Lent, lent, lent_mark_after, lent_marks_after, lent_marks_returned, lent_turns_to, marks_of_calls, returned_with_marks}
use Rattle.claims.proofs.LentLimit.{call_refines, open_row, begun_stands, begun_there}
use Rattle.claims.proofs.Marks.{marked_limit, marked_threads, marked_turns, marked_peak, marked_useful, marked_every_order}

-- ---- one call

blank_steady : Steady blank → ⊥
unfolding blank
blank_steady h = omega (arith, (steady_fits blank h).some_worker)

module _ (s : List ℕ) (M : Memory) where
  -- where a run stands, the record is the table's bytes and the memory's numbers
  stood : Stands s M → record_in s M ≡ run_in s M
  unfolding record_in
  stood h = rw (stands_worked s M h)

-- going back to a record with workers leaves a run that stands
back_steady : (s : List ℕ) (i : ℕ) (M : Memory) (K : Marks) → Stands s M → Steady (record_in s (lent_back s i M K).memory) → Stands s (lent_back s i M K).memory
unfolding lent_back record_in
back_steady s i M K h = go (blank_in (mark_in K i)) refl
  where
    X : Memory
    X = (lent_open s (mark_in K i)).memory

    gone : Bool → Memory
    gone x = (pick x (going_as 0 X) (going_as (back_fault s M K i) M)).memory

    blank_there : blank_in (mark_in K i) ≡ true → record_in s X ≡ blank
    blank_there e = opened_record s (mark_in K i) ∙ rw e

    at : (x : Bool) → blank_in (mark_in K i) ≡ true → Steady (record_in s (gone x)) → Stands s (gone x)
    at true e t = absurd (blank_steady (subst Steady (blank_there e) t))
    at false e t = h

    go : (y : Bool) → blank_in (mark_in K i) ≡ y → Steady (record_in s (gone (eqb (back_fault s M K i) 0))) → Stands s (gone (eqb (back_fault s M K i) 0))
    go true e t = at (eqb (back_fault s M K i) 0) e t
    go false e t = back_stands s i M K h e

-- the marks' rows have a number and a memory for each of eight
pub record Eight (K : Marks) : Type 0 where
  pub set : length K.set ≡ 8
  pub kept : length K.kept ≡ 8

mark_eight : (s : List ℕ) (i : ℕ) (M : Memory) (K : Marks) → Eight K → Eight (lent_mark s i M K).marks
unfolding lent_mark
mark_eight s i M K n = go (eqb (mark_fault s M K i) 0)
  where
    go : (x : Bool) → Eight (pick x (setting_as 0 (marks (set K.set i 1) (set K.kept i M))) (setting_as (mark_fault s M K i) K)).marks
    go true = record { set = length-set K.set i 1 ∙ n.set; kept = length-set K.kept i M ∙ n.kept }
    go false = n

-- ---- lists of calls

-- a run that stands, with eight marks; it and they follow from the record r
pub record Standing (s : List ℕ) (r : Run) (x : Lent) (l : Led Call) : Type 0 where
  pub stands : Stands s x.memory
  pub eight : Eight x.marks
  pub follows : Follows r (marked_in s x.memory x.marks) l

-- what a list of calls leaves and returns, and the turns that led there: those of the calls on the record and its marks
pub record RefinesMarks (s : List ℕ) (x : Lent) (l : List LentMarkCall) : Type 0 where
  pub left : marked_in s (lent_marks_after s l x).memory (lent_marks_after s l x).marks ≡ after_marks (marks_of_calls l) (marked_in s x.memory x.marks)
  pub answers : lent_marks_returned s l x ≡ returned_with_marks l (marked_in s x.memory x.marks)
  pub turns : (w : Led ℕ) → lent_turns_to s l x w ≡ turns_to (marks_of_calls l) (marked_in s x.memory x.marks) w
  pub stands : Stands s (lent_marks_after s l x).memory

module _ (s : List ℕ) (r : Run) (steady : Steady r) where
  -- the call leaves what the call on the record and its marks leaves
  stands_on : (c : MarkCall) (x x' : Lent) (l : Led Call) → Standing s r x l → marked_in s x'.memory x'.marks ≡ after_mark c (marked_in s x.memory x.marks) → Eight x'.marks
      → (Steady (record_in s x'.memory) → Stands s x'.memory) → Standing s r x' (led_by c (marked_in s x.memory x.marks) l)
  stands_on c x x' l h e n g =
      let m : Marked = marked_in s x.memory x.marks in
      let f : Follows r (marked_in s x'.memory x'.marks) (led_by c m l) = subst (λ (q : Marked). Follows r q (led_by c m l)) (sym e) (mark_follows r c m l h.follows) in
      record { stands = g (subst Steady (sym f.run) (calls_steady r steady (led_by c m l).here)); eight = n; follows = f }

  module _ (x : Lent) (d : Led Call) (h : Standing s r x d) where
    moved_so : (c : Call) → marked_in s (lent_move s c x.memory).memory x.marks ≡ after_mark (on_run c) (marked_in s x.memory x.marks)
    unfolding after_mark
    moved_so c =
        let t = call_refines s x.memory h.stands c in
        ap (λ (z : Run). marked z (marks_in s x.marks)) (stood s (lent_move s c x.memory).memory t.stands ∙ t.record_after ∙ ap (after_call c) (sym (stood s x.memory h.stands)))

    set_so : (i : ℕ) → marked_in s x.memory (lent_mark s i x.memory x.marks).marks ≡ after_mark (marking i) (marked_in s x.memory x.marks)
    unfolding after_mark
    set_so i = mark_refines s x.memory x.marks h.stands.truth_values i h.eight.kept (λ n. h.eight.set)

    back_so : (i : ℕ) → marked_in s (lent_back s i x.memory x.marks).memory x.marks ≡ after_mark (returning i) (marked_in s x.memory x.marks)
    unfolding after_mark
    back_so i = back_refines s x.memory x.marks h.stands.truth_values i

  -- an opening takes no turn
  no_row : (M : Memory) (w : Led ℕ) → led (w.here ++ lent_row_of opening M (lent_open s M)) w.marks ≡ w
  unfolding lent_row_of
  no_row M w = ap (λ (row : List ℕ). led row w.marks) (append-nil w.here)

  pub refines_marks : (l : List LentMarkCall) (x : Lent) (d : Led Call) → Standing s r x d → RefinesMarks s x l
  unfolding lent_marks_after lent_marks_returned lent_turns_to marks_of_calls returned_with_marks after_marks turns_to lent_mark_after lent_call
  refines_marks [] x d h = record { left = refl; answers = refl; turns = λ w. refl; stands = h.stands }
  refines_marks (running (moving c) ∷ l) x d h =
      let M : Memory = x.memory in
      let t = call_refines s M h.stands c in
      let e = moved_so x d h c in
      let x' : Lent = lent (lent_move s c M).memory x.marks in
      let b = refines_marks l x' _ (stands_on (on_run c) x x' d h e h.eight (λ y. t.stands)) in
      let q : record_in s M ≡ run_in s M = stood s M h.stands in
      record {
        left = b.left ∙ ap (after_marks (marks_of_calls l)) e;
        answers = ap₂ ◌∷◌ (t.answer ∙ ap (λ (z : Run). in_numbers (answer_of c z)) (sym q)) (b.answers ∙ ap (returned_with_marks l) e);
        turns = λ w. b.turns _ ∙ (λ i. turns_to (marks_of_calls l) (e i) (turns_by (on_run c) ((t.row ∙ ap (row_of c) (sym q)) i) 0 w));
        stands = b.stands;
      }
  refines_marks (running opening ∷ l) x d h =
      let M : Memory = x.memory in
      let e : marked_in s (lent_open s M).memory x.marks ≡ marked_in s M x.marks = ap (λ (z : Run). marked z (marks_in s x.marks)) (opened_record s M) in
      let x' : Lent = lent (lent_open s M).memory x.marks in
      let k : Standing s r x' d = record { stands = opens_stands s M h.stands; eight = h.eight; follows = subst (λ (q : Marked). Follows r q d) (sym e) h.follows } in
      let b = refines_marks l x' d k in
      let q : record_in s M ≡ run_in s M = stood s M h.stands in
      record {
        left = b.left ∙ ap (after_marks (marks_of_calls l)) e;
        answers = ap₂ ◌∷◌ (λ i. returned ((open_refines s M h.stands ∙ ap (λ (z : Run). pick (unsound z) 32 0) (sym q)) i) (open_row s M i)) (b.answers ∙ ap (returned_with_marks l) e);
        turns = λ w. b.turns _ ∙ (λ i. turns_to (marks_of_calls l) (e i) (no_row M w i));
        stands = b.stands;
      }
  refines_marks (setting i ∷ l) x d h =
      let M : Memory = x.memory in
      let K : Marks = x.marks in
      let e = set_so x d h i in
      let x' : Lent = lent M (lent_mark s i M K).marks in
      let b = refines_marks l x' _ (stands_on (marking i) x x' d h e (mark_eight s i M K h.eight) (λ y. h.stands)) in
      let n = ap (λ (v : MarkValues). v.number) (mark_values_lem s M K h.stands.truth_values i) in
      record {
        left = b.left ∙ ap (after_marks (marks_of_calls l)) e;
        answers = ap₂ ◌∷◌ (ap (λ (k : ℕ). returned k []) n) (b.answers ∙ ap (returned_with_marks l) e);
        turns = λ w. b.turns _ ∙ (λ j. turns_to (marks_of_calls l) (e j) (turns_by (marking i) [] (n j) w));
        stands = b.stands;
      }
  refines_marks (going i ∷ l) x d h =
      let M : Memory = x.memory in
      let K : Marks = x.marks in
      let e = back_so x d h i in
      let x' : Lent = lent (lent_back s i M K).memory K in
      let b = refines_marks l x' _ (stands_on (returning i) x x' d h e h.eight (back_steady s i M K h.stands)) in
      let n = ap (λ (v : MarkValues). v.number) (back_values_lem s M K h.stands.truth_values i) in
      record {
        left = b.left ∙ ap (after_marks (marks_of_calls l)) e;
        answers = ap₂ ◌∷◌ (ap (λ (k : ℕ). returned k []) n) (b.answers ∙ ap (returned_with_marks l) e);
        turns = λ w. b.turns _ ∙ (λ j. turns_to (marks_of_calls l) (e j) (turns_by (returning i) [] (n j) w));
        stands = b.stands;
      }

-- ---- from a beginning on

-- a run that stands, beside marks that were cleared: "none set at the beginning"
module _ (s : List ℕ) (M : Memory) (h : Stands s M) (K : Marks) (kept : length K.kept ≡ 8) where
  pub unmarked_in : marked_in s M (lent_unmark K) ≡ unmarked (run_in s M)
  unmarked_in = unmark_refines s M K ∙ ap unmarked (stood s M h)

  pub unmarked_stands : Standing s (run_in s M) (lent M (lent_unmark K)) nowhere
  unmarked_stands =
      record { stands = h; eight = record { set = refl; kept = kept }; follows = subst (λ (q : Marked). Follows (run_in s M) q nowhere) (sym unmarked_in) (unmarked_follows (run_in s M)) }

-- A beginning answered 0, the marks were cleared, and any list of calls followed, given the table that runs, refused ones included.
module _ (s : List ℕ) (p K room : ℕ) (e : (lent_begin s p K room).number ≡ 0) (before : Marks) (kept : length before.kept ≡ 8) (l : List LentMarkCall) where
  abbrev F : List ℕ
  F = filled_out s K

  abbrev T : Table
  T = table_of F

  abbrev start : Lent
  start = lent (lent_begin s p K room).memory (lent_unmark before)

  abbrev r : Run
  r = run_in F (lent_begin s p K room).memory

  pub begun_refines : RefinesMarks F start l
  begun_refines = let h = begun_stands s p K room e in refines_marks F r h.steady l start nowhere (unmarked_stands F (lent_begin s p K room).memory h before kept)

  holds : (P : Run → List ℕ → Type 0) → P (after_marks (marks_of_calls l) (unmarked r)).run (row_of_marks (marks_of_calls l) r)
      → P (run_in F (lent_marks_after F l start).memory) (lent_turns_to F l start nowhere).here
  holds P g =
      let b = begun_refines in
      let u = unmarked_in F (lent_begin s p K room).memory (begun_stands s p K room e) before kept in
      let run : run_in F (lent_marks_after F l start).memory ≡ (after_marks (marks_of_calls l) (unmarked r)).run =
      sym (stood F (lent_marks_after F l start).memory b.stands) ∙ ap (λ (q : Marked). q.run) (b.left ∙ ap (after_marks (marks_of_calls l)) u) in
      let row : (lent_turns_to F l start nowhere).here ≡ row_of_marks (marks_of_calls l) r =
      ap (λ (w : Led ℕ). w.here) (b.turns nowhere ∙ ap (λ (q : Marked). turns_to (marks_of_calls l) q nowhere) u) ∙ turns_led_to r (marks_of_calls l) in
      subst (λ (q : Run). P q (lent_turns_to F l start nowhere).here) (sym run) (subst (P (after_marks (marks_of_calls l) (unmarked r)).run) (sym row) g)

  -- "After going back, the memory and thread limits and N8's count concern the turns that led to the mark and those since."
  pub lent_marked_limit : (most : ℕ) → 1 ≤ most → MemoryLimit T p K most (run_in F (lent_marks_after F l start).memory) (lent_turns_to F l start nowhere).here
  lent_marked_limit most g = holds (MemoryLimit T p K most) (marked_limit s p K r (begun_there s p K room e) (marks_of_calls l) most g)

  pub lent_marked_threads : (most : ℕ) → 1 ≤ most → ThreadLimit T p K most (run_in F (lent_marks_after F l start).memory) (lent_turns_to F l start nowhere).here
  lent_marked_threads most g = holds (ThreadLimit T p K most) (marked_threads s p K r (begun_there s p K room e) (marks_of_calls l) most g)

  pub lent_marked_turns : not_idle (replies T K (start_state T) (lent_turns_to F l start nowhere).here) ≤ turns_of T
  lent_marked_turns = holds (λ (q : Run) (row : List ℕ). not_idle (replies T K (start_state T) row) ≤ turns_of T) (marked_turns s p K r (begun_there s p K room e) (marks_of_calls l))

  pub lent_marked_peak : PeakLimit T p K (run_in F (lent_marks_after F l start).memory) (lent_turns_to F l start nowhere).here
  lent_marked_peak = holds (PeakLimit T p K) (marked_peak s p K r (begun_there s p K room e) (marks_of_calls l))

  pub lent_marked_useful : (most : ℕ) → UsefulLimit T p K most (run_in F (lent_marks_after F l start).memory) (lent_turns_to F l start nowhere).here
  lent_marked_useful most = holds (UsefulLimit T p K most) (marked_useful s p K r (begun_there s p K room e) (marks_of_calls l) most)

  pub lent_marked_every_order : EveryOrder T p K (run_in F (lent_marks_after F l start).memory) (lent_turns_to F l start nowhere).here
  lent_marked_every_order = holds (EveryOrder T p K) (marked_every_order s p K r (begun_there s p K room e) (marks_of_calls l))
