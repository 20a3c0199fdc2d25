-- The calls from C with marks among them (N11). A history is a list of calls, each on the memory and the marks that the last one left, of which nothing is known but what the functions'
-- own promises say (LentSays, MarkSays). `lent_mark_history_is`: what they leave, what was returned and the turns that led there are those of the definitions. `lent_mark_history_exists`,
-- `begun_mark_history_exists`: every list of calls has one. `begun_marks_refine`: from a beginning that answered 0 it is those calls on the record and its marks, answers included.
-- `lent_code_marked_limit`, `-threads` and `-turns`: and so the limits hold.
use mathlib.Core.Path.{◌≡◌, refl, sym, ap, ap₂, subst, ◌∙◌}
use Prim.Native.Nat.{ℕ, ◌≤◌}
use mathlib.Core.List.{List, [], ◌∷◌}
use lib.ListN.{length, replicate}
use Rattle.table.specs.Format.{Table, table_of}
use Rattle.order.specs.Turns.{turns_of}
use Rattle.filling.specs.Filled.{filled_out}
use Rattle.schedule.specs.declared.Run.{Run}
use Rattle.schedule.specs.declared.Begun.{Begun}
use Rattle.schedule.specs.Begin.{begin, start_state}
use Rattle.schedule.specs.Memory.{replies}
use Rattle.schedule.specs.Most.{not_idle}
use Rattle.bounds.proofs.Limit.{MemoryLimit}
use Rattle.bounds.proofs.ThreadLimit.{ThreadLimit}
use Rattle.bounds.proofs.PeakLimit.{PeakLimit, UsefulLimit}
use Rattle.sharp.proofs.QuotaLimit.{EveryOrder}
use Rattle.run_memory.specs.Memory.{Memory, Answer}
use Rattle.run_memory.specs.Stands.{run_in}
use Rattle.soundness.specs.Tested.{begun_into}
use Rattle.wivakkol.specs.Lent.{lent_begin}
use Rattle.marks.specs.Marks.{unmarked, after_marks, Led, nowhere}
use Rattle.wivakkol_marks.specs.LentMarks.{Marks, marks_of, lent_unmark}
use Rattle.wivakkol_marks.specs.LentMarks.{Setting, Going}
use Rattle.wivakkol_marks.specs.MarkedIn.{marked_in}
use Rattle.wivakkol_marks.proofs.MarkRefines.{kept_size}
use Rattle.claims.specs.LentCalls.{LentCall, table_that_runs, Returned, returned, lent_row_of}
use Rattle.claims.specs.LentMarkCalls.{LentMarkCall, running, setting, going, Lent, lent, lent_mark_after, lent_mark_returned, lent_mark_row, lent_turns_by, lent_marks_after, lent_marks_returned, lent_turns_to, marks_of_calls, returned_with_marks}
use Rattle.claims.proofs.LentSays.{BeginSays, begin_is, begin_says}
use Rattle.claims.proofs.MarkSays.{MarkSays, BackSays, UnmarkSays, mark_is, back_is, unmark_is, mark_says, back_says, unmark_says}
use Rattle.claims.proofs.LentLimit.{begun_stands, begun_there}
use Rattle.claims.proofs.FromC.{LentCalled, call_is, called, runs_so}
use Rattle.claims.proofs.Shaped.{Shaped}
use Rattle.claims.proofs.Sizes.{begin_shaped, call_shaped}
use Rattle.claims.proofs.MarksShaped.{MarksShaped, blocks_marks_shaped}
use Rattle.claims.proofs.MarkSizes.{mark_shaped, back_shaped}
use Rattle.claims.proofs.LentMarked.{unmarked_in, begun_refines, lent_marked_limit, lent_marked_threads, lent_marked_turns, lent_marked_peak, lent_marked_useful, lent_marked_every_order}

-- ---- a history

-- one call on what is lent: what it returned, the workers whose turns it took, as its answer has it, and what it leaves
pub data LentMarkCalled (s : List ℕ) (x : Lent) : LentMarkCall → Returned → List ℕ → Lent → Type 0 where
  by_call : {c : LentCall} {a : Answer} → LentCalled s x.memory c a → LentMarkCalled s x (running c) (returned a.number a.row) (lent_row_of c x.memory a) (lent a.memory x.marks)
  by_mark : {i number : ℕ} {K : Marks} → MarkSays s i x.memory x.marks number K → LentMarkCalled s x (setting i) (returned number []) [] (lent x.memory K)
  by_back : {i number : ℕ} {M : Memory} → BackSays s i x.memory x.marks number M → LentMarkCalled s x (going i) (returned number []) [] (lent M x.marks)

-- it is the definition's
record DefinedCall (s : List ℕ) (x : Lent) (c : LentMarkCall) (a : Returned) (row : List ℕ) (x' : Lent) : Type 0 where
  left_is : x' ≡ lent_mark_after s c x
  answer_is : a ≡ lent_mark_returned s c x
  row_is : row ≡ lent_mark_row s c x

mark_call_is : {s : List ℕ} {x : Lent} {c : LentMarkCall} {a : Returned} {row : List ℕ} {x' : Lent} → LentMarkCalled s x c a row x' → DefinedCall s x c a row x'
unfolding lent_mark_after
mark_call_is {s} {x} (by_call {c} h) =
    let e = call_is h in
    record {
      left_is = ap (λ (a : Answer). lent a.memory x.marks) e;
      answer_is = ap (λ (a : Answer). returned a.number a.row) e;
      row_is = ap (lent_row_of c x.memory) e;
    }
mark_call_is {s} {x} (by_mark h) =
    let e = mark_is h in
    record { left_is = ap (λ (a : Setting). lent x.memory a.marks) e; answer_is = ap (λ (a : Setting). returned a.number []) e; row_is = refl }
mark_call_is {s} {x} (by_back h) =
    let e = back_is h in
    record { left_is = ap (λ (a : Going). lent a.memory x.marks) e; answer_is = ap (λ (a : Going). returned a.number []) e; row_is = refl }

-- calls one after the other: what they returned, the turns that led to the run and to its marks, as the answers have it, and what they leave
pub data LentMarkHistory (s : List ℕ) : Lent → Led ℕ → List LentMarkCall → List Returned → Lent → Led ℕ → Type 0 where
  none : {x : Lent} {w : Led ℕ} → LentMarkHistory s x w [] [] x w
  next : {x x' x'' : Lent} {w w' : Led ℕ} {c : LentMarkCall} {a : Returned} {row : List ℕ} {l : List LentMarkCall} {answers : List Returned} → LentMarkCalled s x c a row x'
      → LentMarkHistory s x' (lent_turns_by c row a.number w) l answers x'' w' → LentMarkHistory s x w (c ∷ l) (a ∷ answers) x'' w'

pub record LentMarkDefined (s : List ℕ) (x : Lent) (w : Led ℕ) (l : List LentMarkCall) (answers : List Returned) (x' : Lent) (w' : Led ℕ) : Type 0 where
  pub left_is : x' ≡ lent_marks_after s l x
  pub answers_are : answers ≡ lent_marks_returned s l x
  pub turns_are : w' ≡ lent_turns_to s l x w

pub lent_mark_history_is : {s : List ℕ} {x : Lent} {w : Led ℕ} {l : List LentMarkCall} {answers : List Returned} {x' : Lent} {w' : Led ℕ} → LentMarkHistory s x w l answers x' w'
    → LentMarkDefined s x w l answers x' w'
unfolding lent_marks_after lent_marks_returned lent_turns_to
lent_mark_history_is none = record { left_is = refl; answers_are = refl; turns_are = refl }
lent_mark_history_is {s} (next {x} {x'} {x''} {w} {w'} {c} {a} {row} {l} {answers} h t) =
    let d = mark_call_is h in
    let b = lent_mark_history_is t in
    record {
      left_is = b.left_is ∙ ap (lent_marks_after s l) d.left_is;
      answers_are = ap₂ ◌∷◌ d.answer_is (b.answers_are ∙ ap (lent_marks_returned s l) d.left_is);
      turns_are = b.turns_are ∙ (λ i. lent_turns_to s l (d.left_is i) (lent_turns_by c (d.row_is i) (d.answer_is i).number w));
    }

-- ---- every list of calls has a history

mark_called : (s : List ℕ) (x : Lent) → Shaped x.memory → MarksShaped x.marks → (c : LentMarkCall) → LentMarkCalled s x c (lent_mark_returned s c x) (lent_mark_row s c x) (lent_mark_after s c x)
unfolding lent_mark_after
mark_called s x h k (running c) = by_call (called s x.memory c h (call_shaped s c x.memory h))
mark_called s x h k (setting i) = by_mark (mark_says s i x.memory x.marks h k (mark_shaped s i x.memory x.marks h k))
mark_called s x h k (going i) = by_back (back_says s i x.memory x.marks h k (back_shaped s i x.memory x.marks h k))

after_shaped : (s : List ℕ) (x : Lent) → Shaped x.memory → MarksShaped x.marks → (c : LentMarkCall) → Shaped (lent_mark_after s c x).memory × MarksShaped (lent_mark_after s c x).marks
unfolding lent_mark_after
after_shaped s x h k (running c) = (call_shaped s c x.memory h, k)
after_shaped s x h k (setting i) = (h, mark_shaped s i x.memory x.marks h k)
after_shaped s x h k (going i) = (back_shaped s i x.memory x.marks h k, k)

-- the definitions' own
pub lent_mark_history_exists : (s : List ℕ) (x : Lent) → Shaped x.memory → MarksShaped x.marks → (w : Led ℕ) (l : List LentMarkCall)
    → LentMarkHistory s x w l (lent_marks_returned s l x) (lent_marks_after s l x) (lent_turns_to s l x w)
unfolding lent_marks_after lent_marks_returned lent_turns_to
lent_mark_history_exists s x h k w [] = none
lent_mark_history_exists s x h k w (c ∷ l) =
    let (a, b) = after_shaped s x h k c in
    next (mark_called s x h k c) (lent_mark_history_exists s (lent_mark_after s c x) a b (lent_turns_by c (lent_mark_row s c x) (lent_mark_returned s c x).number w) l)

-- From any beginning on, refused or not, given any table u, with any blocks for the marks, cleared: every list of calls from C, those on marks among them, has a history of which nothing
-- is said but what the functions promise. So what `lent_code_marked_limit`, `-threads`, `-turns`, `-peak` and `-useful` say of all such histories is said of something.
pub record MarksBegun (s : List ℕ) (p K : ℕ) (out u b w n z : List ℕ) (l : List LentMarkCall) : Type 0 where
  pub begins : BeginSays s p K out (lent_begin s p K (length out)) (begun_into s p K out)
  pub clears : UnmarkSays (marks_of (replicate 8 0) b w n z)
  pub history :
      let x : Lent = lent (lent_begin s p K (length out)).memory (marks_of (replicate 8 0) b w n z) in
      LentMarkHistory u x nowhere l (lent_marks_returned u l x) (lent_marks_after u l x) (lent_turns_to u l x nowhere)

pub begun_mark_history_exists : (s : List ℕ) (p K : ℕ) (out u flags b w n z : List ℕ) → length b ≡ 8320 → length w ≡ 49304 → length n ≡ 144 → length z ≡ 8216 → (l : List LentMarkCall)
    → MarksBegun s p K out u b w n z l
begun_mark_history_exists s p K out u flags b w n z hb hw hn hz l =
    record {
      begins = begin_says s p K out;
      clears = unmark_says flags b w n z;
      history =
          lent_mark_history_exists u (lent (lent_begin s p K (length out)).memory (marks_of (replicate 8 0) b w n z)) (begin_shaped s p K (length out))
          (blocks_marks_shaped b w n z hb hw hn hz) nowhere l;
    }

-- ---- from a beginning on

-- A history from record r on, with no mark set: the run with its marks that stands in what is left, and what was returned to every call, are those of the calls on the record and its marks.
pub record CodeRefinesMarks (s : List ℕ) (r : Run) (l : List LentMarkCall) (answers : List Returned) (x : Lent) : Type 0 where
  pub left : marked_in s x.memory x.marks ≡ after_marks (marks_of_calls l) (unmarked r)
  pub answers_are : answers ≡ returned_with_marks l (unmarked r)

-- `wivakkol_begin_on` answered 0, the marks were cleared ("none set at the beginning"), and the calls of any history followed, given the table that runs.
module _ {s : List ℕ} {p K : ℕ} {out filled : List ℕ} {a : Answer} (h : BeginSays s p K out a filled) (e : a.number ≡ 0) {marks : Marks} (u : UnmarkSays marks) {l : List LentMarkCall}
    {answers : List Returned} {x : Lent} {w : Led ℕ} (t : LentMarkHistory (table_that_runs s a filled) (lent a.memory marks) nowhere l answers x w) where
  abbrev F : List ℕ
  F = filled_out s K

  abbrev T : Table
  T = table_of F

  begun : (lent_begin s p K (length out)).number ≡ 0
  begun = ap (λ (y : Answer). y.number) (sym (begin_is h)) ∙ e

  -- what stood in the marks' blocks
  abbrev before : Marks
  before = marks_of u.set.now u.bytes u.words u.numbers u.sums

  abbrev start : Lent
  start = lent (lent_begin s p K (length out)).memory (lent_unmark before)

  kept : length before.kept ≡ 8
  kept = kept_size u.set.now u.bytes u.words u.numbers u.sums

  -- the history is the definitions', with the filled-out table
  is : LentMarkDefined F start nowhere l answers x w
  is =
      lent_mark_history_is
      (subst (λ (y : Lent). LentMarkHistory F y nowhere l answers x w) (λ i. lent (begin_is h i).memory (unmark_is u i))
      (subst (λ (y : List ℕ). LentMarkHistory y (lent a.memory marks) nowhere l answers x w) (runs_so h e) t))

  as_run : (P : List ℕ → Type 0) → P F → P (table_that_runs s a filled)
  as_run P = subst P (sym (runs_so h e))

  -- it is those calls on the record of document 01's beginning
  pub begun_marks_refine : CodeRefinesMarks (table_that_runs s a filled) (begin s p K).run l answers x
  begun_marks_refine =
      let b = begun_refines s p K (length out) begun before kept l in
      let r : run_in F start.memory ≡ (begin s p K).run = ap (λ (y : Begun). y.run) (sym (begun_there s p K (length out) begun)) in
      let z : marked_in F start.memory start.marks ≡ unmarked (begin s p K).run =
      unmarked_in F start.memory (begun_stands s p K (length out) begun) before kept ∙ ap unmarked r in
      as_run (λ (y : List ℕ). CodeRefinesMarks y (begin s p K).run l answers x)
      (record {
        left = ap (λ (y : Lent). marked_in F y.memory y.marks) is.left_is ∙ b.left ∙ ap (after_marks (marks_of_calls l)) z;
        answers_are = is.answers_are ∙ b.answers ∙ ap (returned_with_marks l) z;
      })

  holds : (P : Run → List ℕ → Type 0) → P (run_in F (lent_marks_after F l start).memory) (lent_turns_to F l start nowhere).here → P (run_in (table_that_runs s a filled) x.memory) w.here
  holds P g =
      as_run (λ (y : List ℕ). P (run_in y x.memory) w.here)
      (subst (λ (y : Lent). P (run_in F y.memory) w.here) (sym is.left_is)
      (subst (λ (y : Led ℕ). P (run_in F (lent_marks_after F l start).memory) y.here) (sym is.turns_are) g))

  -- "After going back, the memory and thread limits and N8's count concern the turns that led to the mark and those since": of the record that stands in the memory left and of those turns
  pub lent_code_marked_limit : (most : ℕ) → 1 ≤ most → MemoryLimit T p K most (run_in (table_that_runs s a filled) x.memory) w.here
  lent_code_marked_limit most g = holds (MemoryLimit T p K most) (lent_marked_limit s p K (length out) begun before kept l most g)

  pub lent_code_marked_threads : (most : ℕ) → 1 ≤ most → ThreadLimit T p K most (run_in (table_that_runs s a filled) x.memory) w.here
  lent_code_marked_threads most g = holds (ThreadLimit T p K most) (lent_marked_threads s p K (length out) begun before kept l most g)

  pub lent_code_marked_turns : not_idle (replies T K (start_state T) w.here) ≤ turns_of T
  lent_code_marked_turns =
      subst (λ (y : Led ℕ). not_idle (replies T K (start_state T) y.here) ≤ turns_of T) (sym is.turns_are) (lent_marked_turns s p K (length out) begun before kept l)

  pub lent_code_marked_peak : PeakLimit T p K (run_in (table_that_runs s a filled) x.memory) w.here
  lent_code_marked_peak = holds (PeakLimit T p K) (lent_marked_peak s p K (length out) begun before kept l)

  pub lent_code_marked_useful : (most : ℕ) → UsefulLimit T p K most (run_in (table_that_runs s a filled) x.memory) w.here
  lent_code_marked_useful most = holds (UsefulLimit T p K most) (lent_marked_useful s p K (length out) begun before kept l most)

  pub lent_code_marked_every_order : EveryOrder T p K (run_in (table_that_runs s a filled) x.memory) w.here
  lent_code_marked_every_order = holds (EveryOrder T p K) (lent_marked_every_order s p K (length out) begun before kept l)
