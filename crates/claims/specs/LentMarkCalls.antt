-- Lists of calls on a run in lent memory with marks beside it (N11): what they leave and return, and the turns that led there.
use Rattle.std.specs.Prelude.{ℕ, List, [], ◌∷◌, ◌++◌}
use Rattle.table.specs.Sum.{pick}
use Rattle.schedule.specs.Turn.{unsound}
use Rattle.schedule.specs.Calls.{answer_of}
use Rattle.run_memory.specs.Memory.{Memory}
use Rattle.marks.specs.Marks.{Marked, set_values, back_values, MarkCall, after_mark, Led, led, turns_by}
use Rattle.marks.specs.Marks.{moving as on_run}
use Rattle.marks.specs.Marks.{setting as marking}
use Rattle.marks.specs.Marks.{going as returning}
use Rattle.wivakkol_marks.specs.LentMarks.{Marks, lent_mark, lent_back}
use Rattle.claims.specs.LentCalls.{LentCall, moving, opening, Returned, returned, lent_call, lent_row_of}
use Rattle.claims.specs.Answers.{in_numbers}

-- ---- calls

-- the calls that move the run or open it, which are not lent the marks; and those on marks
pub data LentMarkCall : Type 0 where
  running : LentCall → LentMarkCall
  setting : ℕ → LentMarkCall
  going : ℕ → LentMarkCall

-- what is lent
pub record Lent : Type 0 where
  pub memory : Memory
  pub marks : Marks

abbrev pub lent : Memory → Marks → Lent
lent M K = record { memory = M; marks = K }

unfoldable pub lent_mark_after : List ℕ → LentMarkCall → Lent → Lent
lent_mark_after s (running c) x = lent (lent_call s c x.memory).memory x.marks
lent_mark_after s (setting i) x = lent x.memory (lent_mark s i x.memory x.marks).marks
lent_mark_after s (going i) x = lent (lent_back s i x.memory x.marks).memory x.marks

-- what C gets of it; a call on marks fills no row
abbrev pub lent_mark_returned : List ℕ → LentMarkCall → Lent → Returned
lent_mark_returned s (running c) x = returned (lent_call s c x.memory).number (lent_call s c x.memory).row
lent_mark_returned s (setting i) x = returned (lent_mark s i x.memory x.marks).number []
lent_mark_returned s (going i) x = returned (lent_back s i x.memory x.marks).number []

-- the workers whose turns it took
abbrev pub lent_mark_row : List ℕ → LentMarkCall → Lent → List ℕ
lent_mark_row s (running c) x = lent_row_of c x.memory (lent_call s c x.memory)
lent_mark_row s (setting i) x = []
lent_mark_row s (going i) x = []

-- the turns that led there, after a call that took these turns and to which this number was returned
abbrev pub lent_turns_by : LentMarkCall → List ℕ → ℕ → Led ℕ → Led ℕ
lent_turns_by (running c) row number w = led (w.here ++ row) w.marks
lent_turns_by (setting i) row number w = turns_by (marking i) row number w
lent_turns_by (going i) row number w = turns_by (returning i) row number w

-- a whole list of calls, refused ones included
unfoldable pub lent_marks_after : List ℕ → List LentMarkCall → Lent → Lent
lent_marks_after s [] x = x
lent_marks_after s (c ∷ l) x = lent_marks_after s l (lent_mark_after s c x)

unfoldable pub lent_marks_returned : List ℕ → List LentMarkCall → Lent → List Returned
lent_marks_returned s [] x = []
lent_marks_returned s (c ∷ l) x = lent_mark_returned s c x ∷ lent_marks_returned s l (lent_mark_after s c x)

unfoldable pub lent_turns_to : List ℕ → List LentMarkCall → Lent → Led ℕ → Led ℕ
lent_turns_to s [] x w = w
lent_turns_to s (c ∷ l) x w = lent_turns_to s l (lent_mark_after s c x) (lent_turns_by c (lent_mark_row s c x) (lent_mark_returned s c x).number w)

-- ---- the same on the record and its marks

-- those that are more than an opening
unfoldable pub marks_of_calls : List LentMarkCall → List MarkCall
marks_of_calls [] = []
marks_of_calls (running (moving c) ∷ l) = on_run c ∷ marks_of_calls l
marks_of_calls (running opening ∷ l) = marks_of_calls l
marks_of_calls (setting i ∷ l) = marking i ∷ marks_of_calls l
marks_of_calls (going i ∷ l) = returning i ∷ marks_of_calls l

unfoldable pub returned_with_marks : List LentMarkCall → Marked → List Returned
returned_with_marks [] m = []
returned_with_marks (running (moving c) ∷ l) m = in_numbers (answer_of c m.run) ∷ returned_with_marks l (after_mark (on_run c) m)
returned_with_marks (running opening ∷ l) m = returned (pick (unsound m.run) 32 0) (0 ∷ []) ∷ returned_with_marks l m
returned_with_marks (setting i ∷ l) m = returned (set_values m i).number [] ∷ returned_with_marks l (after_mark (marking i) m)
returned_with_marks (going i ∷ l) m = returned (back_values m i).number [] ∷ returned_with_marks l (after_mark (returning i) m)
