-- What setting a mark and going back to one answer by value, with the marks in lent memory (N11).
use Rattle.std.specs.Prelude.{ℕ, Bool, true, false, Err, Ok, Result, ⊤}
use Rattle.table.specs.declared.Refusal.{Refusal}
use Rattle.schedule.specs.declared.Run.{Run}
use Rattle.table.specs.Sum.{pick}
use Rattle.schedule.specs.Record.{bytes_of, table_in}
use Rattle.schedule.specs.Sound.{sound}
use Rattle.schedule.specs.Turn.{unsound}
use Rattle.soundness.specs.Tested.{parents_if}
use Rattle.run_memory.specs.Packing.{memory_for}
use Rattle.marks.specs.Marks.{Marked, marked, MarkValues}
use Rattle.wivakkol_marks.specs.LentMarks.{Marks, lent_mark}
use Rattle.wivakkol_marks.specs.MarkedIn.{marks_in}

-- number and place, 0 and 0 where nothing is refused
abbrev pub marking_values : Result ⊤ Refusal → MarkValues
marking_values (Ok _) = record { number = 0; place = 0 }
marking_values (Err x) = record { number = x.number; place = x.place }

-- .. and which of the two it is: done exactly where the number is 0
abbrev pub is_done : Result ⊤ Refusal → Bool
is_done (Ok _) = true
is_done (Err x) = false

-- a run, and the marks that stand in the lent memory: each is read with the run's own table
abbrev pub marked_by : Run → Marks → Marked
marked_by run K = marked run (marks_in (bytes_of run) K)

-- the lent memory after setting mark i, that of unset marks too: "Setting one stores the run as it is", with each thread's parent as the test of 32 gives it. Refused: the marks as they were
unfoldable pub marks_after : Run → ℕ → Marks → Marks
marks_after run i K = pick (unsound run) K (lent_mark (bytes_of run) i (memory_for run (parents_if (sound run) (table_in run))) K).marks
