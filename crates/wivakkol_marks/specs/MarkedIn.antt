-- The run and the marks that stand in lent memory, as the records that N11 speaks of (crates/marks/specs/Marks). A mark has no table of its own: it is read with the run's.
use Rattle.std.specs.Prelude.{ℕ, List}
use Rattle.table.specs.Sum.{pick}
use Rattle.schedule.specs.declared.Run.{Run}
use Rattle.schedule.specs.Record.{blank}
use Rattle.marks.specs.Marks.{Mark, unset, kept, max_marks, Marked, marked, MarkValues}
use Rattle.run_memory.specs.Memory.{Memory}
use Rattle.run_memory.specs.Stands.{run_in}
use Rattle.wivakkol.specs.Opened.{blank_in}
use Rattle.wivakkol_marks.specs.LentMarks.{Marks, row_from, is_set_in, mark_in}

-- the record that stands in the memory beside a table; the blank one has no table
unfoldable pub record_in : List ℕ → Memory → Run
record_in s M = pick (blank_in M) blank (run_in s M)

abbrev pub mark_at : List ℕ → Marks → ℕ → Mark
mark_at s K i = pick (is_set_in K i) (kept (record_in s (mark_in K i))) unset

abbrev pub marks_in : List ℕ → Marks → List Mark
marks_in s K = row_from (mark_at s K) 0 max_marks

abbrev pub marked_in : List ℕ → Memory → Marks → Marked
marked_in s M K = marked (record_in s M) (marks_in s K)

-- a call's number, and its place, which is 0
abbrev pub numbered : ℕ → MarkValues
numbered n = record { number = n; place = 0 }
