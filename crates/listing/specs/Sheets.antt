-- What is put of the turns of an order: the lines of a listing, or those of a chart.
use Rattle.std.specs.Prelude.{◌≡◌, ℕ, ◌≤◌, List, [], Bool, true, length, get_or}
use Rattle.table.specs.Sum.{pick}
use Rattle.table.specs.Format.{Table, kind}
use Rattle.schedule.specs.declared.Run.{Run}
use Rattle.schedule.specs.declared.Reply.{Reply}
use Rattle.schedule.specs.Machine.{ended}
use Rattle.schedule.specs.Turn.{root_ended, turned}
use Rattle.schedule.specs.Listing.{Line, Last, line, told_with, action_in, thread_in, turns_by}
use Rattle.lines.specs.Lines.{turn_texts, last_texts, texts_of}
use Rattle.chart.specs.Chart.{Figures, figures_of, line_texts, line_text, most_turns, charted}
use Rattle.chart.specs.Turns.{later_lines}
use Rattle.run_memory.specs.Memory.{Memory, moved_in}
use Rattle.run_memory.specs.Stands.{workers_in, Stands}
use Rattle.run_memory.specs.Blocks.{Words, Sums}

-- the texts of the turns; a chart's first line stands before them
unfoldable pub turns_texts : Bool → Run → List ℕ → List (List ℕ)
turns_texts chart r order = pick chart (later_lines charted turned r order) (texts_of (turns_by root_ended turned r order))

-- as long as a line may be
abbrev pub widest : Bool → ℕ
widest chart = pick chart 85 64

-- the line of a turn of worker w that left these words and sums, and a chart's line of the memory
abbrev pub line_in : Table → ℕ → Reply → Words → Sums → Line
line_in T w reply W S = line S.turns w (told_with reply (kind T (action_in reply)) (get_or (W.rows 1) (thread_in reply) 0)) S.held

abbrev pub figures_in : ℕ → Memory → Figures
figures_in p M = figures_of (moved_in M).turns p (workers_in M) (moved_in M).totals.held

-- what is put after a turn, and as long as it may be by the types of its numbers: a chart's line is as long as it is
abbrev pub after_texts : Bool → Figures → Line → List (List ℕ)
after_texts chart x l = pick chart (line_texts x) (turn_texts l)

abbrev pub after_size : Bool → Figures → ℕ
after_size chart x = pick chart (length (line_text x)) 64

-- the last line; a chart has none
abbrev pub over_texts : Bool → Last → List (List ℕ)
over_texts chart x = pick chart [] (last_texts x)

-- what the loop over the order keeps: the record stands in the memory beside its table, with p workers, and its root has not ended; a chart has a line for its turns taken
pub record Drawn (chart : Bool) (s : List ℕ) (p : ℕ) (M : Memory) : Type 0 where
  pub stands : Stands s M
  pub going : get_or M.arrays.status 0 0 ≡ ended → ⊥
  pub workers : p ≡ get_or M.settings 0 0
  pub room : chart ≡ true → (moved_in M).turns ≤ most_turns
