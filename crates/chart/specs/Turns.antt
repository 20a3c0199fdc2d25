-- The chart of a run over an order (change request N5): a line for the record as it stands, and one for the record after each turn.
use Rattle.std.specs.Prelude.{ℕ, List, [], ◌∷◌, ◌++◌, Err, Ok, Result, ⊤}
use Rattle.schedule.specs.declared.Taken.{Taken}
use Rattle.table.specs.declared.Refusal.{Refusal}
use Rattle.table.specs.Sum.{pick}
use Rattle.text.specs.Text.{refused_line}
use Rattle.schedule.specs.declared.Run.{Run}
use Rattle.schedule.specs.declared.Turned.{Turned}
use Rattle.schedule.specs.Turn.{root_ended, turned}
use Rattle.chart.specs.Chart.{figures, line_texts, charted}

-- a record's line, and what comes after it; its refusal is the last line
abbrev pub line_then : Result ⊤ Refusal → Run → List (List ℕ) → List (List ℕ)
line_then (Ok _) r rest = line_texts (figures r) ++ rest
line_then (Err x) r rest = refused_line x ∷ []

-- what comes after a turn; its refusal is the last line
abbrev pub turn_then : Result Taken Refusal → List (List ℕ) → List (List ℕ)
turn_then (Ok t) rest = rest
turn_then (Err x) rest = refused_line x ∷ []

-- the lines after each turn of an order's workers, up to the root's end, the order's end or a refusal
abbrev pub later_lines : (Run → Result ⊤ Refusal) → (Run → ℕ → Turned) → Run → List ℕ → List (List ℕ)
later_lines line turn r [] = []
later_lines line turn r (w ∷ order) =
    pick (root_ended r) []
    (turn_then (turn r w).answer (line_then (line (turn r w).run) (turn r w).run (later_lines line turn (turn r w).run order)))

-- a line for the record as it stands before them
abbrev pub chart_by : (Run → Result ⊤ Refusal) → (Run → ℕ → Turned) → Run → List ℕ → List (List ℕ)
chart_by line turn r order = line_then (line r) r (later_lines line turn r order)

-- on any record whatever: each line, or what stands for it, is what the call on that record gives (32, 43), each turn a single turn (30; it stops at the root's end, so that 31 is not met)
unfoldable pub chart_turns : Run → List ℕ → List (List ℕ)
chart_turns r order = chart_by charted turned r order
