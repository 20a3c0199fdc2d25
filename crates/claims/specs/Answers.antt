-- What the calls of a list answer (`answers_of`, crates/schedule/specs/Calls), as C gets it.
use Rattle.std.specs.Prelude.{List, [], ◌∷◌}
use Rattle.table.specs.Sum.{pick}
use Rattle.schedule.specs.declared.Run.{Run}
use Rattle.schedule.specs.Answers.{turning_values, report_values}
use Rattle.schedule.specs.Turn.{unsound}
use Rattle.schedule.specs.Calls.{Answer, turning, report, answer_of, after_call}
use Rattle.run_memory.specs.Memory.{said_code}
use Rattle.run_memory.specs.Stands.{values_row}
use Rattle.claims.specs.LentCalls.{LentCall, moving, opening, Returned, returned}

-- an answer's number and values, as C gets them
abbrev pub in_numbers : Answer → Returned
in_numbers (turning x) = returned (turning_values x).number (values_row (turning_values x))
in_numbers (report x) = let v = report_values x in returned v.number (v.place ∷ said_code v.said ∷ v.turns ∷ [])

-- what is returned to calls and openings on the record: opening gives check 32, and takes no turn
unfoldable pub returned_by : List LentCall → Run → List Returned
returned_by [] r = []
returned_by (moving c ∷ l) r = in_numbers (answer_of c r) ∷ returned_by l (after_call c r)
returned_by (opening ∷ l) r = returned (pick (unsound r) 32 0) (0 ∷ []) ∷ returned_by l r
