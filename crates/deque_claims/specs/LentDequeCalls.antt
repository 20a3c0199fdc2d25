-- Lists of calls of DFDeques on a run in lent memory: the memory that they leave, what they return, and the row of the pairs whose turns were taken; and the same from the definitions on the
-- record.
use Rattle.std.specs.Prelude.{ℕ, List, [], ◌∷◌, ◌++◌, eqb, get_or, Result}
use Rattle.schedule.specs.declared.Reply.{Reply}
use Rattle.table.specs.declared.Refusal.{Refusal}
use Rattle.table.specs.Sum.{pick}
use Rattle.schedule.specs.declared.Report.{Report}
use Rattle.schedule.specs.Answers.{report_values}
use Rattle.run_memory.specs.Memory.{Memory, said_code, Answer}
use Rattle.run_memory.specs.Stands.{values_row}
use Rattle.deques.specs.declared.DequeRun.{DequeRun}
use Rattle.deques.specs.DequeTurn.{unsound_deques, deque_turned}
use Rattle.deques.specs.DequeRuns.{Pair, pair, pair_at, pairs_run}
use Rattle.deques.specs.DequeValues.{deque_turning_values}
use Rattle.deques.specs.DequeCalls.{DequeCall, turn, over_pairs, pairs_from, after_deque_call}
use Rattle.claims.specs.LentCalls.{Returned, returned}
use Rattle.wivakkol_deques.specs.DequeLent.{lent_deque_turn, lent_deque_list, lent_deque_open}

-- two calls move a record on; opening a run, as after a pause, takes no turn
pub data LentDequeCall : Type 0 where
  moving : DequeCall → LentDequeCall
  opening : LentDequeCall

-- ---- in lent memory

-- what a call answers
unfoldable pub lent_deque_move : List ℕ → DequeCall → Memory → Answer
lent_deque_move s (turn w c) M = lent_deque_turn s w c M
lent_deque_move s (over_pairs l) M = lent_deque_list s l M

unfoldable pub lent_deque_call : List ℕ → LentDequeCall → Memory → Answer
lent_deque_call s (moving c) M = lent_deque_move s c M
lent_deque_call s opening M = lent_deque_open s M

-- the pairs whose turns it took: of a single turn, its pair; of a run over a list, as many from the front as it reports
unfoldable pub lent_pairs_of : LentDequeCall → Answer → List Pair
lent_pairs_of (moving (turn w c)) a = pick (eqb a.number 0) (pair w c ∷ []) []
lent_pairs_of (moving (over_pairs l)) a = pairs_from (pair_at l) 0 (get_or a.row 2 0)
lent_pairs_of opening a = []

-- a whole list of calls, refused ones included
unfoldable pub lent_deques_after : List ℕ → List LentDequeCall → Memory → Memory
lent_deques_after s [] M = M
lent_deques_after s (c ∷ l) M = lent_deques_after s l (lent_deque_call s c M).memory

unfoldable pub lent_pairs : List ℕ → List LentDequeCall → Memory → List Pair
lent_pairs s [] M = []
lent_pairs s (c ∷ l) M = lent_pairs_of c (lent_deque_call s c M) ++ lent_pairs s l (lent_deque_call s c M).memory

unfoldable pub lent_deques_returned : List ℕ → List LentDequeCall → Memory → List Returned
lent_deques_returned s [] M = []
lent_deques_returned s (c ∷ l) M = returned (lent_deque_call s c M).number (lent_deque_call s c M).row ∷ lent_deques_returned s l (lent_deque_call s c M).memory

-- ---- on the record

-- those that move the run
unfoldable pub deque_moves_of : List LentDequeCall → List DequeCall
deque_moves_of [] = []
deque_moves_of (moving c ∷ l) = c ∷ deque_moves_of l
deque_moves_of (opening ∷ l) = deque_moves_of l

-- an answer's number and values, as C gets them
abbrev pub turning_numbers : Result Reply Refusal → Returned
turning_numbers x = let v = deque_turning_values x in returned v.number (values_row v)

abbrev pub report_numbers : Report → Returned
report_numbers x = let v = report_values x in returned v.number (v.place ∷ said_code v.said ∷ v.turns ∷ [])

abbrev pub deque_returned_of : DequeCall → DequeRun → Returned
deque_returned_of (turn w c) r = turning_numbers (deque_turned r w c).answer
deque_returned_of (over_pairs l) r = report_numbers (pairs_run r l).report

-- what is returned to calls and openings on the record: opening gives check 32, and takes no turn
unfoldable pub deques_returned_by : List LentDequeCall → DequeRun → List Returned
deques_returned_by [] r = []
deques_returned_by (moving c ∷ l) r = deque_returned_of c r ∷ deques_returned_by l (after_deque_call c r)
deques_returned_by (opening ∷ l) r = returned (pick (unsound_deques r) 32 0) (0 ∷ []) ∷ deques_returned_by l r
