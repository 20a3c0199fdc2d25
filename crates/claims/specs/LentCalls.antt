-- Lists of calls on a run in lent memory: the memory that they leave, what they return, and the row of the turns taken (document 01, "What demand 3 ranges over").
use Rattle.std.specs.Prelude.{ℕ, ◌%◌, List, [], ◌∷◌, ◌++◌, eqb, get_or, take}
use Rattle.table.specs.Sum.{pick}
use Rattle.order.specs.Firsts.{firsts}
use Rattle.schedule.specs.Calls.{Call, turn, over_list, in_rounds}
use Rattle.run_memory.specs.Memory.{Memory, Answer, lent_turn}
use Rattle.wivakkol.specs.Lent.{lent_list, lent_rounds}
use Rattle.wivakkol.specs.Opened.{lent_open}

-- "Three calls move a run record on"; opening a run, as after a pause, takes no turn
pub data LentCall : Type 0 where
  moving : Call → LentCall
  opening : LentCall

-- what a call answers
unfoldable pub lent_move : List ℕ → Call → Memory → Answer
lent_move s (turn w) M = lent_turn s w M
lent_move s (over_list l) M = lent_list s l M
lent_move s (in_rounds limit) M = lent_rounds s limit M

unfoldable pub lent_call : List ℕ → LentCall → Memory → Answer
lent_call s (moving c) M = lent_move s c M
lent_call s opening M = lent_open s M

-- The table that every call after a beginning is given, from its answer and what the buffer then holds: as given where the row names no bytes, else so many from the buffer's front
-- ("Replies, records .. name the filled-out table", N6).
unfoldable pub table_that_runs : List ℕ → Answer → List ℕ → List ℕ
table_that_runs s a filled = pick (eqb (get_or a.row 1 0) 0) s (take (get_or a.row 1 0) filled)

-- what C gets of it: the number returned, 0 where nothing is refused, and the row filled
pub record Returned : Type 0 where
  pub number : ℕ
  pub row : List ℕ

abbrev pub returned : ℕ → List ℕ → Returned
returned number row = record { number = number; row = row }

-- the workers whose turns it took: "of a single turn, its worker; of a run over a list, as many from the front as it reports; of a run in rounds, as many of 0 to p − 1, again and again, as it
-- reports"
unfoldable pub lent_row_of : LentCall → Memory → Answer → List ℕ
lent_row_of (moving (turn w)) M a = pick (eqb a.number 0) (w ∷ []) []
lent_row_of (moving (over_list l)) M a = take (get_or a.row 2 0) l
lent_row_of (moving (in_rounds limit)) M a = firsts (λ i. i % (get_or M.settings 0 0)) 0 (get_or a.row 2 0)
lent_row_of opening M a = []

-- a whole list of calls, refused ones included
unfoldable pub lent_after : List ℕ → List LentCall → Memory → Memory
lent_after s [] M = M
lent_after s (c ∷ l) M = lent_after s l (lent_call s c M).memory

unfoldable pub lent_row : List ℕ → List LentCall → Memory → List ℕ
lent_row s [] M = []
lent_row s (c ∷ l) M = lent_row_of c M (lent_call s c M) ++ lent_row s l (lent_call s c M).memory

unfoldable pub lent_returned : List ℕ → List LentCall → Memory → List Returned
lent_returned s [] M = []
lent_returned s (c ∷ l) M = returned (lent_call s c M).number (lent_call s c M).row ∷ lent_returned s l (lent_call s c M).memory

-- those that move the run
unfoldable pub moves_of : List LentCall → List Call
moves_of [] = []
moves_of (moving c ∷ l) = c ∷ moves_of l
moves_of (opening ∷ l) = moves_of l
