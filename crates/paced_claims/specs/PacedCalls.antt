-- Lists of paced calls, refused ones included, and of openings, as after a pause: what they leave, and the row of the turns taken. Going back to a mark is not among them.
use Rattle.std.specs.Prelude.{ℕ, zero, suc, List, [], ◌∷◌, ◌++◌, true, false, eqb, get_or}
use Rattle.table.specs.Sum.{pick}
use Rattle.run_memory.specs.Memory.{Memory, Answer}
use Rattle.wivakkol.specs.Opened.{lent_open}
use Rattle.pace.specs.Pace.{took}
use Rattle.wivakkol_pace.specs.Paced.{Kept, kept, paced_turn}
use Rattle.wivakkol_pace.specs.PacedRuns.{paced_worker, paced_list, paced_rounds}

pub data PacedCall : Type 0 where
  by_turn : ℕ → PacedCall
  by_list : List ℕ → PacedCall
  by_rounds : ℕ → PacedCall
  by_opening : PacedCall

-- an opening leaves the pace alone: it is put away and brought back beside the run
unfoldable pub paced_call : List ℕ → PacedCall → Memory → List ℕ → Kept
paced_call s (by_turn w) M P = paced_turn s w M P
paced_call s (by_list l) M P = paced_list s l M P
paced_call s (by_rounds limit) M P = paced_rounds s limit M P
paced_call s by_opening M P = kept (lent_open s M) P

-- the workers of n turns from turn i on, each counted
unfoldable pub workers_of : (ℕ → List ℕ → ℕ) → ℕ → ℕ → List ℕ → List ℕ
workers_of who i zero P = []
workers_of who i (suc n) P = who i P ∷ workers_of who (suc i) n (took P (who i P))

-- the workers whose turns it took: of a single turn, its worker; of a run over a list, as many from the front as it reports; of a run in rounds, as many as it reports, from the worker after that
-- of the latest turn
unfoldable pub taken_by : PacedCall → List ℕ → Answer → List ℕ
taken_by (by_turn w) P a = pick (eqb a.number 0) (w ∷ []) []
taken_by (by_list l) P a = workers_of (paced_worker l false) 0 (get_or a.row 2 0) P
taken_by (by_rounds limit) P a = workers_of (paced_worker [] true) 0 (get_or a.row 2 0) P
taken_by by_opening P a = []

-- the run's memory and the pace
pub record Both : Type 0 where
  pub memory : Memory
  pub pace : List ℕ

abbrev pub both : Memory → List ℕ → Both
both M P = record { memory = M; pace = P }

unfoldable pub paced_after : List ℕ → List PacedCall → Memory → List ℕ → Both
paced_after s [] M P = both M P
paced_after s (c ∷ l) M P = let k : Kept = paced_call s c M P in paced_after s l k.answer.memory k.pace

-- the workers whose turns were taken
unfoldable pub paced_row : List ℕ → List PacedCall → Memory → List ℕ → List ℕ
paced_row s [] M P = []
paced_row s (c ∷ l) M P = let k : Kept = paced_call s c M P in taken_by c P k.answer ++ paced_row s l k.answer.memory k.pace
