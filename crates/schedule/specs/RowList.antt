-- The list as the record had it before N10: a row of numbers and its length. A run that keeps its list so, for the links to be held against, turn by turn.
use Rattle.std.specs.Prelude.{ℕ, List, [], ◌∷◌, length, take}
use Rattle.table.specs.Format.{Table}
use Rattle.schedule.specs.declared.Run.{Run}
use Rattle.schedule.specs.declared.Reply.{Reply}
use Rattle.schedule.specs.Machine.{State, with_list, turn_of, passed_by}
use Rattle.table.specs.Checks.{max_threads}
use Rattle.order.specs.Words.{filled}
use Rattle.schedule.specs.Turn.{step_run, passed_in}
use Rattle.schedule.specs.Runs.{moved}

-- what a turn says: its reply, and how many threads it passed over (N7)
pub record TurnSaid : Type 0 where
  pub reply : Reply
  pub passed : ℕ

-- ---- the old layout

-- "the row of numbers", filled up with 0
pub record Row : Type 0 where
  pub list : List ℕ
  pub listed : ℕ

abbrev pub rowed : List ℕ → Row
rowed l = record { list = filled max_threads l; listed = length l }

abbrev pub read_row : Row → List ℕ
read_row o = take o.listed o.list

-- a state whose list is kept in a row; the rest has none
pub record Old : Type 0 where
  pub row : Row
  pub rest : State

abbrev pub kept : State → Old
kept st = record { row = rowed st.list; rest = with_list [] st }

abbrev pub read_old : Old → State
read_old o = with_list (read_row o.row) o.rest

-- what the turns of a row of workers leave, and what they say
unfoldable pub old_after : Table → ℕ → Old → List ℕ → Old
old_after T K o [] = o
old_after T K o (w ∷ l) = old_after T K (kept (turn_of T K w (read_old o)).state) l

unfoldable pub old_said : Table → ℕ → Old → List ℕ → List TurnSaid
old_said T K o [] = []
old_said T K o (w ∷ l) = record { reply = (turn_of T K w (read_old o)).reply; passed = passed_by w (read_old o) } ∷ old_said T K (kept (turn_of T K w (read_old o)).state) l

-- ---- the record, with links

-- the record after a row of turns
unfoldable pub after_row : Run → List ℕ → Run
after_row r [] = r
after_row r (w ∷ l) = after_row (moved r w) l

unfoldable pub said_row : Run → List ℕ → List TurnSaid
said_row r [] = []
said_row r (w ∷ l) = record { reply = (step_run r w).reply; passed = passed_in r w } ∷ said_row (moved r w) l
