-- The wall chart (change request N5): what a line shows of a record, the line's text, and how each number is read back from its columns.
use Rattle.std.specs.Prelude.{ℕ, zero, suc, ◌+◌, ◌-◌, ◌*◌, Bool, length, get_or, take, drop, replicate, eqb, ltb, Err, Ok, Result, ⊤}
use Rattle.table.specs.declared.Refusal.{Refusal}
use mathlib.Core.List.{List, [], ◌∷◌, ◌++◌, flatten}
use Rattle.table.specs.Sum.{pick}
use Rattle.table.specs.Pass.{Check, try_at}
use Rattle.table.specs.Load.{found_number, found_place}
use Rattle.text.specs.Text.{ascii, decimal, newline}
use Rattle.schedule.specs.declared.Worker.{Worker}
use Rattle.schedule.specs.declared.Run.{Run}
use Rattle.schedule.specs.Turn.{unsound}

-- ---- what is shown

-- "A cell has the thread its worker then holds .. or a full stop .. if there is none. Cells from worker p on are blank": there is no such worker.
pub data Cell : Type 0 where
  thread : ℕ → Cell
  none absent : Cell

pub record Figures : Type 0 where
  pub turns : ℕ
  pub cells : List Cell
  pub held : ℕ

-- the cell of worker w
abbrev pub cell_of : ℕ → ℕ → Worker → Cell
cell_of p w x = pick (ltb w p) (pick x.holds (thread x.thread) none) absent

-- the cells of workers from w on
unfoldable pub cells_from : ℕ → ℕ → List Worker → List Cell
cells_from p w [] = []
cells_from p w (x ∷ l) = cell_of p w x ∷ cells_from p (suc w) l

abbrev pub figures_of : ℕ → ℕ → List Worker → ℕ → Figures
figures_of turns p workers held = record { turns = turns; cells = cells_from p 0 workers; held = held }

abbrev pub figures : Run → Figures
figures r = figures_of r.turns r.workers r.worker r.held

-- ---- the line

-- a number "right-aligned in" a width: blanks, then its digits
unfoldable pub right_texts : ℕ → ℕ → List (List ℕ)
right_texts width n = replicate (width - length (decimal n)) 32 ∷ decimal n ∷ []

abbrev pub none_word : List ℕ
none_word = ascii "   ."

abbrev pub absent_word : List ℕ
absent_word = ascii "    "

-- "cells of 4 .. the thread .. right-aligned, or a full stop in its last column"
unfoldable pub cell_texts : Cell → List (List ℕ)
cell_texts (thread t) = right_texts 4 t
cell_texts none = none_word ∷ []
cell_texts absent = absent_word ∷ []

unfoldable pub cells_texts : List Cell → List (List ℕ)
cells_texts [] = []
cells_texts (c ∷ cs) = cell_texts c ++ cells_texts cs

-- "84 characters and a newline: turns taken right-aligned in 6, sixteen cells of 4, memory held right-aligned in 14"
unfoldable pub line_texts : Figures → List (List ℕ)
line_texts x = right_texts 6 x.turns ++ (cells_texts x.cells ++ (right_texts 14 x.held ++ (newline ∷ [])))

abbrev pub line_text : Figures → List ℕ
line_text x = flatten (line_texts x)

abbrev pub line_of : Run → List ℕ
line_of r = line_text (figures r)

-- ---- reading a line back, by its columns

-- the number of a row of digits after one that is read already; blanks say nothing
unfoldable pub number_from : ℕ → List ℕ → ℕ
number_from n [] = n
number_from n (x ∷ s) = number_from (pick (eqb x 32) n (10 * n + (x - 48))) s

abbrev pub number_in : List ℕ → ℕ
number_in = number_from 0

-- a cell's last column tells the three apart
unfoldable pub cell_in : List ℕ → Cell
cell_in s = pick (eqb (get_or s 3 0) 32) absent (pick (eqb (get_or s 3 0) 46) none (thread (number_in s)))

unfoldable pub cells_in : ℕ → List ℕ → List Cell
cells_in zero s = []
cells_in (suc k) s = cell_in (take 4 s) ∷ cells_in k (drop 4 s)

unfoldable pub read_back : List ℕ → Figures
read_back s = record { turns = number_in (take 6 s); cells = cells_in 16 (drop 6 s); held = number_in (take 14 (drop 70 s)) }

-- ---- the call

-- 43: "turns taken above 999,999"
abbrev pub most_turns : ℕ
most_turns = 999999

unfoldable pub too_many : Run → Bool
too_many r = ltb most_turns r.turns

-- "43 .. after 32"; their place is 0
unfoldable pub chart_checks : Run → List Check
chart_checks r = record { number = 32; applies = λ i. unsound r } ∷ record { number = 43; applies = λ i. too_many r } ∷ []

abbrev pub charted_as : Result ⊤ Refusal → Result ⊤ Refusal
charted_as (Ok _) = Ok tt
charted_as (Err x) = Err x

unfoldable pub charted : Run → Result ⊤ Refusal
charted r = charted_as (try_at (chart_checks r) 0)

-- the lent buffer after the call: the line, or what stood there, "with no line written"
abbrev pub charted_in : Result ⊤ Refusal → Run → List ℕ → List ℕ
charted_in (Ok _) r out = line_of r
charted_in (Err x) r out = out

-- ---- the paper's number and place

-- of an answer: 0 and 0 where a line is written
pub record LineValues : Type 0 where
  pub number : ℕ
  pub place : ℕ

abbrev pub charted_values : Result ⊤ Refusal → LineValues
charted_values (Ok _) = record { number = 0; place = 0 }
charted_values (Err x) = record { number = x.number; place = x.place }

-- from the checks alone
unfoldable pub line_values : Run → LineValues
line_values r = record { number = found_number (try_at (chart_checks r) 0); place = found_place (try_at (chart_checks r) 0) }
