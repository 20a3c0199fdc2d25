-- The lines in front of a table's text: workers, then quota and an order, quota and a limit, or between and memory.
use Rattle.std.specs.Prelude.{ℕ, suc, List, [], ◌∷◌, ◌++◌, ltb, length, Err, None, Ok, Option, Result, Some}
use Rattle.table.specs.Sum.{pick}
use Rattle.text.specs.Text.{ascii}
use Rattle.assembly.specs.Words.{lines_of, words_of, same}
use Rattle.assembly.specs.Upto.{number_in}
use Rattle.inputs.specs.Number.{figure_of}
use Rattle.inputs.specs.declared.Wanted.{Wanted}
use Rattle.inputs.specs.declared.Wanted.TheVariants.{Workers, QuotaOrBetween, OrderOrLimit, Memory, Number as NumberTo, FewerWorkers}

-- ---- what the lines so far have given

-- p; p and K; p and b; then p, K and an order (`turnlist`, `wallchart`), p, K and L (`runrounds`), p, b and M (`maxquota`)
pub data Front : Type 0 where
  nothing : Front
  workers : ℕ → Front
  quota between : ℕ → ℕ → Front
  turns : ℕ → ℕ → List ℕ → Front
  rounds board : ℕ → ℕ → ℕ → Front

-- a line is taken, is not as it should be, or belongs to the table
pub data Step : Type 0 where
  goes : Front → Step
  stops : Wanted → Step
  ends : Front → Step

-- ---- an order

pub data Order : Type 0 where
  listed : List ℕ → Order
  broken : Wanted → Order

abbrev pub max_order : ℕ
max_order = 4096

-- p, K and b fill 1, 3 and 4 bytes, L and M 4 and 8, a worker of the order 1
abbrev pub most8 : ℕ
most8 = 255

abbrev pub most24 : ℕ
most24 = 16777215

abbrev pub most32 : ℕ
most32 = 4294967295

abbrev pub most64 : ℕ
most64 = 18446744073709551615

abbrev pub added_by : Option ℕ → List ℕ → Order
added_by (Some x) o = listed (o ++ (x ∷ []))
added_by None o = broken (NumberTo most8)

-- one worker more
unfoldable pub added : List ℕ → List ℕ → Order
added o w = pick (ltb (length o) max_order) (added_by (number_in most8 w) o) (broken FewerWorkers)

abbrev pub onward_order : Order → (List ℕ → Order) → Order
onward_order (listed o) rest = rest o
onward_order (broken e) rest = broken e

-- the words after `order`, any number of them
unfoldable pub order_from : List ℕ → List (List ℕ) → Order
order_from o [] = listed o
order_from o (w ∷ ws) = onward_order (added o w) (λ (o : List ℕ). order_from o ws)

-- ---- a line

abbrev pub given_to : (ℕ → Front) → Result ℕ Wanted → Step
given_to f (Ok x) = goes (f x)
given_to f (Err e) = stops e

abbrev pub ordered_to : ℕ → ℕ → Order → Step
ordered_to p K (listed o) = goes (turns p K o)
ordered_to p K (broken e) = stops e

-- a line's first word, and the words after it
unfoldable pub step_with : Front → List ℕ → List (List ℕ) → Step
step_with nothing w ws = pick (same w (ascii "workers")) (given_to workers (figure_of most8 ws)) (stops Workers)
step_with (workers p) w ws =
    pick (same w (ascii "quota")) (given_to (quota p) (figure_of most24 ws))
    (pick (same w (ascii "between")) (given_to (between p) (figure_of most32 ws)) (stops QuotaOrBetween))
step_with (quota p K) w ws =
    pick (same w (ascii "order")) (ordered_to p K (order_from [] ws))
    (pick (same w (ascii "limit")) (given_to (rounds p K) (figure_of most32 ws)) (stops OrderOrLimit))
step_with (between p b) w ws = pick (same w (ascii "memory")) (given_to (board p b) (figure_of most64 ws)) (stops Memory)
step_with (turns p K o) w ws = pick (same w (ascii "order")) (ordered_to p K (order_from o ws)) (ends (turns p K o))
step_with (rounds p K L) w ws = ends (rounds p K L)
step_with (board p b M) w ws = ends (board p b M)

-- a line's words; one without words changes nothing
abbrev pub step_of : Front → List (List ℕ) → Step
step_of f [] = goes f
step_of f (w ∷ ws) = step_with f w ws

-- ---- all lines

-- the front, and how many lines it takes; or the line that is not as it should be
pub data Fronted : Type 0 where
  whole : Front → ℕ → Fronted
  fault : ℕ → Wanted → Fronted

-- the text ends after k lines
abbrev pub at_end : Front → ℕ → Fronted
at_end nothing k = fault (suc k) Workers
at_end (workers p) k = fault (suc k) QuotaOrBetween
at_end (quota p K) k = fault (suc k) OrderOrLimit
at_end (between p b) k = fault (suc k) Memory
at_end (turns p K o) k = whole (turns p K o) k
at_end (rounds p K L) k = whole (rounds p K L) k
at_end (board p b M) k = whole (board p b M) k

abbrev pub onward : Step → ℕ → (Front → Fronted) → Fronted
onward (goes f) k rest = rest f
onward (stops e) k rest = fault (suc k) e
onward (ends f) k rest = whole f k

-- from the line after the first k on
unfoldable pub front_from : Front → ℕ → List (List ℕ) → Fronted
front_from f k [] = at_end f k
front_from f k (l ∷ ls) = onward (step_of f (words_of l)) k (λ (g : Front). front_from g (suc k) ls)

abbrev pub front_of : List ℕ → Fronted
front_of s = front_from nothing 0 (lines_of s)
