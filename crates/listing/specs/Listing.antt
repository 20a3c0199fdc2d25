-- What `turnlist`, `runrounds` and `wallchart` print, from the bytes that they read (document 01, "The turn listing"; change request N5).
use Rattle.std.specs.Prelude.{ℕ, ◌+◌, ◌*◌, Bool, ◌||◌, length, get_or, take, drop, ltb, Err, Ok, Result, ⊤}
use Rattle.table.specs.declared.Refusal.{Refusal}
use mathlib.Core.List.{List, [], ◌∷◌, flatten}
use Rattle.table.specs.Sum.{pick}
use Rattle.table.specs.Format.{u16_at, u24_at}
use Rattle.table.specs.Pass.{refusal}
use Rattle.table.specs.Load.{loaded}
use Rattle.text.specs.Text.{line_of, refused_line}
use Rattle.schedule.specs.declared.Run.{Run}
use Rattle.schedule.specs.declared.Turned.{Turned}
use Rattle.schedule.specs.declared.Ran.{Ran}
use Rattle.schedule.specs.Record.{bytes_of}
use Rattle.schedule.specs.Begin.{begin}
use Rattle.schedule.specs.Turn.{root_ended, turned}
use Rattle.schedule.specs.Runs.{rounds_run}
use Rattle.schedule.specs.Listing.{turns_by}
use Rattle.lines.specs.Lines.{texts_of, report_texts}
use Rattle.chart.specs.Chart.{charted}
use Rattle.chart.specs.Turns.{chart_by}

-- ---- the listing of a run over an order

-- "p (1 byte), K (3 bytes), the order's length (2 bytes), the order (a worker per byte), the table"
abbrev pub workers_in : List ℕ → ℕ
workers_in s = get_or s 0 0

abbrev pub quota_in : List ℕ → ℕ
quota_in s = u24_at s 1

abbrev pub order_length : List ℕ → ℕ
order_length s = u16_at s 4

abbrev pub order_in : List ℕ → List ℕ
order_in s = take (order_length s) (drop 6 s)

abbrev pub table_after : List ℕ → List ℕ
table_after s = drop (6 + order_length s) s

abbrev pub max_order : ℕ
max_order = 4096

-- 33: "input under 6 bytes, order above 4,096, or fewer bytes than the order"
unfoldable pub input_wrong : List ℕ → Bool
input_wrong s = ltb (length s) 6 || (ltb max_order (order_length s) || ltb (length s) (6 + order_length s))

-- "Refusals 1 to 22 and 33 are the only line": the beginning's, the table's among them
abbrev pub begun_then : Result ⊤ Refusal → List (List ℕ) → List (List ℕ)
begun_then (Ok _) rest = rest
begun_then (Err x) rest = refused_line x ∷ []

-- the header, "n, m, S1, D": "records and the listing's header name the filled-out table" (N6)
abbrev pub header_of : Run → List ℕ
header_of r = line_of (loaded (bytes_of r))

-- the table's bytes, p, K, and the order; the run stops at the root's end, whatever is left of the order
unfoldable pub listed_by : (Run → ℕ → Turned) → List ℕ → ℕ → ℕ → List ℕ → List (List ℕ)
listed_by turn t p K order = begun_then (begin t p K).answer (header_of (begin t p K).run ∷ texts_of (turns_by root_ended turn (begin t p K).run order))

-- the only line of an input that the program itself refuses
abbrev pub wrong_input : List (List ℕ)
wrong_input = refused_line (refusal 33 0) ∷ []

-- "Order of checks: 33, table, beginning, turns."
unfoldable pub listing_by : (Run → ℕ → Turned) → List ℕ → List ℕ
listing_by turn s = flatten (pick (input_wrong s) wrong_input (listed_by turn (table_after s) (workers_in s) (quota_in s) (order_in s)))

abbrev pub listing_of : List ℕ → List ℕ
listing_of = listing_by turned

-- ---- the wall chart of a run over an order

-- a line for the record of the beginning and one after each turn
unfoldable pub walled_by : (Run → Result ⊤ Refusal) → (Run → ℕ → Turned) → List ℕ → ℕ → ℕ → List ℕ → List (List ℕ)
walled_by line turn t p K order = begun_then (begin t p K).answer (chart_by line turn (begin t p K).run order)

-- the input and its check are the listing's
unfoldable pub wall_by : (Run → Result ⊤ Refusal) → (Run → ℕ → Turned) → List ℕ → List ℕ
wall_by line turn s = flatten (pick (input_wrong s) wrong_input (walled_by line turn (table_after s) (workers_in s) (quota_in s) (order_in s)))

abbrev pub wall_of : List ℕ → List ℕ
wall_of = wall_by charted turned

-- either, as the code has it: the texts of a chart or of a listing
unfoldable pub printed_texts : Bool → List ℕ → List (List ℕ)
printed_texts chart s =
    pick (input_wrong s) wrong_input
    (pick chart (walled_by charted turned (table_after s) (workers_in s) (quota_in s) (order_in s)) (listed_by turned (table_after s) (workers_in s) (quota_in s) (order_in s)))

-- ---- the line of a run in rounds

-- p (1 byte), K (3 bytes), L (4 bytes), the table
abbrev pub limit_in : List ℕ → ℕ
limit_in s = u16_at s 4 + 65536 * u16_at s 6

abbrev pub rounds_after : Result ⊤ Refusal → Ran → List (List ℕ)
rounds_after (Ok _) x = report_texts x.report x.run
rounds_after (Err x) r = refused_line x ∷ []

unfoldable pub rounded_texts : List ℕ → ℕ → ℕ → ℕ → List (List ℕ)
rounded_texts t p K L = rounds_after (begin t p K).answer (rounds_run (begin t p K).run L)

-- under 8 bytes: 33
unfoldable pub rounds_of : List ℕ → List ℕ
rounds_of s = flatten (pick (ltb (length s) 8) wrong_input (rounded_texts (drop 8 s) (workers_in s) (quota_in s) (limit_in s)))
