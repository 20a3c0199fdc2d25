-- What `dequelist` prints, from the bytes that it reads: the listing of a run of DFDeques, its input and its lines as `turnlist`'s, "two bytes a turn, worker and choice".
use Rattle.std.specs.Prelude.{ℕ, zero, suc, ◌/◌, length, Err, Ok, Result}
use Rattle.schedule.specs.declared.Reply.{Reply}
use Rattle.table.specs.declared.Refusal.{Refusal}
use mathlib.Core.List.{List, [], ◌∷◌, flatten}
use Rattle.table.specs.Sum.{pick}
use Rattle.schedule.specs.Turn.{root_ended}
use Rattle.schedule.specs.Listing.{line, Listing, listing, refused, told_by, last_of}
use Rattle.lines.specs.Lines.{texts_of}
use Rattle.listing.specs.Listing.{workers_in, quota_in, order_in, table_after, input_wrong, begun_then, header_of, wrong_input}
use Rattle.deques.specs.declared.DequeRun.{DequeRun}
use Rattle.deques.specs.declared.DequeTurned.{DequeTurned}
use Rattle.deques.specs.DequeBegin.{deque_begin}
use Rattle.deques.specs.DequeTurn.{unsound_deques, deque_turned}
use Rattle.deques.specs.DequeRuns.{Pair, pair_at}

-- the line of a turn and the lines after it; a refusal is the last line
abbrev pub pair_then : Result Reply Refusal → ℕ → DequeRun → Listing → Listing
pair_then (Ok x) w r rest = listing (line r.run.turns w (told_by x r.run) r.run.held ∷ rest.lines) rest.last
pair_then (Err x) w r rest = listing [] (refused x.number x.place)

-- k turns more after i turns, the pair of turn i given by `who`, one after the other up to the root's end or a refusal
unfoldable pub pairs_by : (DequeRun → ℕ → ℕ → DequeTurned) → (ℕ → Pair) → ℕ → ℕ → DequeRun → Listing
pairs_by turn who zero i r = listing [] (last_of r.run)
pairs_by turn who (suc k) i r =
    let t : DequeTurned = turn r (who i).worker (who i).choice in
    let rest : Listing = pairs_by turn who k (suc i) t.run in
    pick (root_ended r.run) (listing [] (last_of r.run)) (pair_then t.answer (who i).worker t.run rest)

-- "an odd last byte isn't read"
abbrev pub order_by : (DequeRun → ℕ → ℕ → DequeTurned) → DequeRun → List ℕ → Listing
order_by turn r order = pairs_by turn (pair_at order) (length order / 2) 0 r

-- the listing of an order's turns, on any record whatever: "A call over many turns tests this first."
unfoldable pub list_pairs : DequeRun → List ℕ → Listing
list_pairs r order = pick (unsound_deques r) (listing [] (refused 32 0)) (order_by deque_turned r order)

-- the table's bytes, p, K, and the order
unfoldable pub deque_listed_by : (DequeRun → ℕ → ℕ → DequeTurned) → List ℕ → ℕ → ℕ → List ℕ → List (List ℕ)
deque_listed_by turn t p K order =
    begun_then (deque_begin t p K).answer (header_of (deque_begin t p K).run.run ∷ texts_of (order_by turn (deque_begin t p K).run order))

-- "Order of checks: 33, table, beginning, turns."
unfoldable pub deque_listing_by : (DequeRun → ℕ → ℕ → DequeTurned) → List ℕ → List ℕ
deque_listing_by turn s = flatten (pick (input_wrong s) wrong_input (deque_listed_by turn (table_after s) (workers_in s) (quota_in s) (order_in s)))

abbrev pub deque_listing_of : List ℕ → List ℕ
deque_listing_of = deque_listing_by deque_turned

-- ---- the code's parts

-- the texts of k turns more after i turns of an order
unfoldable pub rest_texts : List ℕ → ℕ → ℕ → DequeRun → List (List ℕ)
rest_texts order k i r = texts_of (pairs_by deque_turned (pair_at order) k i r)

unfoldable pub input_texts : List ℕ → List (List ℕ)
input_texts s = pick (input_wrong s) wrong_input (deque_listed_by deque_turned (table_after s) (workers_in s) (quota_in s) (order_in s))
