-- The listing and the chart with turns and lines as they are defined, each with its test of the whole record, are those that the worked cases compute.
use Rattle.std.specs.Prelude.{Err, Ok, Result, ⊤}
use Rattle.table.specs.declared.Refusal.{Refusal}
use mathlib.Core.Path.{◌≡◌, refl, ap, ◌∙◌}
use Prim.Native.Nat.{ℕ, ◌+◌, ◌^◌, ◌≤◌, ◌<◌}
use mathlib.Core.List.{List, [], ◌∷◌, map, flatten}
use mathlib.Core.Bool.{Bool, true, false}
use native.Mathlib.Omega.{arith}
use lib.ListN.{length, drop, length-take}
use Rattle.table.specs.Sum.{pick}
use Rattle.schedule.specs.declared.Run.{Run}
use Rattle.schedule.specs.Begin.{begin}
use Rattle.schedule.specs.Sound.{Steady}
use Rattle.schedule.specs.Turn.{root_ended, turned}
use Rattle.schedule.specs.Listing.{Listing, turns_by}
use Rattle.schedule.specs.Cases.{turned_sound}
use Rattle.schedule.proofs.Runs.Histories.{turn_steady}
use Rattle.schedule.proofs.CaseLaws.{turned_sound_lem, turned_turns, begun_fresh, begun_turned}
use Rattle.lines.specs.Lines.{texts_of}
use Rattle.chart.specs.Chart.{most_turns, charted}
use Rattle.chart.specs.Turns.{later_lines, chart_by}
use Rattle.chart.proofs.Records.{steady_written}
use Rattle.listing.specs.Listing.{workers_in, quota_in, order_length, order_in, table_after, max_order, input_wrong, header_of, listed_by, wrong_input, listing_by, listing_of}
use Rattle.listing.specs.Listing.{begun_then, walled_by, wall_by, wall_of}
use Rattle.listing.specs.Cases.{Case, cases, own_cases, Worked, worked, always, wall_cases, walls}
use Rattle.listing.proofs.Inputs.{right}

listed_sound : (t : List ℕ) (p K : ℕ) (order : List ℕ) → length order < 2 ^ 64 → listed_by turned t p K order ≡ listed_by turned_sound t p K order
unfolding listed_by
listed_sound t p K order k = go (begin t p K).answer refl
  where
    go : (a : Result ⊤ Refusal) → (begin t p K).answer ≡ a
        → begun_then a (header_of (begin t p K).run ∷ texts_of (turns_by root_ended turned (begin t p K).run order))
        ≡ begun_then a (header_of (begin t p K).run ∷ texts_of (turns_by root_ended turned_sound (begin t p K).run order))
    go (Ok _) e = ap (λ (x : Listing). header_of (begin t p K).run ∷ texts_of x) (begun_turned root_ended t p K order k e)
    go (Err x) e = refl

pub listing_sound : (s : List ℕ) → listing_of s ≡ listing_by turned_sound s
unfolding listing_by
listing_sound s = go (input_wrong s) refl
  where
    go : (q : Bool) → input_wrong s ≡ q
        → flatten (pick q wrong_input (listed_by turned (table_after s) (workers_in s) (quota_in s) (order_in s)))
        ≡ flatten (pick q wrong_input (listed_by turned_sound (table_after s) (workers_in s) (quota_in s) (order_in s)))
    go true e = refl
    go false e =
        ap flatten (listed_sound (table_after s) (workers_in s) (quota_in s) (order_in s) (omega (arith, (right s e).0, length-take (order_length s) (drop 6 s))))

all_sound : (l : List Case) → map (λ (c : Case). listing_of c.input) l ≡ map (λ (c : Case). listing_by turned_sound c.input) l
all_sound [] = refl
all_sound (c ∷ l) = cc (listing_sound c.input, all_sound l)

-- every row's input has the row's text
pub listings_worked : Worked listing_of cases × Worked listing_of own_cases
listings_worked = (all_sound cases ∙ worked.0, all_sound own_cases ∙ worked.1)

-- ---- the wall chart

-- turns from a sound record, as long as turns taken has room in a line
lines_sound : (order : List ℕ) (r : Run) → Steady r → r.turns + length order ≤ most_turns → later_lines charted turned r order ≡ later_lines always turned_sound r order
lines_sound [] r h k = refl
lines_sound (w ∷ order) r h k =
    let e : turned r w ≡ turned_sound r w = turned_sound_lem r w (record { steady = h; turns = omega arith }) in
    let g : Steady (turned r w).run = turn_steady r w h in
    let c : charted (turned r w).run ≡ (Ok tt) = steady_written (turned r w).run g (omega (arith, turned_turns r w)) in
    let ih = lines_sound order (turned r w).run g (omega (arith, turned_turns r w)) in
    rw (c, ih, e)

walled_sound : (t : List ℕ) (p K : ℕ) (order : List ℕ) → length order ≤ max_order → walled_by charted turned t p K order ≡ walled_by always turned_sound t p K order
unfolding walled_by
walled_sound t p K order k = go (begin t p K).answer refl
  where
    go : (a : Result ⊤ Refusal) → (begin t p K).answer ≡ a
        → begun_then a (chart_by charted turned (begin t p K).run order) ≡ begun_then a (chart_by always turned_sound (begin t p K).run order)
    go (Ok _) e =
        let f = begun_fresh t p K e in
        rw (steady_written (begin t p K).run f.0 (omega (arith, f.1)), lines_sound order (begin t p K).run f.0 (omega (arith, f.1)))
    go (Err x) e = refl

-- a chart that `wallchart` prints has no line refused by 32 or 43
pub wall_sound : (s : List ℕ) → wall_of s ≡ wall_by always turned_sound s
unfolding wall_by
wall_sound s = go (input_wrong s) refl
  where
    go : (q : Bool) → input_wrong s ≡ q
        → flatten (pick q wrong_input (walled_by charted turned (table_after s) (workers_in s) (quota_in s) (order_in s)))
        ≡ flatten (pick q wrong_input (walled_by always turned_sound (table_after s) (workers_in s) (quota_in s) (order_in s)))
    go true e = refl
    go false e =
        ap flatten (walled_sound (table_after s) (workers_in s) (quota_in s) (order_in s) (omega (arith, (right s e).0, length-take (order_length s) (drop 6 s))))

all_walls : (l : List Case) → map (λ (c : Case). wall_of c.input) l ≡ map (λ (c : Case). wall_by always turned_sound c.input) l
all_walls [] = refl
all_walls (c ∷ l) = cc (wall_sound c.input, all_walls l)

pub walls_worked : Worked wall_of wall_cases
walls_worked = all_walls wall_cases ∙ walls
