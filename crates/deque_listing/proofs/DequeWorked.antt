-- The listing with turns as they are defined, each with its test of the whole record, is the one that the worked cases compute.
use Rattle.std.specs.Prelude.{Err, Ok, Result, ⊤}
use Rattle.table.specs.declared.Refusal.{Refusal}
use mathlib.Core.Path.{◌≡◌, refl, ap, ◌∙◌}
use Prim.Native.Nat.{ℕ, zero, suc, ◌+◌, ◌-◌, ◌/◌, ◌^◌, ◌≤◌, ◌<◌}
use mathlib.Core.List.{List, [], ◌∷◌, map, flatten}
use mathlib.Core.Bool.{Bool, true, false}
use native.Mathlib.Omega.{arith}
use lib.ListN.{length, drop, length-take}
use Rattle.table.specs.Sum.{pick}
use Rattle.table.specs.Pass.{try_at}
use Rattle.schedule.specs.Begin.{start_state}
use Rattle.schedule.specs.Listing.{Listing}
use Rattle.lines.specs.Lines.{texts_of}
use Rattle.listing.specs.Listing.{workers_in, quota_in, order_length, order_in, table_after, input_wrong, begun_then, header_of, wrong_input}
use Rattle.listing.specs.Cases.{Case, Worked}
use Rattle.listing.proofs.Inputs.{right}
use Rattle.deques.specs.declared.DequeRun.{DequeRun}
use Rattle.deques.specs.Deques.{Deques}
use Rattle.deques.specs.DequeSound.{SteadyDeques}
use Rattle.deques.specs.DequeBegin.{deque_begin}
use Rattle.deques.specs.DequeTurn.{deque_checks, step_deques, deque_turned_as, deque_turned}
use Rattle.deques.specs.DequeRuns.{Pair, pair, pair_at}
use Rattle.deques.specs.DequeTurnCases.{deque_turned_sound}
use Rattle.deques.proofs.DequeStores.{moved_turns}
use Rattle.deques.proofs.DequeHistories.{deque_begin_started, deque_begin_sound, start_values, deque_turn_steady}
use Rattle.deques.proofs.DequeCaseLaws.{deque_turned_sound_lem}
use Rattle.deque_listing.specs.DequeListing.{pairs_by, order_by, deque_listed_by, deque_listing_by, deque_listing_of}
use Rattle.deque_listing.specs.DequeListingCases.{deque_listings, deque_listings_lem}

turned_turns : (r : DequeRun) (w c : ℕ) → (deque_turned r w c).run.run.turns ≤ suc r.run.turns
unfolding deque_turned
turned_turns r w c = go (try_at (deque_checks r w c) 0)
  where
    go : (f : Result ⊤ Refusal) → (deque_turned_as f r (step_deques r w c)).run.run.turns ≤ suc r.run.turns
    go (Ok _) = omega (arith, moved_turns r (pair w c))
    go (Err x) = omega arith

pairs_sound : (who : ℕ → Pair) (k i : ℕ) (r : DequeRun) → SteadyDeques r → r.run.turns + k < 2 ^ 64 - 1 → pairs_by deque_turned who k i r ≡ pairs_by deque_turned_sound who k i r
unfolding pairs_by
pairs_sound who zero i r h n = refl
pairs_sound who (suc k) i r h n =
    let w : ℕ = (who i).worker in
    let c : ℕ = (who i).choice in
    let e : deque_turned r w c ≡ deque_turned_sound r w c = deque_turned_sound_lem r w c (record { steady = h; turns = omega (arith, n) }) in
    let ih = pairs_sound who k (suc i) (deque_turned r w c).run (deque_turn_steady r w c h) (omega (arith, n, turned_turns r w c)) in
    rw (ih, e)

-- from an accepted beginning
begun_sound : (t : List ℕ) (p K : ℕ) (order : List ℕ) → (deque_begin t p K).answer ≡ Ok tt → length order ≤ 4096 → order_by deque_turned (deque_begin t p K).run order ≡ order_by deque_turned_sound (deque_begin t p K).run order
unfolding start_state
begun_sound t p K order e n =
    let r : DequeRun = (deque_begin t p K).run in
    let b : deque_begin t p K ≡ record { answer = Ok tt; run = r } = λ i. record { answer = e i; run = r } in
    let z : r.run.turns ≡ 0 = ap (λ (d : Deques). d.state.turns) (start_values t p K r (deque_begin_started t p K r b)).3 in
    pairs_sound (pair_at order) (length order / 2) 0 r (deque_begin_sound t p K r b).steady (omega (arith, z, n))

listed_sound : (t : List ℕ) (p K : ℕ) (order : List ℕ) → length order ≤ 4096 → deque_listed_by deque_turned t p K order ≡ deque_listed_by deque_turned_sound t p K order
unfolding deque_listed_by
listed_sound t p K order k = go (deque_begin t p K).answer refl
  where
    go : (a : Result ⊤ Refusal) → (deque_begin t p K).answer ≡ a
        → begun_then a (header_of (deque_begin t p K).run.run ∷ texts_of (order_by deque_turned (deque_begin t p K).run order))
        ≡ begun_then a (header_of (deque_begin t p K).run.run ∷ texts_of (order_by deque_turned_sound (deque_begin t p K).run order))
    go (Ok _) e = ap (λ (x : Listing). header_of (deque_begin t p K).run.run ∷ texts_of x) (begun_sound t p K order e k)
    go (Err x) e = refl

pub deque_listing_sound : (s : List ℕ) → deque_listing_of s ≡ deque_listing_by deque_turned_sound s
unfolding deque_listing_by
deque_listing_sound s = go (input_wrong s) refl
  where
    go : (q : Bool) → input_wrong s ≡ q
        → flatten (pick q wrong_input (deque_listed_by deque_turned (table_after s) (workers_in s) (quota_in s) (order_in s)))
        ≡ flatten (pick q wrong_input (deque_listed_by deque_turned_sound (table_after s) (workers_in s) (quota_in s) (order_in s)))
    go true e = refl
    go false e =
        ap flatten (listed_sound (table_after s) (workers_in s) (quota_in s) (order_in s) (omega (arith, (right s e).0, length-take (order_length s) (drop 6 s))))

all_sound : (l : List Case) → map (λ (c : Case). deque_listing_of c.input) l ≡ map (λ (c : Case). deque_listing_by deque_turned_sound c.input) l
all_sound [] = refl
all_sound (c ∷ l) = cc (deque_listing_sound c.input, all_sound l)

-- every row's input has the row's text
pub deque_listings_worked : Worked deque_listing_of deque_listings
deque_listings_worked = all_sound deque_listings ∙ deque_listings_lem
