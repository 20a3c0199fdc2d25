-- Lists of calls of DFDeques: a beginning's record is sound, calls keep it so (turns taken apart, at its limit), and what a list of calls leaves are the deques after its row.
use Rattle.std.specs.Prelude.{Err, Ok, Result, ⊤}
use mathlib.Core.Path.{◌≡◌, refl, sym, ap, ◌∙◌}
use Prim.Native.Nat.{ℕ, zero, suc, ◌+◌, ◌-◌, ◌/◌, ◌^◌, ◌≤◌, ◌<◌}
use native.Mathlib.Omega.{arith}
use mathlib.Core.List.Memᴰ
use mathlib.Core.List.{List, [], ◌∷◌, ◌++◌, Memᴰ}
use mathlib.Core.Logic.{◌⊎◌, inl, inr}
use mathlib.Core.Bool.{Bool, true, false}
use lib.ListN.{length}
use lib.Dec.{eqb}
use borrow.Author.Tests.{ltb-true, not-false}
use Rattle.table.specs.Sum.{pick}
use Rattle.table.specs.Format.{Table, table_of}
use Rattle.table.specs.Pass.{refusal, first_found, try_at}
use Rattle.table.specs.Checks.{passes}
use Rattle.table.specs.Rules.{Rules}
use Rattle.table.specs.declared.Refusal.{Refusal}
use Rattle.table.proofs.Tests.{no_way}
use Rattle.table.proofs.Trying.{try_at_nothing}
use Rattle.schedule.specs.declared.Report.{Report}
use Rattle.schedule.specs.declared.Report.TheVariants.{Finished, Spent, Refused}
use Rattle.schedule.specs.declared.Run.{Run}
use Rattle.schedule.specs.Record.{table_in}
use Rattle.schedule.specs.Links.{laid}
use Rattle.schedule.specs.Begin.{setting_passes, begin_passes, start_state, start_run, begun_as, begin}
use Rattle.schedule.specs.Sound.{Steady}
use Rattle.schedule.specs.Turn.{root_ended, no_worker}
use Rattle.schedule.specs.Calls.{turns_in}
use Rattle.filling.specs.Filled.{filled_out}
use Rattle.filling.proofs.Runs.{Runs}
use Rattle.order.proofs.Lawful.{Lawful, lawful}
use Rattle.schedule.proofs.Beginnings.{settings_exactly, silent_runs}
use Rattle.schedule.proofs.Runs.Histories.{start_steady}
use Rattle.schedule.proofs.Stores.{Fits}
use Rattle.deques.specs.declared.DequeRun.{DequeRun}
use Rattle.deques.specs.declared.DequeBegun.{DequeBegun}
use Rattle.deques.specs.declared.DequeRan.{DequeRan}
use Rattle.deques.specs.Deques.{Deques, start_deques, bottom, deque_turn}
use Rattle.deques.specs.DequeRecord.{deques_of, blank_deques}
use Rattle.deques.specs.DequeSound.{SteadyDeques, SoundDeques}
use Rattle.deques.specs.DequeBegin.{start_deque_run, deque_begun_as, deque_begin}
use Rattle.deques.specs.DequeTurn.{unsound_deques, no_choice, deque_checks, step_deques, deque_turned_as, deque_turned}
use Rattle.deques.specs.DequeRuns.{Pair, pair, pair_at, deque_ran, deque_moved, drive_deques, pairs_run}
use Rattle.deques.specs.DequeCalls.{DequeCall, turn, over_pairs, deque_turn_row, pairs_from, after_deque_call, pairs_of, after_deque_calls, pairs_of_calls, row_deques}
use Rattle.deques.specs.Lines.{lines_of, bottoms_of}
use Rattle.deques.proofs.DequeStores.{start_kept, stored_back, stored_steady, moved_steady, moved_deques}
use Rattle.schedule.proofs.Runs.Histories.{start_bytes}

-- ---- what a beginning gives

pub record StartedDeques (s : List ℕ) (p K : ℕ) (r : DequeRun) : Type 0 where
  pub is_start : r ≡ start_deque_run (filled_out s K) p K
  pub filling : Runs s K
  pub lawful : Lawful (table_of (filled_out s K))
  pub settings : Fits p K

pub deque_begin_started : (s : List ℕ) (p K : ℕ) (r : DequeRun) → deque_begin s p K ≡ record { answer = Ok tt; run = r } → StartedDeques s p K r
unfolding deque_begin
deque_begin_started s p K r e = go (first_found (passes s ++ begin_passes (table_of s) p K)) refl e
  where
    go : (f : Result ⊤ Refusal) → first_found (passes s ++ begin_passes (table_of s) p K) ≡ f → deque_begun_as f (start_deque_run (filled_out s K) p K) ≡ record { answer = Ok tt; run = r } → StartedDeques s p K r
    go (Ok _) n q =
        let (a, f, x) = silent_runs s p K n in
        record { is_start = sym (ap (λ (x : DequeBegun). x.run) q); filling = x; lawful = lawful (filled_out s K) x.rules; settings = f }
    go (Err x) n q = let z = ap (λ (y : DequeBegun). y.answer) q in no_way (cc)

-- the checks of a beginning are AsyncDF's
pub deque_begin_answer : (s : List ℕ) (p K : ℕ) → (deque_begin s p K).answer ≡ (begin s p K).answer
unfolding deque_begin begin
deque_begin_answer s p K = go (first_found (passes s ++ begin_passes (table_of s) p K))
  where
    go : (f : Result ⊤ Refusal) → (deque_begun_as f (start_deque_run (filled_out s K) p K)).answer ≡ (begun_as f (start_run (filled_out s K) p K)).answer
    go (Ok _) = refl
    go (Err x) = refl

-- "A refused beginning hands back the blank record"
pub deque_begin_refused_record : (s : List ℕ) (p K : ℕ) (x : Refusal) → (deque_begin s p K).answer ≡ Err x → (deque_begin s p K).run ≡ blank_deques
unfolding deque_begin
deque_begin_refused_record s p K x e = go (first_found (passes s ++ begin_passes (table_of s) p K)) e
  where
    go : (f : Result ⊤ Refusal) → (deque_begun_as f (start_deque_run (filled_out s K) p K)).answer ≡ Err x → (deque_begun_as f (start_deque_run (filled_out s K) p K)).run ≡ blank_deques
    go (Ok _) q = no_way (cc)
    go (Err y) q = refl

module _ (s : List ℕ) (p K : ℕ) where
  -- the record of the start is AsyncDF's, with the root as the one bottom
  pub start_record : start_deque_run s p K ≡ record { run = start_run s p K; under = (laid (0 ∷ [])).left; over = (laid (0 ∷ [])).right; first = 0 }
  unfolding start_deque_run start_run start_state lines_of bottoms_of bottom
  start_record = refl

  -- the deques of the start are read off its record
  pub start_read : Lawful (table_of s) → deques_of (start_deque_run s p K) ≡ start_deques (table_of s)
  unfolding start_deque_run
  start_read l = stored_back (table_of s) l p K (start_deques (table_of s)) (start_kept (table_of s) l p K) (start_run s p K) refl

  -- a record with the table given, whatever its allocs
  pub start_steady_deques : Rules s → first_found (setting_passes p K) ≡ Ok tt → SteadyDeques (start_deque_run s p K)
  unfolding start_deque_run start_run
  start_steady_deques h f =
      let r : Run = start_run s p K in
      let x : Steady r = start_steady s p K h f in
      stored_steady r x.table x.settings x.table_length x.table_rest (start_deques (table_of s)) (rw (start_bytes s p K) (start_kept (table_of s) (lawful s h) p K))

  start_copy : table_in (start_deque_run s p K).run ≡ table_of s
  unfolding start_deque_run
  start_copy = start_bytes s p K

  start_workers : (start_deque_run s p K).run.workers ≡ p
  unfolding start_deque_run start_run
  start_workers = refl

  start_quota : (start_deque_run s p K).run.quota ≡ K
  unfolding start_deque_run start_run
  start_quota = refl

  start_turns : (start_deque_run s p K).run.turns ≡ 0
  unfolding start_deque_run start_state
  start_turns = refl

-- what the record of the start holds
pub start_values : (s : List ℕ) (p K : ℕ) (r : DequeRun) → StartedDeques s p K r
    → (table_in r.run ≡ table_of (filled_out s K)) × (r.run.workers ≡ p) × (r.run.quota ≡ K) × (deques_of r ≡ start_deques (table_of (filled_out s K)))
start_values s p K r b =
    let f : List ℕ = filled_out s K in
    rw b.is_start (start_copy f p K, start_workers f p K, start_quota f p K, start_read f p K b.lawful)

pub deque_begin_sound : (s : List ℕ) (p K : ℕ) (r : DequeRun) → deque_begin s p K ≡ record { answer = Ok tt; run = r } → SoundDeques r
deque_begin_sound s p K r e =
    let b : StartedDeques s p K r = deque_begin_started s p K r e in
    rw b.is_start
    (record {
      steady = start_steady_deques (filled_out s K) p K b.filling.rules ((settings_exactly p K).1 b.settings);
      turns = omega (arith, start_turns (filled_out s K) p K);
    })

-- ---- what a list of calls leaves

pub record LeftDeques (r : DequeRun) (row : List Pair) (r' : DequeRun) : Type 0 where
  pub below : (g : Pair) → Memᴰ g row → (g.worker < r.run.workers) × (g.choice < r.run.workers)
  pub same_table : table_in r'.run ≡ table_in r.run
  pub same_workers : r'.run.workers ≡ r.run.workers
  pub same_quota : r'.run.quota ≡ r.run.quota
  pub deques : deques_of r' ≡ row_deques (table_in r.run) r.run.quota (deques_of r) row

left_none : (r : DequeRun) → LeftDeques r [] r
unfolding row_deques
left_none r = record { below = λ g m. absurd (Memᴰ.not-nil m); same_table = refl; same_workers = refl; same_quota = refl; deques = refl }

left_step : (r : DequeRun) (g : Pair) (row : List Pair) (r' : DequeRun) → SteadyDeques r → g.worker < r.run.workers → g.choice < r.run.workers
    → LeftDeques (deque_moved r g) row r' → LeftDeques r (g ∷ row) r'
unfolding row_deques step_deques
left_step r g row r' h b c l =
    record {
      below = λ x m. go x (Memᴰ.cases_cons m);
      same_table = l.same_table;
      same_workers = l.same_workers;
      same_quota = l.same_quota;
      deques = l.deques ∙ ap (λ (x : Deques). row_deques (table_in r.run) r.run.quota x row) (moved_deques r h g b);
    }
  where
    go : (x : Pair) → (x ≡ g) ⊎ Memᴰ x row → (x.worker < r.run.workers) × (x.choice < r.run.workers)
    go x (inl e) = rw e (b, c)
    go x (inr m) = l.below x m

row_deques_append : (T : Table) (K : ℕ) (d : Deques) (row rest : List Pair) → row_deques T K d (row ++ rest) ≡ row_deques T K (row_deques T K d row) rest
unfolding row_deques
row_deques_append T K d [] rest = refl
row_deques_append T K d (g ∷ row) rest = row_deques_append T K (deque_turn T K g.worker g.choice d).after row rest

left_append : (r : DequeRun) (row : List Pair) (r' : DequeRun) (rest : List Pair) (r'' : DequeRun) → LeftDeques r row r' → LeftDeques r' rest r'' → LeftDeques r (row ++ rest) r''
left_append r row r' rest r'' l m =
    record {
      below = λ g h. go g (Memᴰ.append_cases row h);
      same_table = m.same_table ∙ l.same_table;
      same_workers = m.same_workers ∙ l.same_workers;
      same_quota = m.same_quota ∙ l.same_quota;
      deques = m.deques ∙ rw (l.same_table, l.same_quota, l.deques) (sym (row_deques_append (table_in r.run) r.run.quota (deques_of r) row rest));
    }
  where
    go : (g : Pair) → Memᴰ g row ⊎ Memᴰ g rest → (g.worker < r.run.workers) × (g.choice < r.run.workers)
    go g (inl h) = l.below g h
    go g (inr h) = rw l.same_workers at (m.below g h)

-- a call that moves the record on by a row, and keeps it sound
record Goes (r : DequeRun) (row : List Pair) (r' : DequeRun) : Type 0 where
  left : LeftDeques r row r'
  steady : SteadyDeques r'

goes_none : (r : DequeRun) → SteadyDeques r → Goes r [] r
goes_none r h = record { left = left_none r; steady = h }

-- a run of at most k turns after i, as many as it reports
record Driven (who : ℕ → Pair) (k i : ℕ) (r : DequeRun) (d : DequeRan) : Type 0 where
  low : i ≤ turns_in d.report
  high : turns_in d.report ≤ i + k
  goes : Goes r (pairs_from who i (turns_in d.report - i)) d.run

-- it stops
stays : (who : ℕ → Pair) (k i : ℕ) (r : DequeRun) (x : Report) → SteadyDeques r → turns_in x ≡ i → Driven who k i r (deque_ran x r)
unfolding pairs_from
stays who k i r x h e =
    let z : turns_in x - i ≡ 0 = omega arith in
    record { low = omega arith; high = omega arith; goes = rw z (goes_none r h) }

-- it takes a turn and goes on
steps : (who : ℕ → Pair) (k i : ℕ) (r : DequeRun) (d : DequeRan) → SteadyDeques r → (who i).worker < r.run.workers → (who i).choice < r.run.workers
    → Driven who k (suc i) (deque_moved r (who i)) d → Driven who (suc k) i r d
unfolding pairs_from
steps who k i r d h b c g =
    let j : ℕ = turns_in d.report in
    let z : j - i ≡ suc (j - suc i) = omega (arith, g.low) in
    record {
      low = omega (arith, g.low);
      high = omega (arith, g.high);
      goes = rw z (record { left = left_step r (who i) (pairs_from who (suc i) (j - suc i)) d.run h b c g.goes.left; steady = g.goes.steady });
    }

worker_there : (r : DequeRun) (w : ℕ) → no_worker r.run w ≡ false → w < r.run.workers
unfolding no_worker
worker_there r w e = ltb-true w r.run.workers (not-false _ e)

choice_there : (r : DequeRun) (c : ℕ) → no_choice r c ≡ false → c < r.run.workers
unfolding no_choice
choice_there r c e = ltb-true c r.run.workers (not-false _ e)

drive_goes : (who : ℕ → Pair) (k i : ℕ) (r : DequeRun) → SteadyDeques r → Driven who k i r (drive_deques who k i r)
unfolding drive_deques
drive_goes who zero i r h = go (root_ended r.run)
  where
    go : (b : Bool) → Driven who zero i r (deque_ran (pick b (Finished i) (Spent i)) r)
    go true = stays who zero i r (Finished i) h refl
    go false = stays who zero i r (Spent i) h refl
drive_goes who (suc k) i r h =
    go (root_ended r.run) (eqb r.run.turns (2 ^ 64 - 1)) (no_worker r.run (who i).worker) (no_choice r (who i).choice) refl refl
    (λ q. drive_goes who k (suc i) (deque_moved r (who i)) (moved_steady r h (who i) (worker_there r (who i).worker q)))
  where
    rest : DequeRan
    rest = drive_deques who k (suc i) (deque_moved r (who i))

    go : (b c d f : Bool) → no_worker r.run (who i).worker ≡ d → no_choice r (who i).choice ≡ f
        → (no_worker r.run (who i).worker ≡ false → Driven who k (suc i) (deque_moved r (who i)) rest)
        → Driven who (suc k) i r
        (pick b (deque_ran (Finished i) r)
        (pick c (deque_ran (Refused i (refusal 32 0)) r) (pick d (deque_ran (Refused i (refusal 30 0)) r) (pick f (deque_ran (Refused i (refusal 49 0)) r) rest))))
    go true c d f e q ih = stays who (suc k) i r (Finished i) h refl
    go false true d f e q ih = stays who (suc k) i r (Refused i (refusal 32 0)) h refl
    go false false true f e q ih = stays who (suc k) i r (Refused i (refusal 30 0)) h refl
    go false false false true e q ih = stays who (suc k) i r (Refused i (refusal 49 0)) h refl
    go false false false false e q ih = steps who k i r rest h (worker_there r (who i).worker e) (choice_there r (who i).choice q) (ih e)

-- a turn that is taken has a worker and a choice below p
turn_below : (r : DequeRun) (w c : ℕ) → try_at (deque_checks r w c) 0 ≡ Ok tt → (w < r.run.workers) × (c < r.run.workers)
unfolding deque_checks
turn_below r w c e =
    let s = (try_at_nothing (deque_checks r w c) 0).0 e in
    (worker_there r w s.1.0, choice_there r c s.1.1.1.0)

turn_goes : (r : DequeRun) (w c : ℕ) → SteadyDeques r → Goes r (deque_turn_row (deque_turned r w c).answer (pair w c)) (deque_turned r w c).run
unfolding deque_turned
turn_goes r w c h = go (try_at (deque_checks r w c) 0) refl
  where
    go : (f : Result ⊤ Refusal) → try_at (deque_checks r w c) 0 ≡ f → Goes r (deque_turn_row (deque_turned_as f r (step_deques r w c)).answer (pair w c)) (deque_turned_as f r (step_deques r w c)).run
    go (Ok _) e =
        let b : (w < r.run.workers) × (c < r.run.workers) = turn_below r w c e in
        record { left = left_step r (pair w c) [] (deque_moved r (pair w c)) h b.0 b.1 (left_none (deque_moved r (pair w c))); steady = moved_steady r h (pair w c) b.0 }
    go (Err x) e = goes_none r h

pairs_goes : (r : DequeRun) (l : List ℕ) → SteadyDeques r → Goes r (pairs_from (pair_at l) 0 (turns_in (pairs_run r l).report)) (pairs_run r l).run
unfolding pairs_run pairs_from
pairs_goes r l h = go (unsound_deques r)
  where
    whole : DequeRan
    whole = drive_deques (pair_at l) (length l / 2) 0 r

    go : (b : Bool)
        → Goes r (pairs_from (pair_at l) 0 (turns_in (pick b (deque_ran (Refused 0 (refusal 32 0)) r) whole).report)) (pick b (deque_ran (Refused 0 (refusal 32 0)) r) whole).run
    go true = goes_none r h
    go false =
        let d : Driven (pair_at l) (length l / 2) 0 r whole = drive_goes (pair_at l) (length l / 2) 0 r h in
        let e : turns_in whole.report - 0 ≡ turns_in whole.report = omega arith in
        rw e at d.goes

-- ---- calls keep soundness, turns taken apart

call_goes : (r : DequeRun) → SteadyDeques r → (c : DequeCall) → Goes r (pairs_of c r) (after_deque_call c r)
unfolding pairs_of after_deque_call
call_goes r h (turn w c) = turn_goes r w c h
call_goes r h (over_pairs l) = pairs_goes r l h

pub deque_turn_steady : (r : DequeRun) (w c : ℕ) → SteadyDeques r → SteadyDeques (deque_turned r w c).run
deque_turn_steady r w c h = (turn_goes r w c h).steady

pub pairs_steady : (r : DequeRun) (l : List ℕ) → SteadyDeques r → SteadyDeques (pairs_run r l).run
pairs_steady r l h = (pairs_goes r l h).steady

pub deque_calls_steady : (r : DequeRun) → SteadyDeques r → (calls : List DequeCall) → SteadyDeques (after_deque_calls calls r)
unfolding after_deque_calls
deque_calls_steady r h [] = h
deque_calls_steady r h (c ∷ calls) = deque_calls_steady (after_deque_call c r) (call_goes r h c).steady calls

pub deque_calls_left : (r : DequeRun) → SteadyDeques r → (calls : List DequeCall) → LeftDeques r (pairs_of_calls calls r) (after_deque_calls calls r)
unfolding pairs_of_calls after_deque_calls
deque_calls_left r h [] = left_none r
deque_calls_left r h (c ∷ calls) =
    let g : Goes r (pairs_of c r) (after_deque_call c r) = call_goes r h c in
    left_append r (pairs_of c r) (after_deque_call c r) (pairs_of_calls calls (after_deque_call c r)) (after_deque_calls calls (after_deque_call c r)) g.left
    (deque_calls_left (after_deque_call c r) g.steady calls)

-- a refused turn leaves the record as it was
pub deque_turn_refused : (r : DequeRun) (w c : ℕ) (x : Refusal) → (deque_turned r w c).answer ≡ Err x → (deque_turned r w c).run ≡ r
unfolding deque_turned
deque_turn_refused r w c x e = go (try_at (deque_checks r w c) 0) e
  where
    go : (f : Result ⊤ Refusal) → (deque_turned_as f r (step_deques r w c)).answer ≡ Err x → (deque_turned_as f r (step_deques r w c)).run ≡ r
    go (Ok _) e = no_way (cc)
    go (Err y) e = refl

-- of a beginning and a list of calls: the deques left are those after the row of its turns, from the start on; the record is sound but for its turns taken
pub record TracedDeques (s : List ℕ) (p K : ℕ) (r : DequeRun) (calls : List DequeCall) : Type 0 where
  pub started : StartedDeques s p K r
  pub steady : SteadyDeques (after_deque_calls calls r)
  pub below : (g : Pair) → Memᴰ g (pairs_of_calls calls r) → (g.worker < p) × (g.choice < p)
  pub deques : deques_of (after_deque_calls calls r) ≡ row_deques (table_of (filled_out s K)) K (start_deques (table_of (filled_out s K))) (pairs_of_calls calls r)

pub deque_calls_traced : (s : List ℕ) (p K : ℕ) (r : DequeRun) → deque_begin s p K ≡ record { answer = Ok tt; run = r } → (calls : List DequeCall) → TracedDeques s p K r calls
deque_calls_traced s p K r e calls =
    let b : StartedDeques s p K r = deque_begin_started s p K r e in
    let h : SteadyDeques r = (deque_begin_sound s p K r e).steady in
    let l : LeftDeques r (pairs_of_calls calls r) (after_deque_calls calls r) = deque_calls_left r h calls in
    let o = start_values s p K r b in
    record {
      started = b;
      steady = deque_calls_steady r h calls;
      below = λ g m. rw o.1 at (l.below g m);
      deques = l.deques ∙ rw (o.0, o.2, o.3);
    }
