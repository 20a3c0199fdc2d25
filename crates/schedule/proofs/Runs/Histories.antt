-- Lists of calls: a beginning's record is sound, calls keep it so (turns taken apart, at its limit), and what a list of calls leaves is the state after its row.
use Rattle.std.specs.Prelude.{Err, Ok, Result, ⊤}
use mathlib.Core.Path.{◌≡◌, refl, sym, ap, ◌∙◌}
use Prim.Native.Nat.{ℕ, zero, suc, ◌+◌, ◌-◌, ◌^◌, ◌%◌, ◌≤◌, ◌<◌}
use native.Mathlib.Omega.{arith}
use mathlib.Core.List.Memᴰ
use mathlib.Core.List.{List, [], ◌∷◌, ◌++◌, Memᴰ}
use mathlib.Core.Logic.{◌⊎◌, inl, inr}
use mathlib.Core.Bool.{Bool, true, false}
use lib.ListN.{length, get_or, take}
use lib.Dec.{eqb}
use borrow.Author.Tests.{ltb-true, not-false}
use Rattle.table.specs.Sum.{pick}
use Rattle.table.specs.Format.{Table, table_of}
use Rattle.table.specs.Pass.{refusal, first_found, try_at}
use Rattle.table.specs.Checks.{max_threads, passes}
use Rattle.table.specs.Rules.{Rules}
use Rattle.table.specs.declared.Refusal.{Refusal}
use Rattle.table.proofs.Tests.{no_way}
use Rattle.table.proofs.Trying.{try_at_nothing}
use Rattle.schedule.specs.declared.Run.{Run}
use Rattle.schedule.specs.declared.Begun.{Begun}
use Rattle.schedule.specs.declared.Report.{Report}
use Rattle.schedule.specs.declared.Report.TheVariants.{Finished, Spent, Refused}
use Rattle.schedule.specs.declared.Ran.{Ran}
use Rattle.schedule.specs.Machine.{State}
use Rattle.schedule.specs.Record.{max_bytes, state_of, table_in}
use Rattle.order.specs.Words.{filled}
use Rattle.schedule.specs.Begin.{begin, begun_as, setting_passes, begin_passes, start_state, start_run}
use Rattle.filling.specs.Filled.{filled_out}
use Rattle.filling.proofs.Runs.{Runs}
use Rattle.order.specs.Firsts.{firsts}
use Rattle.schedule.specs.Links.{walk, laid}
use Rattle.schedule.specs.Sound.{SoundState, Steady, Sound}
use Rattle.schedule.specs.Turn.{unsound, root_ended, no_worker, turn_checks, step_run, passed_in, turned_as, turned}
use Rattle.schedule.specs.Runs.{ran, moved, drive, list_run, rounds_run}
use Rattle.schedule.specs.Calls.{Call, turn, over_list, in_rounds, turns_in, turn_row, after_call, after_calls, row_of, row_of_calls}
use Rattle.schedule.specs.Memory.{row_state}
use Rattle.schedule.specs.RowList.{after_row}
use Rattle.order.proofs.Lawful.{Lawful, lawful}
use Rattle.schedule.proofs.Sound.Facts.{Facts, sound_facts}
use Rattle.schedule.proofs.Preservation.Starts.{start_facts}
use Rattle.schedule.proofs.Runs.Rows.{row_state_append, front_workers}
use Rattle.order.proofs.Lists.{filled_front, firsts_take}
use Rattle.schedule.proofs.Beginnings.{settings_exactly, silent_runs}
use Rattle.schedule.proofs.Stores.{Fits, laid_back, moved_steady, moved_state}

-- ---- what a beginning gives

pub record Started (s : List ℕ) (p K : ℕ) (r : Run) : Type 0 where
  pub is_start : r ≡ start_run (filled_out s K) p K
  -- what the requests say of the table that runs
  pub filling : Runs s K
  pub lawful : Lawful (table_of (filled_out s K))
  pub settings : Fits p K
  pub some_worker : 1 ≤ p
  pub few_workers : p ≤ 16

-- no check applies, and the record is the start's
begin_accepted : (s : List ℕ) (p K : ℕ) (r : Run) → begin s p K ≡ record { answer = Ok tt; run = r }
    → (r ≡ start_run (filled_out s K) p K) × Runs s K × Fits p K
unfolding begin
begin_accepted s p K r e = go (first_found (passes s ++ begin_passes (table_of s) p K)) refl e
  where
    go : (f : Result ⊤ Refusal) → first_found (passes s ++ begin_passes (table_of s) p K) ≡ f → begun_as f (start_run (filled_out s K) p K) ≡ record { answer = Ok tt; run = r }
        → (r ≡ start_run (filled_out s K) p K) × Runs s K × Fits p K
    go (Ok _) n q = let (a, f, x) = silent_runs s p K n in (sym (ap (λ (x : Begun). x.run) q), x, f)
    go (Err x) n q = let z = ap (λ (y : Begun). y.answer) q in no_way (cc)

pub begin_started : (s : List ℕ) (p K : ℕ) (r : Run) → begin s p K ≡ record { answer = Ok tt; run = r } → Started s p K r
begin_started s p K r e =
    let b = begin_accepted s p K r e in
    let f : Fits p K = b.2 in
    record {
      is_start = b.0;
      filling = b.1;
      lawful = lawful (filled_out s K) b.1.rules;
      settings = f;
      some_worker = f.some_worker;
      few_workers = f.few_workers;
    }

pub start_bytes : (s : List ℕ) (p K : ℕ) → table_in (start_run s p K) ≡ table_of s
unfolding start_run
start_bytes s p K = ap table_of (filled_front max_bytes s)

-- a record with the table given, whatever its allocs
pub start_steady : (s : List ℕ) (p K : ℕ) → Rules s → first_found (setting_passes p K) ≡ Ok tt → Steady (start_run s p K)
unfolding start_run
start_steady s p K h f =
    let T : Table = table_of s in
    let q : take (length s) (filled max_bytes s) ≡ s = filled_front max_bytes s in
    let g : Facts T p K (start_state T) = start_facts T (lawful s h) p K in
    let d : SoundState T p K (start_state T) = sound_facts T (lawful s h) p K (start_state T) g in
    let back : walk max_threads (laid (start_state T).list).right (laid (start_state T).list).head ≡ (start_state T).list = laid_back T (lawful s h) p K (start_state T) g in
    record {
      table = rw q h;
      settings = f;
      state = rw (q, back) d;
      set = refl;
      table_length = ap length q;
      table_rest = ap (filled max_bytes) (sym q);
      links = ap laid (sym back);
    }

start_turns : (s : List ℕ) (p K : ℕ) → (start_run s p K).turns ≡ 0
unfolding start_run start_state
start_turns s p K = refl

pub begin_sound : (s : List ℕ) (p K : ℕ) (r : Run) → begin s p K ≡ record { answer = Ok tt; run = r } → Sound r
begin_sound s p K r e =
    let b = begin_accepted s p K r e in
    rw b.0 (record { steady = start_steady (filled_out s K) p K b.1.rules ((settings_exactly p K).1 b.2); turns = omega (arith, start_turns (filled_out s K) p K) })

-- ---- what a list of calls leaves

pub record Left (r : Run) (row : List ℕ) (r' : Run) : Type 0 where
  pub workers_below : (w : ℕ) → Memᴰ w row → w < r.workers
  pub same_table : table_in r' ≡ table_in r
  pub same_workers : r'.workers ≡ r.workers
  pub same_quota : r'.quota ≡ r.quota
  pub state : state_of r' ≡ row_state (table_in r) r.quota (state_of r) row
  pub after : r' ≡ after_row r row

left_none : (r : Run) → Left r [] r
unfolding row_state after_row
left_none r = record { workers_below = λ w m. absurd (Memᴰ.not-nil m); same_table = refl; same_workers = refl; same_quota = refl; state = refl; after = refl }

left_step : (r : Run) (w : ℕ) (row : List ℕ) (r' : Run) → Steady r → w < r.workers → Left (moved r w) row r' → Left r (w ∷ row) r'
unfolding row_state after_row
left_step r w row r' h b l =
    record {
      workers_below = λ v m. go v (Memᴰ.cases_cons m);
      same_table = l.same_table;
      same_workers = l.same_workers;
      same_quota = l.same_quota;
      state = l.state ∙ ap (λ (x : State). row_state (table_in r) r.quota x row) (moved_state r h w b);
      after = l.after;
    }
  where
    go : (v : ℕ) → (v ≡ w) ⊎ Memᴰ v row → v < r.workers
    go v (inl e) = omega arith
    go v (inr m) = l.workers_below v m

after_row_append : (r : Run) (row rest : List ℕ) → after_row r (row ++ rest) ≡ after_row (after_row r row) rest
unfolding after_row
after_row_append r [] rest = refl
after_row_append r (w ∷ row) rest = after_row_append (moved r w) row rest

left_append : (r : Run) (row : List ℕ) (r' : Run) (rest : List ℕ) (r'' : Run) → Left r row r' → Left r' rest r'' → Left r (row ++ rest) r''
left_append r row r' rest r'' l m =
    record {
      workers_below = λ w h. go w (Memᴰ.append_cases row h);
      same_table = m.same_table ∙ l.same_table;
      same_workers = m.same_workers ∙ l.same_workers;
      same_quota = m.same_quota ∙ l.same_quota;
      state = m.state ∙ rw (l.same_table, l.same_quota, l.state) (sym (row_state_append (table_in r) r.quota (state_of r) row rest));
      after = m.after ∙ ap (λ (x : Run). after_row x rest) l.after ∙ sym (after_row_append r row rest);
    }
  where
    go : (w : ℕ) → Memᴰ w row ⊎ Memᴰ w rest → w < r.workers
    go w (inl h) = l.workers_below w h
    go w (inr h) = omega (arith, m.workers_below w h, l.same_workers)

-- a call that moves the record on by a row, and keeps it sound
record Goes (r : Run) (row : List ℕ) (r' : Run) : Type 0 where
  left : Left r row r'
  steady : Steady r'

goes_none : (r : Run) → Steady r → Goes r [] r
goes_none r h = record { left = left_none r; steady = h }

-- a run of at most k turns after i, as many as it reports
record Driven (who : ℕ → ℕ) (k i : ℕ) (r : Run) (d : Ran) : Type 0 where
  low : i ≤ turns_in d.report
  high : turns_in d.report ≤ i + k
  goes : Goes r (firsts who i (turns_in d.report - i)) d.run

-- it stops
stays : (who : ℕ → ℕ) (k i : ℕ) (r : Run) (x : Report) → Steady r → turns_in x ≡ i → Driven who k i r (ran x r)
unfolding firsts
stays who k i r x h e =
    let z : turns_in x - i ≡ 0 = omega arith in
    record { low = omega arith; high = omega arith; goes = rw z (goes_none r h) }

-- it takes a turn and goes on
steps : (who : ℕ → ℕ) (k i : ℕ) (r : Run) (d : Ran) → Steady r → who i < r.workers → Driven who k (suc i) (moved r (who i)) d → Driven who (suc k) i r d
unfolding firsts
steps who k i r d h b g =
    let j : ℕ = turns_in d.report in
    let z : j - i ≡ suc (j - suc i) = omega (arith, g.low) in
    record {
      low = omega (arith, g.low);
      high = omega (arith, g.high);
      goes = rw z (record { left = left_step r (who i) (firsts who (suc i) (j - suc i)) d.run h b g.goes.left; steady = g.goes.steady });
    }

pub worker_there : (r : Run) (w : ℕ) → no_worker r w ≡ false → w < r.workers
unfolding no_worker
worker_there r w e = ltb-true w r.workers (not-false _ e)

drive_goes : (who : ℕ → ℕ) (k i : ℕ) (r : Run) → Steady r → Driven who k i r (drive who k i r)
unfolding drive
drive_goes who zero i r h = go (root_ended r)
  where
    go : (b : Bool) → Driven who zero i r (ran (pick b (Finished i) (Spent i)) r)
    go true = stays who zero i r (Finished i) h refl
    go false = stays who zero i r (Spent i) h refl
drive_goes who (suc k) i r h =
    go (root_ended r) (eqb r.turns (2 ^ 64 - 1)) (no_worker r (who i)) refl (λ q. drive_goes who k (suc i) (moved r (who i)) (moved_steady r h (who i) (worker_there r (who i) q)))
  where
    rest : Ran
    rest = drive who k (suc i) (moved r (who i))

    go : (b c d : Bool) → no_worker r (who i) ≡ d → (no_worker r (who i) ≡ false → Driven who k (suc i) (moved r (who i)) rest)
        → Driven who (suc k) i r (pick b (ran (Finished i) r) (pick c (ran (Refused i (refusal 32 0)) r) (pick d (ran (Refused i (refusal 30 0)) r) rest)))
    go true c d e ih = stays who (suc k) i r (Finished i) h refl
    go false true d e ih = stays who (suc k) i r (Refused i (refusal 32 0)) h refl
    go false false true e ih = stays who (suc k) i r (Refused i (refusal 30 0)) h refl
    go false false false e ih = steps who k i r rest h (worker_there r (who i) e) (ih e)

-- a turn that is taken is of a worker below p
turn_worker : (r : Run) (w : ℕ) → try_at (turn_checks r w) 0 ≡ Ok tt → w < r.workers
unfolding turn_checks
turn_worker r w e = worker_there r w ((try_at_nothing (turn_checks r w) 0).0 e).1.0

turn_goes : (r : Run) (w : ℕ) → Steady r → Goes r (turn_row (turned r w).answer w) (turned r w).run
unfolding turned
turn_goes r w h = go (try_at (turn_checks r w) 0) refl
  where
    go : (f : Result ⊤ Refusal) → try_at (turn_checks r w) 0 ≡ f → Goes r (turn_row (turned_as f r (passed_in r w) (step_run r w)).answer w) (turned_as f r (passed_in r w) (step_run r w)).run
    go (Ok _) e =
        let b : w < r.workers = turn_worker r w e in
        record { left = left_step r w [] (moved r w) h b (left_none (moved r w)); steady = moved_steady r h w b }
    go (Err x) e = goes_none r h

-- a run from its first turn on
from_start : {who : ℕ → ℕ} {k : ℕ} (r : Run) {d : Ran} → Driven who k 0 r d → Goes r (firsts who 0 (turns_in d.report)) d.run
from_start r {d} g =
    let e : turns_in d.report - 0 ≡ turns_in d.report = omega arith in
    rw e at g.goes

list_goes : (r : Run) (l : List ℕ) → Steady r → Goes r (take (turns_in (list_run r l).report) l) (list_run r l).run
unfolding list_run
list_goes r l h = go (unsound r)
  where
    who : ℕ → ℕ
    who i = get_or l i 0

    whole : Ran
    whole = drive who (length l) 0 r

    go : (b : Bool) → Goes r (take (turns_in (pick b (ran (Refused 0 (refusal 32 0)) r) whole).report) l) (pick b (ran (Refused 0 (refusal 32 0)) r) whole).run
    go true = goes_none r h
    go false =
        let d : Driven who (length l) 0 r whole = drive_goes who (length l) 0 r h in
        let e : turns_in whole.report ≤ length l = omega (arith, d.high) in
        rw (← firsts_take l (turns_in whole.report) e) (from_start r d)

rounds_goes : (r : Run) (limit : ℕ) → Steady r → Goes r (firsts (λ i. i % r.workers) 0 (turns_in (rounds_run r limit).report)) (rounds_run r limit).run
unfolding rounds_run firsts
rounds_goes r limit h = go (unsound r) (eqb r.workers 0)
  where
    who : ℕ → ℕ
    who i = i % r.workers

    whole : Ran
    whole = drive who limit 0 r

    rounds : Bool → Bool → Ran
    rounds b c = pick b (ran (Refused 0 (refusal 32 0)) r) (pick c (ran (Refused 0 (refusal 30 0)) r) whole)

    go : (b c : Bool) → Goes r (firsts who 0 (turns_in (rounds b c).report)) (rounds b c).run
    go true c = goes_none r h
    go false true = goes_none r h
    go false false = from_start r (drive_goes who limit 0 r h)

-- ---- calls keep soundness, turns taken apart

pub turn_steady : (r : Run) (w : ℕ) → Steady r → Steady (turned r w).run
turn_steady r w h = (turn_goes r w h).steady

pub list_steady : (r : Run) (l : List ℕ) → Steady r → Steady (list_run r l).run
list_steady r l h = (list_goes r l h).steady

pub rounds_steady : (r : Run) (limit : ℕ) → Steady r → Steady (rounds_run r limit).run
rounds_steady r limit h = (rounds_goes r limit h).steady

-- a refused turn leaves the record as it was
pub turn_refused : (r : Run) (w : ℕ) (x : Refusal) → (turned r w).answer ≡ Err x → (turned r w).run ≡ r
unfolding turned
turn_refused r w x e = go (try_at (turn_checks r w) 0) e
  where
    go : (f : Result ⊤ Refusal) → (turned_as f r (passed_in r w) (step_run r w)).answer ≡ Err x → (turned_as f r (passed_in r w) (step_run r w)).run ≡ r
    go (Ok _) e = no_way (cc)
    go (Err y) e = refl

-- ---- a whole list of calls

call_goes : (r : Run) → Steady r → (c : Call) → Goes r (row_of c r) (after_call c r)
unfolding row_of after_call
call_goes r h (turn w) = turn_goes r w h
call_goes r h (over_list l) = list_goes r l h
call_goes r h (in_rounds limit) = rounds_goes r limit h

pub calls_left : (r : Run) → Steady r → (calls : List Call) → Left r (row_of_calls calls r) (after_calls calls r)
unfolding row_of_calls after_calls
calls_left r h [] = left_none r
calls_left r h (c ∷ calls) =
    let g : Goes r (row_of c r) (after_call c r) = call_goes r h c in
    left_append r (row_of c r) (after_call c r) (row_of_calls calls (after_call c r)) (after_calls calls (after_call c r)) g.left
    (calls_left (after_call c r) g.steady calls)

pub calls_steady : (r : Run) → Steady r → (calls : List Call) → Steady (after_calls calls r)
unfolding after_calls
calls_steady r h [] = h
calls_steady r h (c ∷ calls) = calls_steady (after_call c r) (call_goes r h c).steady calls

-- and from a beginning
pub start_state_lem : (s : List ℕ) (p K : ℕ) (r : Run) → begin s p K ≡ record { answer = Ok tt; run = r }
    → (table_in r ≡ table_of (filled_out s K)) × (r.workers ≡ p) × (r.quota ≡ K) × (state_of r ≡ start_state (table_of (filled_out s K)))
unfolding start_run
start_state_lem s p K r e =
    let i : Started s p K r = begin_started s p K r e in
    let T : Table = table_of (filled_out s K) in
    rw i.is_start (start_bytes (filled_out s K) p K, refl, refl, rw (laid_back T i.lawful p K (start_state T) (start_facts T i.lawful p K)))

-- of a beginning and a list of calls: the record left is the state after the row, and is sound but for its turns taken; the workers of every front part are below p
pub record Traced (s : List ℕ) (p K : ℕ) (r : Run) (calls : List Call) : Type 0 where
  pub started : Started s p K r
  pub steady : Steady (after_calls calls r)
  pub state : state_of (after_calls calls r) ≡ row_state (table_of (filled_out s K)) K (start_state (table_of (filled_out s K))) (row_of_calls calls r)
  pub below : (front rest : List ℕ) → row_of_calls calls r ≡ front ++ rest → (w : ℕ) → Memᴰ w front → w < p

pub calls_traced : (s : List ℕ) (p K : ℕ) (r : Run) → begin s p K ≡ record { answer = Ok tt; run = r } → (calls : List Call) → Traced s p K r calls
calls_traced s p K r e calls =
    let h : Steady r = (begin_sound s p K r e).steady in
    let c : Left r (row_of_calls calls r) (after_calls calls r) = calls_left r h calls in
    let o = start_state_lem s p K r e in
    record {
      started = begin_started s p K r e;
      steady = calls_steady r h calls;
      state = cc (c.state, o.0, o.2, o.3);
      below = λ front rest d. front_workers (λ w. w < p) (row_of_calls calls r) front rest d (λ w m. omega (arith, c.workers_below w m, o.1));
    }
