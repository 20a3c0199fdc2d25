-- The limits with b and no hypothesis on the row, by value. Every paced call on a record is a call without a pace, of the turns that it took, each of which the pace let through (`move_one`); so
-- what is proved of those calls holds.
use Rattle.std.specs.Prelude.{Err, Ok, Result, ⊤}
use Rattle.schedule.specs.declared.Taken.{Taken}
use Rattle.schedule.specs.Turn.{taken_turn}
use Rattle.table.specs.declared.Refusal.{Refusal}
use mathlib.Core.Path.{◌≡◌, refl, sym, ap, ap₂, subst, ◌∙◌}
use Prim.Native.Nat.{ℕ, zero, suc, ◌+◌, ◌-◌, ◌^◌, ◌<◌, ◌≤◌}
use native.Mathlib.Omega.{arith}
use mathlib.Core.List.{List, [], ◌∷◌, ◌++◌}
use mathlib.Core.Bool.{Bool, true, false, not, ◌&&◌}
use lib.ListN.{length, get_or, take}
use lib.Seq.{take-length}
use lib.Dec.{eqb, ltb}
use borrow.Author.Tests.{not-false, eqb-true, ltb-true}
use Rattle.table.specs.Sum.{pick}
use Rattle.table.specs.Format.{table_of}
use Rattle.table.specs.Pass.{refusal, try_at}
use Rattle.table.proofs.Tests.{no_way}
use Rattle.order.proofs.Lists.{firsts_take}
use Rattle.filling.specs.Filled.{filled_out}
use Rattle.schedule.specs.declared.Run.{Run}
use Rattle.schedule.specs.declared.Ran.{Ran}
use Rattle.schedule.specs.declared.Report.{Report}
use Rattle.schedule.specs.declared.Report.TheVariants.{Finished, Spent, Refused}
use Rattle.schedule.specs.Begin.{begin, start_run}
use Rattle.schedule.specs.Turn.{unsound, root_ended, no_worker, turn_checks, step_run, passed_in, turned_as, turned}
use Rattle.schedule.specs.Runs.{ran, moved, drive, list_run}
use Rattle.schedule.specs.Calls.{Call, turn, over_list, in_rounds, turns_in, turn_row, after_call, row_of, after_calls, row_of_calls}
use Rattle.schedule.proofs.Runs.Histories.{begin_started}
use Rattle.bounds.proofs.Limit.{MemoryLimit, memory_limit}
use Rattle.bounds.proofs.ThreadLimit.{ThreadLimit, thread_limit_lem}
use Rattle.pace.specs.Pace.{may, may_number, took, next_in}
use Rattle.pace.specs.Stands.{StandsFor}
use Rattle.pace.proofs.Exact.{start_stands, keeps_nil}
use Rattle.wivakkol_pace.specs.PacedRuns.{paced_worker}
use Rattle.wivakkol_pace.proofs.PacedNumbers.{number_lets}
use Rattle.pacing.specs.declared.Pace.{Pace}
use Rattle.pacing.specs.declared.PacedRan.{PacedRan}
use Rattle.pacing.specs.Pacing.{counted, begin_pace, is_taken, paced_turn, paced_turned, paced_ran, paced_drive, paced_run, paced_list_run, paced_rounds_run}
use Rattle.pacing.specs.PacedValues.{Beside, beside}
use Rattle.pacing.proofs.PacedCalls.{begun_started}
use Rattle.paced_claims.specs.PacedCalls.{workers_of}
use Rattle.paced_claims.specs.PacedMoves.{after_turn, after_run, paced_move, move_row, paced_moves, moves_row}
use Rattle.paced_claims.proofs.Keeping.{Lets, stay, step, then, Paces, lets_keep, PacedWithin, within_so}
use Rattle.paced_claims.proofs.Steps.{listed_front}

-- ---- the turns of a run

-- turns that nothing refuses, one by one
data Turns : Run → List ℕ → List ℕ → Run → List ℕ → Type 0 where
  none : {r : Run} {l : List ℕ} → Turns r l [] r l
  one : {r : Run} {l : List ℕ} {w : ℕ} {row : List ℕ} {r' : Run} {l' : List ℕ} → root_ended r ≡ false → eqb r.turns (2 ^ 64 - 1) ≡ false → no_worker r w ≡ false → may l w ≡ true
      → Turns (moved r w) (took l w) row r' l' → Turns r l (w ∷ row) r' l'

-- what a run after i turns, with k to go, leaves: as many turns as it reports
record Driven (who : ℕ → List ℕ → ℕ) (k i : ℕ) (r : Run) (l : List ℕ) (d : PacedRan) : Type 0 where
  taken : ℕ
  within : taken ≤ k
  reported : turns_in d.report ≡ i + taken
  turns : Turns r l (workers_of who i taken l) d.run d.pace.numbers

module _ (who : ℕ → List ℕ → ℕ) where
  here : (k i : ℕ) (r : Run) (P : Pace) (x : Report) → turns_in x ≡ i → Driven who k i r P.numbers (paced_ran x r P)
  unfolding workers_of
  here k i r P x e = record { taken = 0; within = omega arith; reported = omega (arith, e); turns = none }

  drive_turns : (k i : ℕ) (r : Run) (P : Pace) → Driven who k i r P.numbers (paced_drive who k i r P)
  unfolding paced_drive workers_of
  drive_turns zero i r P = here 0 i r P (pick (root_ended r) (Finished i) (Spent i)) (go (root_ended r))
    where
      go : (b : Bool) → turns_in (pick b (Finished i) (Spent i)) ≡ i
      go true = refl
      go false = refl
  drive_turns (suc k) i r P = go (root_ended r) refl (eqb r.turns (2 ^ 64 - 1)) refl (no_worker r w) refl (eqb (may_number P.numbers w) 0) refl (drive_turns k (suc i) (moved r w) (counted P w))
    where
      w : ℕ
      w = who i P.numbers

      go : (b : Bool) → root_ended r ≡ b → (c : Bool) → eqb r.turns (2 ^ 64 - 1) ≡ c → (n : Bool) → no_worker r w ≡ n → (m : Bool) → eqb (may_number P.numbers w) 0 ≡ m
          → Driven who k (suc i) (moved r w) (took P.numbers w) (paced_drive who k (suc i) (moved r w) (counted P w))
          → Driven who (suc k) i r P.numbers (pick b (paced_ran (Finished i) r P) (pick c (paced_ran (Refused i (refusal 32 0)) r P) (pick n (paced_ran (Refused i (refusal 30 0)) r P)
          (pick m (paced_drive who k (suc i) (moved r w) (counted P w)) (paced_ran (Refused i (refusal (may_number P.numbers w) 0)) r P)))))
      go true e c f n g m h rest = here (suc k) i r P (Finished i) refl
      go false e true f n g m h rest = here (suc k) i r P (Refused i (refusal 32 0)) refl
      go false e false f true g m h rest = here (suc k) i r P (Refused i (refusal 30 0)) refl
      go false e false f false g false h rest = here (suc k) i r P (Refused i (refusal (may_number P.numbers w) 0)) refl
      go false e false f false g true h rest =
          record { taken = suc rest.taken; within = omega (arith, rest.within); reported = omega (arith, rest.reported); turns = one e f g (number_lets P.numbers w (eqb-true (may_number P.numbers w) 0 h)) rest.turns }

-- they are let through, and leave p as it was
turns_let : {r r' : Run} {l l' row : List ℕ} → Turns r l row r' l' → Lets r.workers l row l'
unfolding no_worker
turns_let none = stay
turns_let (one {r} {l} {w} e f g h k) = step (ltb-true w r.workers (not-false (ltb w r.workers) g)) h (turns_let k)

turns_workers : {r r' : Run} {l l' row : List ℕ} → Turns r l row r' l' → r'.workers ≡ r.workers
turns_workers none = refl
turns_workers (one e f g h k) = turns_workers k

-- the run over a list of those workers takes them too
alone : {r r' : Run} {l l' row : List ℕ} → Turns r l row r' l' → (f : ℕ → ℕ) (j : ℕ) → ((m : ℕ) → f (j + m) ≡ get_or row m 0)
    → drive f (length row) j r ≡ ran (pick (root_ended r') (Finished (j + length row)) (Spent (j + length row))) r'
unfolding drive
alone (none {r}) f j h = let e : j + 0 ≡ j = omega arith in rw e refl
alone (one {r} {l} {w} {row} {r'} a b c d k) f j h =
    let z : j + 0 ≡ j = omega arith in
    let e : f j ≡ w = ap f (sym z) ∙ h 0 in
    let n : j + suc (length row) ≡ suc j + length row = omega arith in
    rw (a, b, e, c, n) (alone k f (suc j) (λ m. let q : suc j + m ≡ j + suc m = omega arith in ap f q ∙ h (suc m)))

-- ---- a call

-- the call without a pace that takes the same turns of the record r and leaves the same of it
record One (r : Run) (P : Pace) (row : List ℕ) (z : Beside) : Type 0 where
  call : Call
  record_is : after_call call r ≡ z.run
  row_is : row_of call r ≡ row
  lets : Lets r.workers P.numbers row z.pace.numbers
  workers : z.run.workers ≡ r.workers

-- nothing changes
idle : (r : Run) (P : Pace) → One r P [] (beside r P)
unfolding after_call row_of list_run drive
idle r P = record { call = over_list []; record_is = go (unsound r); row_is = empty (unsound r) (root_ended r); lets = stay; workers = refl }
  where
    go : (q : Bool) → (pick q (ran (Refused 0 (refusal 32 0)) r) (ran (pick (root_ended r) (Finished 0) (Spent 0)) r)).run ≡ r
    go true = refl
    go false = refl

    empty : (q b : Bool) → ◌≡◌ {A = List ℕ} (take (turns_in (pick q (ran (Refused 0 (refusal 32 0)) r) (ran (pick b (Finished 0) (Spent 0)) r)).report) []) []
    empty true b = refl
    empty false true = refl
    empty false false = refl

module _ (r : Run) (P : Pace) where
  -- the run over a list of the workers of turns, on a record that is sound or blank
  listed : unsound r ≡ false → {row l : List ℕ} {r' : Run} → Turns r P.numbers row r' l → list_run r row ≡ ran (pick (root_ended r') (Finished (length row)) (Spent (length row))) r'
  unfolding list_run
  listed e {row} {l} {r'} t =
      let q : 0 + length row ≡ length row = omega arith in
      rw e (
      alone t (λ i. get_or row i 0) 0 (λ m. let z : 0 + m ≡ m = omega arith in ap (λ (x : ℕ). get_or row x 0) z) ∙ ap (λ (n : ℕ). ran (pick (root_ended r') (Finished n) (Spent n)) r') q
      )

  turns_one : unsound r ≡ false → {row l : List ℕ} {r' : Run} → Turns r P.numbers row r' l → One r P row (beside r' (record { numbers = l }))
  unfolding after_call row_of
  turns_one e {row} {l} {r'} t =
      let d = listed e t in
      record {
        call = over_list row;
        record_is = ap (λ (x : Ran). x.run) d;
        row_is = ap (λ (x : Ran). take (turns_in x.report) row) d ∙ whole (root_ended r');
        lets = turns_let t;
        workers = turns_workers t;
      }
    where
      whole : (b : Bool) → take (turns_in (pick b (Finished (length row)) (Spent (length row)))) row ≡ row
      whole true = take-length row
      whole false = take-length row

  none_taken : (who : ℕ → List ℕ → ℕ) → workers_of who 0 0 P.numbers ≡ []
  unfolding workers_of
  none_taken who = refl

  run_one : (who : ℕ → List ℕ → ℕ) (rounds : Bool) (k : ℕ) → let d : PacedRan = paced_run who rounds k r P in One r P (workers_of who 0 (turns_in d.report) P.numbers) (after_run d)
  run_one who rounds k = go (unsound r) refl (rounds && eqb r.workers 0)
    where
      at : (d : PacedRan) → unsound r ≡ false → Driven who k 0 r P.numbers d → One r P (workers_of who 0 (turns_in d.report) P.numbers) (after_run d)
      at d e h = let q : turns_in d.report ≡ h.taken = omega (arith, h.reported) in rw q (turns_one e h.turns)

      go : (q : Bool) → unsound r ≡ q → (b : Bool)
          → let d : PacedRan = pick q (paced_ran (Refused 0 (refusal 32 0)) r P) (pick b (paced_ran (Refused 0 (refusal 30 0)) r P) (paced_drive who k 0 r P)) in
          One r P (workers_of who 0 (turns_in d.report) P.numbers) (after_run d)
      go true e b = rw (none_taken who) (idle r P)
      go false e true = rw (none_taken who) (idle r P)
      go false e false = at (paced_drive who k 0 r P) e (drive_turns who k 0 r P)

  -- as many of a list as it reports
  list_row : (l : List ℕ) → let n : ℕ = turns_in (paced_list_run r P l).report in workers_of (λ i m. get_or l i 0) 0 n P.numbers ≡ take n l
  unfolding paced_list_run paced_worker
  list_row l = let n : ℕ = turns_in (paced_list_run r P l).report in listed_front l n 0 P.numbers ∙ firsts_take l n (go (unsound r))
    where
      go : (q : Bool) → turns_in (pick q (paced_ran (Refused 0 (refusal 32 0)) r P) (paced_drive (λ i m. get_or l i 0) (length l) 0 r P)).report ≤ length l
      go true = omega arith
      go false = let h = drive_turns (λ i m. get_or l i 0) (length l) 0 r P in omega (arith, h.reported, h.within)

  -- a turn
  turned_workers : (w : ℕ) → (turned r w).run.workers ≡ r.workers
  unfolding turned
  turned_workers w = go (try_at (turn_checks r w) 0)
    where
      go : (found : Result ⊤ Refusal) → (turned_as found r (passed_in r w) (step_run r w)).run.workers ≡ r.workers
      go (Ok _) = refl
      go (Err x) = refl

  below : (w : ℕ) → is_taken (turned r w).answer ≡ true → w < r.workers
  unfolding turned turn_checks try_at no_worker
  below w e = ltb-true w r.workers (go (unsound r) (ltb w r.workers) (root_ended r) e)
    where
      go : (a b c : Bool)
          → is_taken (turned_as (pick a (Err (refusal 32 0)) (pick (not b) (Err (refusal 30 0)) (pick c (Err (refusal 31 0)) (Ok tt)))) r (passed_in r w) (step_run r w)).answer ≡ true → b ≡ true
      go true b c e = no_way (cc)
      go false true c e = refl
      go false false c e = no_way (cc)

  turn_one : (w : ℕ) → One r P (turn_row (paced_turned r P w).answer w) (after_turn (paced_turned r P w))
  unfolding paced_turned after_call row_of
  turn_one w = go (turned r w).answer refl (eqb (may_number P.numbers w) 0) refl
    where
      through : (x : Result Taken Refusal) → (turned r w).answer ≡ x → {l : List ℕ} → Lets r.workers P.numbers (turn_row x w) l → One r P (turn_row x w) (beside (turned r w).run (record { numbers = l }))
      through x e h = record { call = turn w; record_is = refl; row_is = ap (λ (y : Result Taken Refusal). turn_row y w) e; lets = h; workers = turned_workers w }

      go : (x : Result Taken Refusal) → (turned r w).answer ≡ x → (m : Bool) → eqb (may_number P.numbers w) 0 ≡ m
          → let d = pick (is_taken x) (pick m (paced_turn x (turned r w).run (counted P w)) (paced_turn (Err (refusal (may_number P.numbers w) 0)) r P)) (paced_turn x (turned r w).run P) in
          One r P (turn_row d.answer w) (after_turn d)
      go (Ok t) e true f = through (taken_turn t.reply t.passed) e (step (below w (ap is_taken e)) (number_lets P.numbers w (eqb-true (may_number P.numbers w) 0 f)) stay)
      go (Ok t) e false f = idle r P
      go (Err y) e m f = through (Err y) e stay

  move_one : (c : Call) → One r P (move_row c r P) (paced_move c r P)
  unfolding paced_move move_row paced_list_run paced_rounds_run
  move_one (turn w) = turn_one w
  move_one (over_list l) = subst (λ (row : List ℕ). One r P row (after_run (paced_list_run r P l))) (list_row l) (run_one (λ i m. get_or l i 0) false (length l))
  move_one (in_rounds limit) = run_one (λ i m. next_in m) true limit

-- ---- lists of calls

record Many (r : Run) (P : Pace) (row : List ℕ) (z : Beside) : Type 0 where
  calls : List Call
  record_is : after_calls calls r ≡ z.run
  row_is : row_of_calls calls r ≡ row
  lets : Lets r.workers P.numbers row z.pace.numbers

many : (cs : List Call) (r : Run) (P : Pace) → Many r P (moves_row cs r P) (paced_moves cs r P)
unfolding paced_moves moves_row after_calls row_of_calls
many [] r P = record { calls = []; record_is = refl; row_is = refl; lets = stay }
many (c ∷ cs) r P =
    let z : Beside = paced_move c r P in
    let o = move_one r P c in
    let m = many cs z.run z.pace in
    record {
      calls = o.call ∷ m.calls;
      record_is = ap (after_calls m.calls) o.record_is ∙ m.record_is;
      row_is = ap₂ ◌++◌ o.row_is (ap (row_of_calls m.calls) o.record_is ∙ m.row_is);
      lets = then o.lets (subst (λ (p : ℕ). Lets p z.pace.numbers (moves_row cs z.run z.pace) (paced_moves cs z.run z.pace).pace.numbers) o.workers m.lets);
    }

-- ---- the limits

-- for every accepted beginning of a run and of a pace, for the same p, and every list of paced calls, refused ones included
pub moves_limit : (s : List ℕ) (p K b : ℕ) (r : Run) → begin s p K ≡ record { answer = Ok tt; run = r } → (begin_pace p b).answer ≡ Ok tt → (calls : List Call)
    → let z : Beside = paced_moves calls r (begin_pace p b).pace in PacedWithin (table_of (filled_out s K)) p K b (moves_row calls r (begin_pace p b).pace) z.run z.pace.numbers
unfolding start_run
moves_limit s p K b r e f calls =
    let P : Pace = (begin_pace p b).pace in
    let T = table_of (filled_out s K) in
    let z : Beside = paced_moves calls r P in
    let row : List ℕ = moves_row calls r P in
    let k = begun_started p b f in
    let first : StandsFor P.numbers p b [] = subst (λ (l : List ℕ). StandsFor l p b []) (sym k.1) (start_stands p b _ k.0) in
    let n : r.workers ≡ p = ap (λ (x : Run). x.workers) (begin_started s p K r e).is_start in
    let m : Many r P row z = many calls r P in
    let c : Paces p b ([] ++ row) z.pace.numbers = lets_keep (subst (λ (q : ℕ). Lets q P.numbers row z.pace.numbers) n m.lets) [] (record { keeps = keeps_nil b; stands = first }) in
    within_so c
    (subst (λ (x : Run). MemoryLimit T p K b x row) m.record_is (subst (λ (l : List ℕ). MemoryLimit T p K b (after_calls m.calls r) l) m.row_is (memory_limit s p K r e b first.some_bound m.calls)))
    (subst (λ (x : Run). ThreadLimit T p K b x row) m.record_is (subst (λ (l : List ℕ). ThreadLimit T p K b (after_calls m.calls r) l) m.row_is (thread_limit_lem s p K r e b first.some_bound m.calls)))
