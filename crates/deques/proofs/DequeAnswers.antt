-- Every call's answer has the number and the values that follow from its checks, its turns and their replies.
use Rattle.std.specs.Prelude.{Err, Ok, Result, ⊤}
use Rattle.table.specs.declared.Refusal.{Refusal}
use mathlib.Core.Path.{◌≡◌, refl, sym, ap, ◌∙◌}
use Prim.Native.Nat.{ℕ, zero, suc, ◌+◌, ◌-◌, ◌/◌, ◌^◌}
use native.Mathlib.Nat.{zero-add, suc-add, add-zero, add-suc}
use mathlib.Core.List.{List, ◌++◌}
use mathlib.Core.Bool.{Bool, true, false, not, ◌||◌, and-false}
use lib.ListN.{length}
use native.Mathlib.Omega.{arith}
use borrow.Author.Tests.{lt-ltb, le-ltb, ne_eqb}
use lib.Dec.{ltb, eqb, eqb-zero-suc, eqb-suc-suc}
use Rattle.table.specs.Sum.{pick}
use Rattle.table.specs.Format.{table_of}
use Rattle.table.specs.Pass.{refusal, try_at, first_found}
use Rattle.table.specs.Checks.{passes}
use Rattle.table.specs.Load.{if_found}
use Rattle.filling.specs.Filled.{filled_out}
use Rattle.schedule.specs.declared.Reply.{Reply}
use Rattle.schedule.specs.declared.Reply.TheVariants.{Idle, Done, Quota, Wait}
use Rattle.schedule.specs.declared.Report.TheVariants.{Finished, Spent, Refused}
use Rattle.schedule.specs.Begin.{begin_passes}
use Rattle.schedule.specs.Record.{blank}
use Rattle.schedule.specs.Turn.{root_ended, no_worker}
use Rattle.schedule.specs.Answers.{begun, finished, spent, Values, reply_values, beginning_values, report_values}
use Rattle.schedule.specs.Values.{said_values, begin_values, first_that}
use Rattle.deques.specs.declared.DequeRun.{DequeRun}
use Rattle.deques.specs.declared.DequeRan.{DequeRan}
use Rattle.deques.specs.Deques.{DequeStep}
use Rattle.deques.specs.DequeRecord.{blank_deques}
use Rattle.deques.specs.DequeSound.{deque_sound}
use Rattle.deques.specs.DequeBegin.{start_deque_run, deque_begun_as, deque_begin}
use Rattle.deques.specs.DequeTurn.{unsound_deques, no_choice, deque_checks, step_deques, deque_turned_as, deque_turned}
use Rattle.deques.specs.DequeRuns.{Pair, pair_at, deque_ran, deque_moved, drive_deques, pairs_run}
use Rattle.deques.specs.DequeValues.{deque_turning_values, deque_turn_values, after_pairs, pair_checks, stops_before, pairs_taken, pairs_stopped_by, driven_values, pairs_values}
use Rattle.deques.proofs.DequeTests.{blank_deques_exactly}
use Rattle.schedule.proofs.Runs.Values.{first_same, left_values}

-- ---- a beginning and a turn

pub deque_begin_values : (s : List ℕ) (p K : ℕ) → beginning_values (deque_begin s p K).answer ≡ begin_values s p K
unfolding deque_begin begin_values
deque_begin_values s p K = go (first_found (passes s ++ begin_passes (table_of s) p K))
  where
    go : (found : Result ⊤ Refusal) → beginning_values (deque_begun_as found (start_deque_run (filled_out s K) p K)).answer ≡ said_values found begun 0 0 0
    go (Ok _) = refl
    go (Err x) = refl

pub deque_turn_values_lem : (r : DequeRun) (w c : ℕ) → deque_turning_values (deque_turned r w c).answer ≡ deque_turn_values r w c
unfolding deque_turned deque_turn_values
deque_turn_values_lem r w c = go (try_at (deque_checks r w c) 0) (step_deques r w c) (step_deques r w c).reply refl
  where
    go : (found : Result ⊤ Refusal) (d : DequeStep) (x : Reply) → d.reply ≡ x
        → deque_turning_values (deque_turned_as found r d).answer
        ≡ said_values found (reply_values d.reply).said (reply_values d.reply).thread (reply_values d.reply).value (if_found found 0 1)
    go (Err y) d x e = refl
    go (Ok _) d Idle e = rw e
    go (Ok _) d (Done t a) e = rw e
    go (Ok _) d (Quota t a) e = rw e
    go (Ok _) d (Wait t c) e = rw e

-- ---- runs

-- a turn, and then the rest
after_next : (f : ℕ → Pair) (n : ℕ) (r : DequeRun) → after_pairs (λ i. f (suc i)) n (deque_moved r (f 0)) ≡ after_pairs f (suc n) r
unfolding after_pairs
after_next f zero r = refl
after_next f (suc n) r = ap (λ (x : DequeRun). deque_moved x (f (suc n))) (after_next f n r)

-- the values of a run that stops after n of k turns, i turns having gone before: the record that they left, and the pair of the next
abbrev stopped : ℕ → ℕ → ℕ → DequeRun → Pair → Values
stopped i n k left g = said_values (pick (eqb n k || root_ended left.run) (Ok tt) (try_at (pair_checks left g) 0)) (pick (root_ended left.run) finished spent) 0 0 (i + n)

stopped_next : (i n k : ℕ) (left : DequeRun) (g : Pair) → stopped i (suc n) (suc k) left g ≡ stopped (suc i) n k left g
stopped_next i n k left g = rw (eqb-suc-suc, add-suc, suc-add)

-- the same of a run as it goes, the pair of the turn after i + n given by f n
abbrev from : ℕ → (ℕ → Pair) → ℕ → DequeRun → Values
from i f k r = stopped i (pairs_taken f k r) k (after_pairs f (pairs_taken f k r) r) (f (pairs_taken f k r))

module _ (f : ℕ → Pair) (k : ℕ) (r : DequeRun) where
  -- it stops before its first turn
  taken_none : stops_before r (f 0) ≡ true → pairs_taken f (suc k) r ≡ 0
  unfolding pairs_taken first_that after_pairs
  taken_none e = rw e

  stop_now : (i : ℕ) → stops_before r (f 0) ≡ true
      → from i f (suc k) r ≡ said_values (pick (root_ended r.run) (Ok tt) (try_at (pair_checks r (f 0)) 0)) (pick (root_ended r.run) finished spent) 0 0 i
  unfolding after_pairs
  stop_now i e = ap (λ (n : ℕ). stopped i n (suc k) (after_pairs f n r) (f n)) (taken_none e) ∙ rw (eqb-zero-suc, add-zero)

  -- it goes on
  taken_next : stops_before r (f 0) ≡ false → pairs_taken f (suc k) r ≡ suc (pairs_taken (λ n. f (suc n)) k (deque_moved r (f 0)))
  unfolding pairs_taken first_that after_pairs
  taken_next e = rw e (ap suc (first_same _ _ (λ n. ap (λ (x : DequeRun). stops_before x (f (suc n))) (sym (after_next f n r))) k))

  go_on : (i : ℕ) → stops_before r (f 0) ≡ false → from i f (suc k) r ≡ from (suc i) (λ n. f (suc n)) k (deque_moved r (f 0))
  go_on i e =
      let m : ℕ = pairs_taken (λ n. f (suc n)) k (deque_moved r (f 0)) in
      ap (λ (n : ℕ). stopped i n (suc k) (after_pairs f n r) (f n)) (taken_next e)
      ∙ ap (λ (x : DequeRun). stopped i (suc m) (suc k) x (f (suc m))) (sym (after_next f m r))
      ∙ stopped_next i m k _ (f (suc m))

-- whether it stops, by its four tests
stops_by : (r : DequeRun) (g : Pair) → stops_before r g ≡ (root_ended r.run || (eqb r.run.turns (2 ^ 64 - 1) || (no_worker r.run g.worker || no_choice r g.choice)))
unfolding stops_before pair_checks try_at
stops_by r g = ap (λ (b : Bool). root_ended r.run || b) (go (eqb r.run.turns (2 ^ 64 - 1)) (no_worker r.run g.worker) (no_choice r g.choice))
  where
    go : (c d e : Bool) → if_found (pick c (Err (refusal 32 0)) (pick d (Err (refusal 30 0)) (pick e (Err (refusal 49 0)) (Ok tt)))) true false ≡ (c || (d || e))
    go true d e = refl
    go false true e = refl
    go false false true = refl
    go false false false = refl

module _ (who f : ℕ → Pair) (k i : ℕ) (r : DequeRun) (same : who i ≡ f 0) where
  drive_step : report_values (drive_deques who k (suc i) (deque_moved r (f 0))).report ≡ from (suc i) (λ n. f (suc n)) k (deque_moved r (f 0))
      → report_values (drive_deques who (suc k) i r).report ≡ from i f (suc k) r
  unfolding drive_deques pair_checks try_at
  drive_step rest =
      rw same (go (root_ended r.run) (eqb r.run.turns (2 ^ 64 - 1)) (no_worker r.run (f 0).worker) (no_choice r (f 0).choice) refl refl refl refl)
    where
      go : (b c d e : Bool) → root_ended r.run ≡ b → eqb r.run.turns (2 ^ 64 - 1) ≡ c → no_worker r.run (f 0).worker ≡ d → no_choice r (f 0).choice ≡ e
          → report_values
          (pick b (deque_ran (Finished i) r)
          (pick c (deque_ran (Refused i (refusal 32 0)) r)
          (pick d (deque_ran (Refused i (refusal 30 0)) r) (pick e (deque_ran (Refused i (refusal 49 0)) r) (drive_deques who k (suc i) (deque_moved r (f 0))))))
          ).report
          ≡ from i f (suc k) r
      go true c d e p q s t = sym (stop_now f k r i (stops_by r (f 0) ∙ rw p) ∙ rw p)
      go false true d e p q s t = sym (stop_now f k r i (stops_by r (f 0) ∙ rw (p, q)) ∙ rw (p, q))
      go false false true e p q s t = sym (stop_now f k r i (stops_by r (f 0) ∙ rw (p, q, s)) ∙ rw (p, q, s))
      go false false false true p q s t = sym (stop_now f k r i (stops_by r (f 0) ∙ rw (p, q, s, t)) ∙ rw (p, q, s, t))
      go false false false false p q s t = rest ∙ sym (go_on f k r i (stops_by r (f 0) ∙ rw (p, q, s, t)))

drive_values : (who f : ℕ → Pair) (k i : ℕ) (r : DequeRun) → ((n : ℕ) → who (i + n) ≡ f n) → report_values (drive_deques who k i r).report ≡ from i f k r
unfolding drive_deques pairs_taken first_that after_pairs
drive_values who f zero i r h = rw add-zero (left_values i (root_ended r.run))
drive_values who f (suc k) i r h =
    drive_step who f k i r (rw add-zero at (h 0))
    (drive_values who (λ n. f (suc n)) k (suc i) (deque_moved r (f 0)) (λ n. ap who (suc-add i n ∙ sym (add-suc i n)) ∙ h (suc n)))

-- from its first turn on, the checks before it having found nothing
run_values_lem : (who : ℕ → Pair) (k : ℕ) (r : DequeRun) → report_values (drive_deques who k 0 r).report ≡ driven_values (Ok tt) who k r
unfolding driven_values pairs_stopped_by
run_values_lem who k r = drive_values who who k 0 r (λ n. ap who (zero-add n)) ∙ rw zero-add

-- and the check before it
pub pairs_values_lem : (r : DequeRun) (l : List ℕ) → report_values (pairs_run r l).report ≡ pairs_values r l
unfolding pairs_run pairs_values try_at driven_values
pairs_values_lem r l = go (unsound_deques r) (run_values_lem (pair_at l) (length l / 2) r)
  where
    whole : DequeRan
    whole = drive_deques (pair_at l) (length l / 2) 0 r

    values : Result ⊤ Refusal → Values
    values before = driven_values before (pair_at l) (length l / 2) r

    go : (b : Bool) → report_values whole.report ≡ values (Ok tt)
        → report_values (pick b (deque_ran (Refused 0 (refusal 32 0)) r) whole).report ≡ values (pick b (Err (refusal 32 0)) (Ok tt))
    go true e = refl
    go false e = e

-- ---- the blank record

blank_passes : unsound_deques blank_deques ≡ false
unfolding unsound_deques
blank_passes = rw ((blank_deques_exactly blank_deques).1 refl) (and-false (not (deque_sound blank_deques)))

no_worker_lem : (w : ℕ) → no_worker blank_deques.run w ≡ true
unfolding no_worker blank_deques blank
no_worker_lem w = rw (le-ltb w 0 (omega arith))

blank_open : root_ended blank_deques.run ≡ false
unfolding root_ended blank_deques blank
blank_open = refl

blank_turns : eqb blank_deques.run.turns (2 ^ 64 - 1) ≡ false
unfolding blank_deques blank
blank_turns = ne_eqb 0 (2 ^ 64 - 1) (λ e. omega arith)

-- "any turn .. on it gets 30"
pub deque_blank_turn : (w c : ℕ) → deque_turned blank_deques w c ≡ record { answer = Err (refusal 30 0); run = blank_deques }
unfolding deque_turned deque_checks try_at no_worker
deque_blank_turn w c = rw (blank_passes, no_worker_lem w)

drive_blank : (who : ℕ → Pair) (k : ℕ) → drive_deques who k 0 blank_deques ≡ deque_ran (pick (ltb 0 k) (Refused 0 (refusal 30 0)) (Spent 0)) blank_deques
unfolding drive_deques
drive_blank who zero = rw blank_open
drive_blank who (suc k) = rw (blank_open, blank_turns, no_worker_lem (who 0).worker, lt-ltb 0 (suc k) (omega arith))

-- and a run with a turn to go, over two bytes or more; one over none or one byte is spent
pub deque_blank_run : (l : List ℕ) → pairs_run blank_deques l ≡ deque_ran (pick (ltb 0 (length l / 2)) (Refused 0 (refusal 30 0)) (Spent 0)) blank_deques
unfolding pairs_run
deque_blank_run l = rw blank_passes (drive_blank (pair_at l) (length l / 2))
