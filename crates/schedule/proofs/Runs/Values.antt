-- Every call's answer has the number and the values that follow from its checks, its turns and their replies.
use Rattle.std.specs.Prelude.{Err, Ok, Result, ⊤}
use Rattle.table.specs.declared.Refusal.{Refusal}
use mathlib.Core.Path.{◌≡◌, refl, sym, ap, ◌∙◌, fun_ext}
use Prim.Native.Nat.{ℕ, zero, suc, ◌+◌, ◌-◌, ◌^◌, ◌%◌, ◌≤◌, ◌<◌}
use native.Mathlib.Omega.{arith}
use native.Mathlib.Nat.{zero-add, suc-add, add-zero, add-suc}
use mathlib.Core.List.{List, ◌++◌}
use mathlib.Core.Bool.{Bool, true, false, ◌||◌}
use lib.ListN.{length, get_or}
use lib.Dec.{eqb, eqb-zero-suc, eqb-suc-suc}
use Rattle.table.specs.Sum.{pick}
use Rattle.table.specs.Format.{table_of}
use Rattle.table.specs.Pass.{refusal, try_at, first_found}
use Rattle.table.specs.Checks.{passes}
use Rattle.table.specs.Load.{if_found}
use Rattle.schedule.specs.declared.Run.{Run}
use Rattle.schedule.specs.declared.Ran.{Ran}
use Rattle.schedule.specs.declared.Reply.{Reply}
use Rattle.schedule.specs.declared.Reply.TheVariants.{Idle, Done, Quota, Wait}
use Rattle.schedule.specs.declared.Report.TheVariants.{Finished, Spent, Refused}
use Rattle.schedule.specs.Machine.{Stepped}
use Rattle.schedule.specs.Begin.{begin_passes, start_run, begun_as, begin}
use Rattle.filling.specs.Filled.{filled_out}
use Rattle.schedule.specs.Turn.{unsound, root_ended, no_worker, turn_checks, step_run, passed_in, turned_as, turned}
use Rattle.schedule.specs.Runs.{ran, moved, drive, list_run, rounds_run}
use Rattle.schedule.specs.Answers.{begun, finished, spent, Values, reply_values, passing, beginning_values, turning_values, report_values}
use Rattle.schedule.specs.Values.{said_values, begin_values, turn_values, after_turns, run_checks, stops, first_that, turns_taken, stopped_by, run_values, list_values, rounds_values}

-- ---- a beginning and a turn

pub begin_values_lem : (s : List ℕ) (p K : ℕ) → beginning_values (begin s p K).answer ≡ begin_values s p K
unfolding begin begin_values
begin_values_lem s p K = go (first_found (passes s ++ begin_passes (table_of s) p K))
  where
    go : (found : Result ⊤ Refusal) → beginning_values (begun_as found (start_run (filled_out s K) p K)).answer ≡ said_values found begun 0 0 0
    go (Ok _) = refl
    go (Err x) = refl

pub turn_values_lem : (r : Run) (w : ℕ) → turning_values (turned r w).answer ≡ turn_values r w
unfolding turned turn_values
turn_values_lem r w = go (try_at (turn_checks r w) 0) (step_run r w) (step_run r w).reply refl
  where
    go : (found : Result ⊤ Refusal) (d : Stepped) (x : Reply) → d.reply ≡ x
        → turning_values (turned_as found r (passed_in r w) d).answer
        ≡ passing (if_found found 0 (passed_in r w))
        (said_values found (reply_values d.reply).said (reply_values d.reply).thread (reply_values d.reply).value (if_found found 0 1))
    go (Err y) d x e = refl
    go (Ok _) d Idle e = rw e
    go (Ok _) d (Done t a) e = rw e
    go (Ok _) d (Quota t a) e = rw e
    go (Ok _) d (Wait t c) e = rw e

-- ---- runs

-- a turn, and then the rest
after_next : (f : ℕ → ℕ) (n : ℕ) (r : Run) → after_turns (λ i. f (suc i)) n (moved r (f 0)) ≡ after_turns f (suc n) r
unfolding after_turns
after_next f zero r = refl
after_next f (suc n) r = ap (λ (x : Run). moved x (f (suc n))) (after_next f n r)

pub first_same : (g h : ℕ → Bool) → ((n : ℕ) → g n ≡ h n) → (k : ℕ) → first_that g k ≡ first_that h k
first_same g h e k = ap (λ (x : ℕ → Bool). first_that x k) (fun_ext e)

-- the first that passes is one that passes, or k where none below it does, and none before it passes
pub record First (g : ℕ → Bool) (k n : ℕ) : Type 0 where
  pub within : n ≤ k
  pub passes : n < k → g n ≡ true
  pub least : (j : ℕ) → j < n → g j ≡ false

pub first_that_lem : (g : ℕ → Bool) (k : ℕ) → First g k (first_that g k)
unfolding first_that
first_that_lem g zero = record { within = omega arith; passes = λ l. absurd (omega arith); least = λ j l. absurd (omega arith) }
first_that_lem g (suc k) = go (g 0) refl (first_that_lem (λ n. g (suc n)) k)
  where
    m : ℕ
    m = first_that (λ n. g (suc n)) k

    go : (b : Bool) → g 0 ≡ b → First (λ n. g (suc n)) k m → First g (suc k) (pick b 0 (suc m))
    go true e f = record { within = omega arith; passes = λ l. e; least = λ j l. absurd (omega arith) }
    go false e f = record { within = omega (arith, f.within); passes = λ l. f.passes (omega arith); least = below }
      where
        below : (j : ℕ) → j < suc m → g j ≡ false
        below zero l = e
        below (suc j) l = f.least j (omega arith)

-- of a run: before each of its turns it does not stop, and after them it does, or no turn is left
pub taken_first : (who : ℕ → ℕ) (k : ℕ) (r : Run) → First (λ n. stops (after_turns who n r) (who n)) k (turns_taken who k r)
unfolding turns_taken
taken_first who k r = first_that_lem (λ n. stops (after_turns who n r) (who n)) k

-- the values of a run that stops after n of k turns, i turns having gone before: the record that they left, and the worker of the next
abbrev stopped : ℕ → ℕ → ℕ → Run → ℕ → Values
stopped i n k left w = said_values (pick (eqb n k || root_ended left) (Ok tt) (try_at (run_checks left w) 0)) (pick (root_ended left) finished spent) 0 0 (i + n)

stopped_next : (i n k : ℕ) (left : Run) (w : ℕ) → stopped i (suc n) (suc k) left w ≡ stopped (suc i) n k left w
stopped_next i n k left w = rw (eqb-suc-suc, add-suc, suc-add)

-- the same of a run as it goes, the worker of the turn after i + n given by f n
abbrev from : ℕ → (ℕ → ℕ) → ℕ → Run → Values
from i f k r = stopped i (turns_taken f k r) k (after_turns f (turns_taken f k r) r) (f (turns_taken f k r))

module _ (f : ℕ → ℕ) (k : ℕ) (r : Run) where
  -- it stops before its first turn
  taken_none : stops r (f 0) ≡ true → turns_taken f (suc k) r ≡ 0
  unfolding turns_taken first_that after_turns
  taken_none e = rw e

  stop_now : (i : ℕ) → stops r (f 0) ≡ true
      → from i f (suc k) r ≡ said_values (pick (root_ended r) (Ok tt) (try_at (run_checks r (f 0)) 0)) (pick (root_ended r) finished spent) 0 0 i
  unfolding after_turns
  stop_now i e = ap (λ (n : ℕ). stopped i n (suc k) (after_turns f n r) (f n)) (taken_none e) ∙ rw (eqb-zero-suc, add-zero)

  -- it goes on
  taken_next : stops r (f 0) ≡ false → turns_taken f (suc k) r ≡ suc (turns_taken (λ n. f (suc n)) k (moved r (f 0)))
  unfolding turns_taken first_that after_turns
  taken_next e = rw e (ap suc (first_same _ _ (λ n. ap (λ (x : Run). stops x (f (suc n))) (sym (after_next f n r))) k))

  go_on : (i : ℕ) → stops r (f 0) ≡ false → from i f (suc k) r ≡ from (suc i) (λ n. f (suc n)) k (moved r (f 0))
  go_on i e =
      let m : ℕ = turns_taken (λ n. f (suc n)) k (moved r (f 0)) in
      ap (λ (n : ℕ). stopped i n (suc k) (after_turns f n r) (f n)) (taken_next e)
      ∙ ap (λ (x : Run). stopped i (suc m) (suc k) x (f (suc m))) (sym (after_next f m r))
      ∙ stopped_next i m k _ (f (suc m))

-- whether it stops, by its three tests
stops_by : (r : Run) (w : ℕ) → stops r w ≡ (root_ended r || (eqb r.turns (2 ^ 64 - 1) || no_worker r w))
unfolding stops run_checks try_at
stops_by r w = ap (λ (b : Bool). root_ended r || b) (go (eqb r.turns (2 ^ 64 - 1)) (no_worker r w))
  where
    go : (c d : Bool) → if_found (pick c (Err (refusal 32 0)) (pick d (Err (refusal 30 0)) (Ok tt))) true false ≡ (c || d)
    go true d = refl
    go false true = refl
    go false false = refl

module _ (who f : ℕ → ℕ) (k i : ℕ) (r : Run) (same : who i ≡ f 0) where
  drive_step : report_values (drive who k (suc i) (moved r (f 0))).report ≡ from (suc i) (λ n. f (suc n)) k (moved r (f 0)) → report_values (drive who (suc k) i r).report ≡ from i f (suc k) r
  unfolding drive run_checks try_at
  drive_step rest = rw same (go (root_ended r) (eqb r.turns (2 ^ 64 - 1)) (no_worker r (f 0)) refl refl refl)
    where
      go : (b c d : Bool) → root_ended r ≡ b → eqb r.turns (2 ^ 64 - 1) ≡ c → no_worker r (f 0) ≡ d
          → report_values (pick b (ran (Finished i) r) (pick c (ran (Refused i (refusal 32 0)) r) (pick d (ran (Refused i (refusal 30 0)) r) (drive who k (suc i) (moved r (f 0)))))).report
          ≡ from i f (suc k) r
      go true c d p q s = sym (stop_now f k r i (stops_by r (f 0) ∙ rw p) ∙ rw p)
      go false true d p q s = sym (stop_now f k r i (stops_by r (f 0) ∙ rw (p, q)) ∙ rw (p, q))
      go false false true p q s = sym (stop_now f k r i (stops_by r (f 0) ∙ rw (p, q, s)) ∙ rw (p, q, s))
      go false false false p q s = rest ∙ sym (go_on f k r i (stops_by r (f 0) ∙ rw (p, q, s)))

-- what a run answers that no check stops
pub left_values : (i : ℕ) (over : Bool) → report_values (pick over (Finished i) (Spent i)) ≡ said_values (Ok tt) (pick over finished spent) 0 0 i
left_values i true = refl
left_values i false = refl

-- a reply is no refusal
pub reply_number : (x : Reply) → (reply_values x).number ≡ 0
reply_number Idle = refl
reply_number (Done t a) = refl
reply_number (Quota t a) = refl
reply_number (Wait t c) = refl

drive_values : (who f : ℕ → ℕ) (k i : ℕ) (r : Run) → ((n : ℕ) → who (i + n) ≡ f n) → report_values (drive who k i r).report ≡ from i f k r
unfolding drive turns_taken first_that after_turns
drive_values who f zero i r h = rw add-zero (left_values i (root_ended r))
drive_values who f (suc k) i r h =
    drive_step who f k i r (rw add-zero at (h 0))
    (drive_values who (λ n. f (suc n)) k (suc i) (moved r (f 0)) (λ n. ap who (suc-add i n ∙ sym (add-suc i n)) ∙ h (suc n)))

-- from its first turn on, the checks before it having found nothing
run_values_lem : (who : ℕ → ℕ) (k : ℕ) (r : Run) → report_values (drive who k 0 r).report ≡ run_values (Ok tt) who k r
unfolding run_values stopped_by
run_values_lem who k r = drive_values who who k 0 r (λ n. ap who (zero-add n)) ∙ rw zero-add

-- and those checks before it
pub list_values_lem : (r : Run) (l : List ℕ) → report_values (list_run r l).report ≡ list_values r l
unfolding list_run list_values try_at run_values
list_values_lem r l = go (unsound r) (run_values_lem (λ i. get_or l i 0) (length l) r)
  where
    whole : Ran
    whole = drive (λ i. get_or l i 0) (length l) 0 r

    values : Result ⊤ Refusal → Values
    values before = run_values before (λ i. get_or l i 0) (length l) r

    go : (b : Bool) → report_values whole.report ≡ values (Ok tt)
        → report_values (pick b (ran (Refused 0 (refusal 32 0)) r) whole).report ≡ values (pick b (Err (refusal 32 0)) (Ok tt))
    go true e = refl
    go false e = e

pub rounds_values_lem : (r : Run) (limit : ℕ) → report_values (rounds_run r limit).report ≡ rounds_values r limit
unfolding rounds_run rounds_values try_at run_values
rounds_values_lem r limit = go (unsound r) (eqb r.workers 0) (run_values_lem (λ i. i % r.workers) limit r)
  where
    whole : Ran
    whole = drive (λ i. i % r.workers) limit 0 r

    values : Result ⊤ Refusal → Values
    values before = run_values before (λ i. i % r.workers) limit r

    go : (b c : Bool) → report_values whole.report ≡ values (Ok tt)
        → report_values (pick b (ran (Refused 0 (refusal 32 0)) r) (pick c (ran (Refused 0 (refusal 30 0)) r) whole)).report
        ≡ values (pick b (Err (refusal 32 0)) (pick c (Err (refusal 30 0)) (Ok tt)))
    go true c e = refl
    go false true e = refl
    go false false e = e
