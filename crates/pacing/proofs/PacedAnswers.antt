-- Every paced call's answer has the number and the values that follow from its checks, its turns and their replies.
use Rattle.std.specs.Prelude.{Err, Ok, Result, ⊤}
use Rattle.table.specs.declared.Refusal.{Refusal}
use mathlib.Core.Path.{◌≡◌, refl, sym, ap, ◌∙◌, fun_ext}
use Prim.Native.Nat.{ℕ, zero, suc, ◌+◌, ◌-◌, ◌^◌}
use native.Mathlib.Nat.{zero-add, suc-add, add-zero, add-suc}
use mathlib.Core.List.{List, [], ◌∷◌, ◌++◌}
use mathlib.Core.Bool.{Bool, true, false, not, ◌&&◌, ◌||◌}
use lib.ListN.{length, get_or}
use lib.Dec.{ltb, leb, eqb, eqb-zero-suc, eqb-suc-suc}
use Rattle.table.specs.Sum.{pick}
use Rattle.table.specs.Pass.{Check, refusal, or_else, try_at}
use Rattle.table.specs.Load.{if_found}
use Rattle.schedule.specs.declared.Run.{Run}
use Rattle.schedule.specs.declared.Report.TheVariants.{Finished, Spent, Refused}
use Rattle.schedule.specs.Turn.{unsound, root_ended, no_worker, turn_checks, step_run, passed_in, turned}
use Rattle.schedule.specs.Runs.{moved}
use Rattle.schedule.specs.Answers.{finished, spent, Values, reply_values, passing, beginning_values, turning_values, report_values}
use Rattle.schedule.specs.Values.{said_values, turn_values, run_checks, first_that}
use Rattle.schedule.proofs.Runs.Values.{turn_values_lem}
use Rattle.pace.specs.Pace.{workers_in, may, may_number, next_in}
use Rattle.pacing.specs.declared.Pace.{Pace}
use Rattle.pacing.specs.declared.PaceBegun.{PaceBegun}
use Rattle.pacing.specs.declared.PacedTurned.{PacedTurned}
use Rattle.pacing.specs.declared.PacedRan.{PacedRan}
use Rattle.pacing.specs.Pacing.{counted, begin_pace, paced_turned, paced_ran, paced_drive, paced_run, paced_list_run, paced_rounds_run}
use Rattle.pacing.specs.PacedValues.{pace_checks, pace_values, lets_checks, paced_turn_values, Beside, beside, turn_more, after_paced, paced_checks, paced_stops, paced_taken, paced_run_values, paced_list_values, paced_rounds_values}

-- ---- a beginning and a turn

pub pace_values_lem : (p b : ℕ) → beginning_values (begin_pace p b).answer ≡ pace_values p b
unfolding begin_pace pace_values pace_checks try_at
pace_values_lem p b = go (ltb 0 p && leb p 16) refl (ltb 0 b && leb b 65535) refl
  where
    go : (x : Bool) → (ltb 0 p && leb p 16) ≡ x → (y : Bool) → (ltb 0 b && leb b 65535) ≡ y → beginning_values (begin_pace p b).answer ≡ pace_values p b
    go true e true f = rw (e, f)
    go true e false f = rw (e, f)
    go false e y f = rw e

-- more checks
try_more : (l k : List Check) (i : ℕ) → try_at (l ++ k) i ≡ or_else (try_at l i) (try_at k i)
unfolding try_at
try_more [] k i = refl
try_more (d ∷ l) k i = go (d.applies i) (try_more l k i)
  where
    go : (q : Bool) → try_at (l ++ k) i ≡ or_else (try_at l i) (try_at k i)
        → pick q (Err (refusal d.number i)) (try_at (l ++ k) i) ≡ or_else (pick q (Err (refusal d.number i)) (try_at l i)) (try_at k i)
    go true e = refl
    go false e = e

-- what the pace says of a turn
abbrev lets_found : Pace → ℕ → Result ⊤ Refusal
lets_found P w = pick (eqb (may_number P.numbers w) 0) (Ok tt) (Err (refusal (may_number P.numbers w) 0))

lets_found_lem : (P : Pace) (w : ℕ) → try_at (lets_checks P w) 0 ≡ lets_found P w
unfolding try_at may_number
lets_found_lem P w = go (ltb w (workers_in P.numbers)) (may P.numbers w)
  where
    go : (b c : Bool)
        → ◌≡◌ {A = Result ⊤ Refusal} (pick (not b) (Err (refusal 30 0)) (pick (not c) (Err (refusal 60 0)) (Ok tt)))
        (pick (eqb (pick b (pick c 0 60) 30) 0) (Ok tt) (Err (refusal (pick b (pick c 0 60) 30) 0)))
    go true true = refl
    go true false = refl
    go false c = refl

-- the values of a turn of which `found` stands in the way
abbrev said_of : Run → ℕ → Result ⊤ Refusal → Values
said_of r w found =
    let reply : Values = reply_values (step_run r w).reply in
    passing (if_found found 0 (passed_in r w)) (said_values found reply.said reply.thread reply.value (if_found found 0 1))

module _ (r : Run) (P : Pace) (w : ℕ) where
  found_more : try_at (turn_checks r w ++ lets_checks P w) 0 ≡ or_else (try_at (turn_checks r w) 0) (lets_found P w)
  found_more = try_more (turn_checks r w) (lets_checks P w) 0 ∙ ap (or_else (try_at (turn_checks r w) 0)) (lets_found_lem P w)

  said_so : turning_values (turned r w).answer ≡ said_of r w (try_at (turn_checks r w) 0)
  unfolding turn_values
  said_so = turn_values_lem r w

  pub paced_turn_values_lem : turning_values (paced_turned r P w).answer ≡ paced_turn_values r P w
  unfolding paced_turned turned paced_turn_values
  paced_turn_values_lem = go (try_at (turn_checks r w) 0) refl (eqb (may_number P.numbers w) 0) refl
    where
      go : (x : Result ⊤ Refusal) → try_at (turn_checks r w) 0 ≡ x → (m : Bool) → eqb (may_number P.numbers w) 0 ≡ m → turning_values (paced_turned r P w).answer ≡ paced_turn_values r P w
      go (Err y) e m f = rw (found_more, e) refl
      go (Ok _) e true f = rw (found_more, e, f) (rw e at said_so)
      go (Ok _) e false f = rw (found_more, e, f) refl

-- ---- runs

-- the values of a run that stops after n of k turns, i turns having gone before: what those left, and the worker of the next
abbrev stopped : ℕ → ℕ → ℕ → Beside → ℕ → Values
stopped i n k g w = said_values (pick (eqb n k || root_ended g.run) (Ok tt) (try_at (paced_checks g w) 0)) (pick (root_ended g.run) finished spent) 0 0 (i + n)

stopped_next : (i n k : ℕ) (g : Beside) (w : ℕ) → stopped i (suc n) (suc k) g w ≡ stopped (suc i) n k g w
stopped_next i n k g w = rw (eqb-suc-suc, add-suc, suc-add)

-- whose turn it is
abbrev whose : (ℕ → List ℕ → ℕ) → ℕ → Beside → ℕ
whose f n g = f n g.pace.numbers

-- the same of a run as it goes, the worker of the turn after i + n given by f n
abbrev from : ℕ → (ℕ → List ℕ → ℕ) → ℕ → Beside → Values
from i f k g = let n : ℕ = paced_taken f k g in stopped i n k (after_paced f n g) (whose f n (after_paced f n g))

-- a turn, and then the rest
after_next : (f : ℕ → List ℕ → ℕ) (n : ℕ) (g : Beside) → after_paced (λ i. f (suc i)) n (turn_more g (whose f 0 g)) ≡ after_paced f (suc n) g
unfolding after_paced
after_next f zero g = refl
after_next f (suc n) g = ap (λ (x : Beside). turn_more x (whose f (suc n) x)) (after_next f n g)

module _ (f : ℕ → List ℕ → ℕ) (k : ℕ) (g : Beside) where
  -- it stops before its first turn
  taken_none : paced_stops g (whose f 0 g) ≡ true → paced_taken f (suc k) g ≡ 0
  unfolding paced_taken first_that after_paced
  taken_none e = rw e

  stop_now : (i : ℕ) → paced_stops g (whose f 0 g) ≡ true
      → from i f (suc k) g ≡ said_values (pick (root_ended g.run) (Ok tt) (try_at (paced_checks g (whose f 0 g)) 0)) (pick (root_ended g.run) finished spent) 0 0 i
  unfolding after_paced
  stop_now i e = ap (λ (n : ℕ). stopped i n (suc k) (after_paced f n g) (whose f n (after_paced f n g))) (taken_none e) ∙ rw (eqb-zero-suc, add-zero)

  abbrev next : Beside
  next = turn_more g (whose f 0 g)

  -- it goes on
  taken_next : paced_stops g (whose f 0 g) ≡ false → paced_taken f (suc k) g ≡ suc (paced_taken (λ n. f (suc n)) k next)
  unfolding paced_taken first_that after_paced
  taken_next e =
      rw e (ap (λ (x : ℕ → Bool). suc (first_that x k)) (fun_ext (λ n. ap (λ (x : Beside). paced_stops x (whose f (suc n) x)) (sym (after_next f n g)))))

  go_on : (i : ℕ) → paced_stops g (whose f 0 g) ≡ false → from i f (suc k) g ≡ from (suc i) (λ n. f (suc n)) k next
  go_on i e =
      let m : ℕ = paced_taken (λ n. f (suc n)) k next in
      ap (λ (n : ℕ). stopped i n (suc k) (after_paced f n g) (whose f n (after_paced f n g))) (taken_next e)
      ∙ ap (λ (x : Beside). stopped i (suc m) (suc k) x (whose f (suc m) x)) (sym (after_next f m g))
      ∙ stopped_next i m k _ _

-- whether it stops, by its four tests
own_found : (r : Run) (w : ℕ) (x : Result ⊤ Refusal) → or_else (try_at (run_checks r w) 0) x ≡ pick (eqb r.turns (2 ^ 64 - 1)) (Err (refusal 32 0)) (pick (no_worker r w) (Err (refusal 30 0)) x)
unfolding run_checks try_at
own_found r w x = go (eqb r.turns (2 ^ 64 - 1)) (no_worker r w)
  where
    go : (c d : Bool) → or_else (pick c (Err (refusal 32 0)) (pick d (Err (refusal 30 0)) (Ok tt))) x ≡ pick c (Err (refusal 32 0)) (pick d (Err (refusal 30 0)) x)
    go true d = refl
    go false true = refl
    go false false = refl

found_by : (g : Beside) (w : ℕ) → try_at (paced_checks g w) 0 ≡ pick (eqb g.run.turns (2 ^ 64 - 1)) (Err (refusal 32 0)) (pick (no_worker g.run w) (Err (refusal 30 0)) (lets_found g.pace w))
unfolding paced_checks
found_by g w = try_more (run_checks g.run w) (lets_checks g.pace w) 0 ∙ ap (or_else (try_at (run_checks g.run w) 0)) (lets_found_lem g.pace w) ∙ own_found g.run w (lets_found g.pace w)

stops_by : (g : Beside) (w : ℕ) → paced_stops g w ≡ (root_ended g.run || (eqb g.run.turns (2 ^ 64 - 1) || (no_worker g.run w || not (eqb (may_number g.pace.numbers w) 0))))
unfolding paced_stops
stops_by g w =
    ap (λ (b : Bool). root_ended g.run || b) (ap (λ (x : Result ⊤ Refusal). if_found x true false) (found_by g w) ∙ go (eqb g.run.turns (2 ^ 64 - 1)) (no_worker g.run w) (eqb (may_number g.pace.numbers w) 0))
  where
    go : (c d m : Bool) → if_found (pick c (Err (refusal 32 0)) (pick d (Err (refusal 30 0)) (pick m (Ok tt) (Err (refusal (may_number g.pace.numbers w) 0))))) true false ≡ (c || (d || not m))
    go true d m = refl
    go false true m = refl
    go false false true = refl
    go false false false = refl

module _ (who f : ℕ → List ℕ → ℕ) (k i : ℕ) (r : Run) (P : Pace) (same : who i ≡ f 0) where
  abbrev w : ℕ
  w = f 0 P.numbers

  abbrev here : Beside
  here = beside r P

  drive_step : report_values (paced_drive who k (suc i) (moved r w) (counted P w)).report ≡ from (suc i) (λ n. f (suc n)) k (turn_more here w)
      → report_values (paced_drive who (suc k) i r P).report ≡ from i f (suc k) here
  unfolding paced_drive
  drive_step rest = rw same (go (root_ended r) (eqb r.turns (2 ^ 64 - 1)) (no_worker r w) (eqb (may_number P.numbers w) 0) refl refl refl refl)
    where
      go : (b c d m : Bool) → root_ended r ≡ b → eqb r.turns (2 ^ 64 - 1) ≡ c → no_worker r w ≡ d → eqb (may_number P.numbers w) 0 ≡ m
          → report_values (pick b (paced_ran (Finished i) r P) (pick c (paced_ran (Refused i (refusal 32 0)) r P) (pick d (paced_ran (Refused i (refusal 30 0)) r P)
          (pick m (paced_drive who k (suc i) (moved r w) (counted P w)) (paced_ran (Refused i (refusal (may_number P.numbers w) 0)) r P))))).report
          ≡ from i f (suc k) here
      go true c d m p q s t = sym (stop_now f k here i (stops_by here w ∙ rw p) ∙ rw (found_by here w, p))
      go false true d m p q s t = sym (stop_now f k here i (stops_by here w ∙ rw (p, q)) ∙ rw (found_by here w, p, q))
      go false false true m p q s t = sym (stop_now f k here i (stops_by here w ∙ rw (p, q, s)) ∙ rw (found_by here w, p, q, s))
      go false false false false p q s t = sym (stop_now f k here i (stops_by here w ∙ rw (p, q, s, t)) ∙ rw (found_by here w, p, q, s, t))
      go false false false true p q s t = rest ∙ sym (go_on f k here i (stops_by here w ∙ rw (p, q, s, t)))

drive_values : (who f : ℕ → List ℕ → ℕ) (k i : ℕ) (r : Run) (P : Pace) → ((n : ℕ) → who (i + n) ≡ f n) → report_values (paced_drive who k i r P).report ≡ from i f k (beside r P)
unfolding paced_drive paced_taken first_that after_paced
drive_values who f zero i r P h = rw add-zero (go (root_ended r))
  where
    go : (b : Bool) → report_values (pick b (Finished i) (Spent i)) ≡ said_values (Ok tt) (pick b finished spent) 0 0 i
    go true = refl
    go false = refl
drive_values who f (suc k) i r P h =
    let w : ℕ = f 0 P.numbers in
    drive_step who f k i r P (rw add-zero at (h 0))
    (drive_values who (λ n. f (suc n)) k (suc i) (moved r w) (counted P w) (λ n. ap who (suc-add i n ∙ sym (add-suc i n)) ∙ h (suc n)))

-- what the checks before the first turn find
before_found : (r : Run) (b : Bool) → try_at (record { number = 32; applies = λ i. unsound r } ∷ record { number = 30; applies = λ i. b } ∷ []) 0 ≡ pick (unsound r) (Err (refusal 32 0)) (pick b (Err (refusal 30 0)) (Ok tt))
unfolding try_at
before_found r b = refl

run_values_lem : (who : ℕ → List ℕ → ℕ) (rounds : Bool) (k : ℕ) (r : Run) (P : Pace) → report_values (paced_run who rounds k r P).report ≡ paced_run_values who rounds k (beside r P)
unfolding paced_run_values
run_values_lem who rounds k r P = go (unsound r) refl (rounds && eqb r.workers 0) refl
  where
    go : (b : Bool) → unsound r ≡ b → (c : Bool) → (rounds && eqb r.workers 0) ≡ c → report_values (paced_run who rounds k r P).report ≡ paced_run_values who rounds k (beside r P)
    go true e c f = rw (before_found r (rounds && eqb r.workers 0), e)
    go false e true f = rw (before_found r (rounds && eqb r.workers 0), e, f)
    go false e false f = rw (before_found r (rounds && eqb r.workers 0), e, f) (drive_values who who k 0 r P (λ n. ap who (zero-add n)) ∙ rw zero-add)

-- the values of an answer that is the definition's

pub begun_answers : (p b : ℕ) {x : PaceBegun} → x ≡ begin_pace p b → (x ≡ begin_pace p b) × (beginning_values x.answer ≡ pace_values p b)
begun_answers p b e = (e, ap (λ (z : PaceBegun). beginning_values z.answer) e ∙ pace_values_lem p b)

pub turned_answers : (r : Run) (P : Pace) (w : ℕ) {x : PacedTurned} → x ≡ paced_turned r P w → (x ≡ paced_turned r P w) × (turning_values x.answer ≡ paced_turn_values r P w)
turned_answers r P w e = (e, ap (λ (z : PacedTurned). turning_values z.answer) e ∙ paced_turn_values_lem r P w)

pub list_answers : (r : Run) (P : Pace) (l : List ℕ) {x : PacedRan} → x ≡ paced_list_run r P l → (x ≡ paced_list_run r P l) × (report_values x.report ≡ paced_list_values r P l)
unfolding paced_list_run paced_list_values
list_answers r P l e = (e, ap (λ (z : PacedRan). report_values z.report) e ∙ run_values_lem (λ i n. get_or l i 0) false (length l) r P)

pub rounds_answers : (r : Run) (P : Pace) (limit : ℕ) {x : PacedRan} → x ≡ paced_rounds_run r P limit → (x ≡ paced_rounds_run r P limit) × (report_values x.report ≡ paced_rounds_values r P limit)
unfolding paced_rounds_run paced_rounds_values
rounds_answers r P limit e = (e, ap (λ (z : PacedRan). report_values z.report) e ∙ run_values_lem (λ i n. next_in n) true limit r P)
