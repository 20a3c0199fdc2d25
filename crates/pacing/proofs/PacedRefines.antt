-- A paced run by value on a record that passed check 32 is the run in the memory into which the record was packed: on a sound record turn by turn, and on the blank one at once.
use mathlib.Core.Path.{◌≡◌, refl, ap, ◌∙◌}
use Prim.Native.Nat.{ℕ, zero, suc, ◌-◌, ◌^◌, ◌<◌}
use native.Mathlib.Omega.{arith}
use native.Mathlib.Decide.{ℕ_discrete}
use mathlib.Core.List.{List, []}
use mathlib.Core.Bool.{Bool, true, false, not, ◌&&◌}
use borrow.Author.Tests.{eqb-false, ne_eqb, le-ltb}
use lib.Dec.{ltb, eqb}
use lib.ListN.{length, get_or}
use Rattle.table.specs.Sum.{pick}
use Rattle.table.specs.Pass.{refusal}
use Rattle.schedule.specs.declared.Run.{Run}
use Rattle.schedule.specs.declared.Report.{Report}
use Rattle.schedule.specs.declared.Report.TheVariants.{Finished, Spent, Refused}
use Rattle.schedule.specs.Record.{bytes_of, table_in}
use Rattle.schedule.specs.Sound.{Sound}
use Rattle.schedule.specs.Parents.{Parents}
use Rattle.schedule.specs.Turn.{unsound, root_ended, no_worker}
use Rattle.schedule.proofs.Stores.{steady_fits}
use Rattle.soundness.proofs.Passed.{has_workers}
use Rattle.run_memory.specs.Memory.{Memory, moved_in, hindrance, turn_in}
use Rattle.run_memory.specs.Stands.{run_in, Stands}
use Rattle.run_memory.specs.Packing.{memory_for, record_of}
use Rattle.run_memory.specs.Runs.{stopped, over_in, report_of}
use Rattle.run_memory.proofs.Refines.{taken_so}
use Rattle.run_memory.proofs.Packed.{read_back, packed_record, packed_stands}
use Rattle.asyncdf.proofs.Calls.{first_turn, open_root, workers_none, turns_few, root_going, same}
use Rattle.pace.specs.Pace.{may_number}
use Rattle.wivakkol_pace.specs.Paced.{held_back, paced_in}
use Rattle.wivakkol_pace.specs.PacedRuns.{PacedStop, paced_stop, paced_worker}
use Rattle.wivakkol_pace.specs.PacedRuns.{paced_drive as drive_in}
use Rattle.wivakkol_pace.specs.PacedRuns.{paced_run as run_from}
use Rattle.wivakkol_pace.proofs.PacedTurns.{holds_back}
use Rattle.wivakkol_pace.proofs.PacedNumbers.{run_number}
use Rattle.pacing.specs.declared.Pace.{Pace}
use Rattle.pacing.specs.declared.PacedRan.{PacedRan}
use Rattle.pacing.specs.Pacing.{pace, paced_ran, paced_drive, paced_run, paced_list_run, paced_rounds_run}

-- ---- turn by turn, where a record stands

-- where a run in memory M stopped: it is the run x of the record, and p and K are as they were
record Runs (s : List ℕ) (M : Memory) (d : PacedStop) (x : PacedRan) : Type 0 where
  by_value : paced_ran (report_of d.stop.number d.stop.finished d.stop.turns) (run_in s d.stop.memory) (pace d.pace) ≡ x
  settings : d.stop.memory.settings ≡ M.settings

module _ (s : List ℕ) (who : ℕ → List ℕ → ℕ) (k i : ℕ) (M : Memory) (l : List ℕ) (h : Stands s M) where
  abbrev w : ℕ
  w = who i l

  abbrev Goal : Type 0
  Goal = Runs s M (drive_in s who (suc k) i M l) (paced_drive who (suc k) i (run_in s M) (pace l))

  abbrev Rest : Type 0
  Rest = (M' : Memory) (l' : List ℕ) → Stands s M' → Runs s M' (drive_in s who k (suc i) M' l') (paced_drive who k (suc i) (run_in s M') (pace l'))

  -- "a run stops at the root's end"
  over_so : over_in M ≡ true → Goal
  unfolding drive_in paced_drive root_ended
  over_so e = rw e (record { by_value = refl; settings = refl })

  module _ (e : over_in M ≡ false) where
    full_so : eqb (moved_in M).turns (2 ^ 64 - 1) ≡ true → Goal
    unfolding drive_in paced_in held_back turn_in hindrance paced_drive root_ended
    full_so f = rw (e, f) (record { by_value = refl; settings = refl })

    module _ (f : eqb (moved_in M).turns (2 ^ 64 - 1) ≡ false) where
      none_so : ltb w (get_or M.settings 0 0) ≡ false → Goal
      unfolding drive_in paced_in held_back turn_in hindrance paced_drive root_ended no_worker
      none_so g = rw (e, f, g) (record { by_value = refl; settings = refl })

      module _ (g : ltb w (get_or M.settings 0 0) ≡ true) where
        -- the pace's number is asked
        asked : may_number l w ≡ held_back w M l
        unfolding held_back hindrance
        asked = rw (f, g, e) refl

        held_so : eqb (may_number l w) 0 ≡ false → Goal
        unfolding drive_in paced_drive root_ended no_worker
        held_so m =
            rw (e, f, g, ← holds_back s w M l asked (eqb-false (may_number l w) 0 m), m)
            (record { by_value = ap (λ (b : Bool). paced_ran (pick b (pick false (Finished i) (Spent i)) (Refused i (refusal (may_number l w) 0))) (run_in s M) (pace l)) m; settings = refl })

        goes_on : eqb (may_number l w) 0 ≡ true → Rest → Goal
        unfolding drive_in paced_in held_back hindrance paced_drive root_ended no_worker
        goes_on m rest =
            let t = taken_so s M h w f g e in
            let r = rest (turn_in s w M).memory _ t.stands in
            rw (e, f, g, m, t.number, ← t.record_after) (record { by_value = r.by_value; settings = r.settings ∙ t.settings })

module _ (s : List ℕ) (who : ℕ → List ℕ → ℕ) where
  drive_refines : (k i : ℕ) (M : Memory) (l : List ℕ) → Stands s M → Runs s M (drive_in s who k i M l) (paced_drive who k i (run_in s M) (pace l))
  unfolding drive_in paced_drive root_ended
  drive_refines zero i M l h = record { by_value = refl; settings = refl }
  drive_refines (suc k) i M l h =
      go (over_in M) refl (eqb (moved_in M).turns (2 ^ 64 - 1)) refl (ltb (who i l) (get_or M.settings 0 0)) refl (eqb (may_number l (who i l)) 0) refl (λ M' l' h'. drive_refines k (suc i) M' l' h')
    where
      go : (b : Bool) → over_in M ≡ b → (x : Bool) → eqb (moved_in M).turns (2 ^ 64 - 1) ≡ x → (y : Bool) → ltb (who i l) (get_or M.settings 0 0) ≡ y → (z : Bool) → eqb (may_number l (who i l)) 0 ≡ z
          → Rest s who k i M l h → Goal s who k i M l h
      go true e x f y g z m rest = over_so s who k i M l h e
      go false e true f y g z m rest = full_so s who k i M l h e f
      go false e false f false g z m rest = none_so s who k i M l h e f g
      go false e false f true g false m rest = held_so s who k i M l h e f g m
      go false e false f true g true m rest = goes_on s who k i M l h e f g m rest

-- ---- a record that passed the test, packed

module _ (run : Run) (e : unsound run ≡ false) (parents : List ℕ) (right : Sound run → Parents (table_in run) parents) {M : Memory} (m : M ≡ memory_for run parents) (who : ℕ → List ℕ → ℕ) (rounds : Bool) (l : List ℕ) where
  abbrev value : PacedStop → PacedRan
  value d = paced_ran (report_of d.stop.number d.stop.finished d.stop.turns) (record_of run d.stop.memory) (pace d.pace)

  -- the blank record: in rounds, or with a turn to go, 30
  module _ (n : run.workers ≡ 0) where
    not_full : eqb (moved_in M).turns (2 ^ 64 - 1) ≡ false
    not_full = ne_eqb (moved_in M).turns (2 ^ 64 - 1) (turns_few run e parents right m n)

    none_in : (b : Bool) (k : ℕ) → run_from (bytes_of run) who b k M l ≡ paced_stop (pick (not b && eqb k 0) (stopped 0 false 0 M) (stopped 30 false 0 M)) l
    unfolding run_from drive_in paced_in held_back turn_in hindrance
    none_in true k = rw (not_full, workers_none run e parents right m n)
    none_in false zero = rw (not_full, root_going run e parents right m n)
    none_in false (suc k) = rw (not_full, root_going run e parents right m n, workers_none run e parents right m n, le-ltb (who 0 l) 0 (omega arith), ne_eqb (suc k) 0 (λ z. omega (arith, z)))

    none_run : (b : Bool) (k : ℕ) → paced_ran (pick (not b && eqb k 0) (Spent 0) (Refused 0 (refusal 30 0))) run (pace l) ≡ paced_run who b k run (pace l)
    unfolding paced_drive no_worker
    none_run true k = rw (e, n)
    none_run false zero = rw (e, open_root run e n)
    none_run false (suc k) = rw (e, open_root run e n, ne_eqb run.turns (2 ^ 64 - 1) (first_turn run e n), n, le-ltb (who 0 l) 0 (omega arith), ne_eqb (suc k) 0 (λ z. omega (arith, z)))

    blank_taken : (k : ℕ) → value (run_from (bytes_of run) who rounds k M l) ≡ paced_run who rounds k run (pace l)
    blank_taken k = ap value (none_in rounds k) ∙ both (not rounds && eqb k 0) (same run e parents right m n) ∙ none_run rounds k
      where
        both : (q : Bool) → record_of run M ≡ run
            → value (paced_stop (pick q (stopped 0 false 0 M) (stopped 30 false 0 M)) l) ≡ paced_ran (pick q (Spent 0) (Refused 0 (refusal 30 0))) run (pace l)
        both true h = ap (λ (x : Run). paced_ran (Spent 0) x (pace l)) h
        both false h = ap (λ (x : Run). paced_ran (Refused 0 (refusal 30 0)) x (pace l)) h

  -- a sound one
  module _ (h : Sound run) where
    some : eqb run.workers 0 ≡ false
    some = ne_eqb run.workers 0 (λ z. omega (arith, z, (steady_fits run h.steady).some_worker))

    some_in : eqb (get_or M.settings 0 0) 0 ≡ false
    some_in = ap (λ (x : Memory). eqb (get_or x.settings 0 0) 0) m ∙ some

    none_and : (b : Bool) → (b && false) ≡ false
    none_and true = refl
    none_and false = refl

    sound_taken : (k : ℕ) → value (run_from (bytes_of run) who rounds k M l) ≡ paced_run who rounds k run (pace l)
    unfolding run_from
    sound_taken k =
        let s : List ℕ = bytes_of run in
        let first : (moved_in M).turns ≡ run.turns = ap (λ (x : Memory). (moved_in x).turns) m in
        let standing : Stands s M = packed_stands h.steady parents m (right h) (omega (arith, h.turns)) in
        let d : PacedStop = drive_in s who k 0 M l in
        let v = drive_refines s who k 0 M l standing in
        rw (e, ne_eqb (moved_in M).turns (2 ^ 64 - 1) (λ x. omega (arith, x, first, h.turns)), some, some_in, none_and rounds) (
        ap (λ (x : Run). paced_ran (report_of d.stop.number d.stop.finished d.stop.turns) x (pace d.pace))
        (read_back h.steady d.stop.memory (v.settings ∙ ap (λ (x : Memory). x.settings) m))
        ∙ v.by_value
        ∙ ap (λ (x : Run). paced_drive who k 0 x (pace l)) (packed_record h.steady parents m)
        )

  pub run_taken : (k : ℕ) {d : PacedStop} → d ≡ run_from (bytes_of run) who rounds k M l → value d ≡ paced_run who rounds k run (pace l)
  run_taken k f = ap value f ∙ go (ℕ_discrete run.workers 0)
    where
      go : Dec (run.workers ≡ 0) → value (run_from (bytes_of run) who rounds k M l) ≡ paced_run who rounds k run (pace l)
      go (yes n) = blank_taken n k
      go (no n) = sound_taken (has_workers run e (omega (arith, n))) k

-- its number is one of a refusal
pub run_small : (s : List ℕ) (who : ℕ → List ℕ → ℕ) (rounds : Bool) (limit : ℕ) (M : Memory) (l : List ℕ) {number turns : ℕ} {over : Bool} {M' : Memory} {l' : List ℕ}
    → paced_stop (stopped number over turns M') l' ≡ run_from s who rounds limit M l → number < 256
run_small s who rounds limit M l e = omega (arith, ap (λ (d : PacedStop). d.stop.number) e, run_number s who rounds limit M l)

-- ---- a run that check 32 refuses

pub run_unsound : (who : ℕ → List ℕ → ℕ) (rounds : Bool) (k : ℕ) (r : Run) (P : Pace) → unsound r ≡ true → paced_ran (Refused 0 (refusal 32 0)) r P ≡ paced_run who rounds k r P
run_unsound who rounds k r P e = rw e

-- ---- an answer put together

pub ran_as : {x x' : Report} {r r' : Run} {P : Pace} {y : PacedRan} → x ≡ x' → r ≡ r' → paced_ran x' r' P ≡ y → paced_ran x r P ≡ y
ran_as {P = P} e f g = (λ i. paced_ran (e i) (f i) P) ∙ g

-- ---- over a list and in rounds

pub list_so : (r : Run) (P : Pace) (l : List ℕ) → paced_run (paced_worker l false) false (length l) r P ≡ paced_list_run r P l
unfolding paced_list_run paced_worker
list_so r P l = refl

pub rounds_so : (r : Run) (P : Pace) (limit : ℕ) → paced_run (paced_worker [] true) true limit r P ≡ paced_rounds_run r P limit
unfolding paced_rounds_run paced_worker
rounds_so r P limit = refl
