-- No call changes a run's table.
use Rattle.std.specs.Prelude.{Err, Ok, Result, ⊤}
use Rattle.table.specs.declared.Refusal.{Refusal}
use mathlib.Core.Path.{◌≡◌, refl, ◌∙◌}
use Prim.Native.Nat.{ℕ, zero, suc, ◌-◌, ◌^◌, ◌%◌}
use mathlib.Core.List.{List, [], ◌∷◌}
use mathlib.Core.Bool.{Bool, true, false}
use lib.ListN.{length, get_or}
use lib.Dec.{eqb}
use Rattle.table.specs.Sum.{pick}
use Rattle.table.specs.Pass.{refusal, try_at}
use Rattle.schedule.specs.declared.Run.{Run}
use Rattle.schedule.specs.declared.Report.TheVariants.{Finished, Spent, Refused}
use Rattle.schedule.specs.declared.Ran.{Ran}
use Rattle.schedule.specs.Record.{bytes_of}
use Rattle.schedule.specs.Turn.{unsound, root_ended, no_worker, turn_checks, step_run, passed_in, turned_as, turned}
use Rattle.schedule.specs.Runs.{ran, moved, drive, list_run, rounds_run}
use Rattle.schedule.specs.Calls.{Call, turn, over_list, in_rounds, after_call, after_calls}

drive_bytes : (who : ℕ → ℕ) (k i : ℕ) (r : Run) → bytes_of (drive who k i r).run ≡ bytes_of r
unfolding drive
drive_bytes who zero i r = refl
drive_bytes who (suc k) i r = go (root_ended r) (eqb r.turns (2 ^ 64 - 1)) (no_worker r (who i)) (drive_bytes who k (suc i) (moved r (who i)))
  where
    rest : Ran
    rest = drive who k (suc i) (moved r (who i))

    go : (a b c : Bool) → bytes_of rest.run ≡ bytes_of r
        → bytes_of (pick a (ran (Finished i) r) (pick b (ran (Refused i (refusal 32 0)) r) (pick c (ran (Refused i (refusal 30 0)) r) rest))).run ≡ bytes_of r
    go true b c h = refl
    go false true c h = refl
    go false false true h = refl
    go false false false h = h

call_bytes : (c : Call) (r : Run) → bytes_of (after_call c r) ≡ bytes_of r
unfolding after_call turned list_run rounds_run
call_bytes (turn w) r = go (try_at (turn_checks r w) 0)
  where
    go : (f : Result ⊤ Refusal) → bytes_of (turned_as f r (passed_in r w) (step_run r w)).run ≡ bytes_of r
    go (Ok _) = refl
    go (Err x) = refl
call_bytes (over_list l) r = go (unsound r)
  where
    go : (a : Bool) → bytes_of (pick a (ran (Refused 0 (refusal 32 0)) r) (drive (λ i. get_or l i 0) (length l) 0 r)).run ≡ bytes_of r
    go true = refl
    go false = drive_bytes (λ i. get_or l i 0) (length l) 0 r
call_bytes (in_rounds limit) r = go (unsound r) (eqb r.workers 0)
  where
    go : (a b : Bool)
        → bytes_of (pick a (ran (Refused 0 (refusal 32 0)) r) (pick b (ran (Refused 0 (refusal 30 0)) r) (drive (λ i. i % r.workers) limit 0 r))).run ≡ bytes_of r
    go true b = refl
    go false true = refl
    go false false = drive_bytes (λ i. i % r.workers) limit 0 r

pub calls_bytes : (cs : List Call) (r : Run) → bytes_of (after_calls cs r) ≡ bytes_of r
unfolding after_calls
calls_bytes [] r = refl
calls_bytes (c ∷ cs) r = calls_bytes cs (after_call c r) ∙ call_bytes c r
