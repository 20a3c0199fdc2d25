-- Runs over a list of workers and in rounds, on any record whatever (document 01, "The run").
use Rattle.std.specs.Prelude.{ℕ, zero, suc, ◌-◌, ◌^◌, ◌%◌, List, Bool, length, get_or, eqb}
use Rattle.table.specs.Sum.{pick}
use Rattle.table.specs.Pass.{refusal}
use Rattle.schedule.specs.declared.Run.{Run}
use Rattle.schedule.specs.declared.Report.{Report}
use Rattle.schedule.specs.declared.Report.TheVariants.{Finished, Spent, Refused}
use Rattle.schedule.specs.declared.Ran.{Ran}
use Rattle.schedule.specs.Record.{stored}
use Rattle.schedule.specs.Turn.{unsound, root_ended, no_worker, step_run}

abbrev pub ran : Report → Run → Ran
ran x r = record { report = x; run = r }

-- the record after one turn more
abbrev pub moved : Run → ℕ → Run
moved r w = stored r (step_run r w).state

-- the worker of turn i, from a list or in rounds of p
unfoldable pub worker_at : List ℕ → Bool → ℕ → ℕ → ℕ
worker_at order rounds p i = pick rounds (i % p) (get_or order i 0)

-- At most k turns more after i turns, the worker of turn i given by `who`: "a run stops at the root's end, a refusal or the list's end"; "a run that reaches [2^64 − 1 turns] before
-- the root's end and has a turn to go stops with 32". "In a run, 31 isn't met: it finishes."
unfoldable pub drive : (ℕ → ℕ) → ℕ → ℕ → Run → Ran
drive who zero i r = ran (pick (root_ended r) (Finished i) (Spent i)) r
drive who (suc k) i r =
    let rest : Ran = drive who k (suc i) (moved r (who i)) in
    pick (root_ended r) (ran (Finished i) r)
    (pick (eqb r.turns (2 ^ 64 - 1)) (ran (Refused i (refusal 32 0)) r)
    (pick (no_worker r (who i)) (ran (Refused i (refusal 30 0)) r)
    rest))

-- "A call over many turns tests this first."
unfoldable pub list_run : Run → List ℕ → Ran
list_run r l =
    let go : Ran = drive (λ i. get_or l i 0) (length l) 0 r in
    pick (unsound r) (ran (Refused 0 (refusal 32 0)) r) go

-- "In rounds (0 to p − 1, again and again, starting with worker 0)"; on the blank record "any turn or run in rounds on it gets 30"
unfoldable pub rounds_run : Run → ℕ → Ran
rounds_run r limit =
    let go : Ran = drive (λ i. i % r.workers) limit 0 r in
    pick (unsound r) (ran (Refused 0 (refusal 32 0)) r) (pick (eqb r.workers 0) (ran (Refused 0 (refusal 30 0)) r) go)
