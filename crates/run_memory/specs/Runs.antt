-- Runs over a list of workers and in rounds, in lent memory, whatever it holds.
use Rattle.std.specs.Prelude.{ℕ, zero, suc, ◌-◌, ◌^◌, List, [], Bool, true, false, ◌&&◌, length, get_or, eqb, Err, Ok, Result}
use Rattle.table.specs.Sum.{pick}
use Rattle.table.specs.Format.{is, Table, kind}
use Rattle.table.specs.declared.kinds.Kind.TheVariants.{End as end}
use Rattle.table.specs.Pass.{refusal}
use Rattle.run_memory.specs.declared.runs.Stop.{Stop}
use Rattle.schedule.specs.declared.Report.{Report}
use Rattle.schedule.specs.declared.Report.TheVariants.{Finished, Spent, Refused}
use Rattle.schedule.specs.Machine.{ended}
use Rattle.schedule.specs.Runs.{worker_at}
use Rattle.run_memory.specs.Memory.{Memory, moved_in, said_of, run_row, Answer, answer, Told, turn_in, number_in}

-- where a run stopped: a refusal's number, 0 where there is none; whether at the root's end; turns taken; the memory
pub record Stopped : Type 0 where
  pub number : ℕ
  pub finished : Bool
  pub turns : ℕ
  pub memory : Memory

abbrev pub stopped : ℕ → Bool → ℕ → Memory → Stopped
stopped number finished turns M = record { number = number; finished = finished; turns = turns; memory = M }

-- as the code answers it
abbrev pub finished_in : Result Bool ℕ → Bool
finished_in (Ok over) = over
finished_in (Err n) = false

abbrev pub stopped_at : Stop → Memory → Stopped
stopped_at stop M = stopped (number_in stop.finished) (finished_in stop.finished) stop.turns M

-- whether action a of thread t, which a reply says was done, is the root's end: "Thread 0 is the root"
unfoldable pub ends_root : Table → ℕ → ℕ → Bool
ends_root T t a = eqb t 0 && is end (kind T a)

-- the root has ended
abbrev pub over_in : Memory → Bool
over_in M = eqb (get_or M.arrays.status 0 0) ended

-- At most k turns more after i turns, the worker of turn i given by `who`: "a run stops at the root's end, a refusal or the list's end"
unfoldable pub drive_in : List ℕ → (ℕ → ℕ) → ℕ → ℕ → Memory → Stopped
drive_in s who zero i M = stopped 0 (over_in M) i M
drive_in s who (suc k) i M =
    let t : Told = turn_in s (who i) M in
    let rest : Stopped = drive_in s who k (suc i) t.memory in
    pick (over_in M) (stopped 0 true i M) (pick (eqb t.number 0) rest (stopped t.number false i M))

-- "Over a list of worker numbers"; 32 first where no turn can be counted
unfoldable pub list_run_in : List ℕ → List ℕ → Memory → Stopped
list_run_in s l M =
    let go : Stopped = drive_in s (worker_at l false (get_or M.settings 0 0)) (length l) 0 M in
    pick (eqb (moved_in M).turns (2 ^ 64 - 1)) (stopped 32 false 0 M) go

-- "In rounds (0 to p − 1, again and again, starting with worker 0)"; with no worker 30
unfoldable pub rounds_run_in : List ℕ → ℕ → Memory → Stopped
rounds_run_in s limit M =
    let p : ℕ = get_or M.settings 0 0 in
    let go : Stopped = drive_in s (worker_at [] true p) limit 0 M in
    pick (eqb (moved_in M).turns (2 ^ 64 - 1)) (stopped 32 false 0 M) (pick (eqb p 0) (stopped 30 false 0 M) go)

-- what a run answers to C
abbrev pub stopped_as : Stopped → Answer
stopped_as d = answer d.number (run_row (said_of d.number d.finished) d.turns) d.memory

-- the report of a call by value
abbrev pub report_of : ℕ → Bool → ℕ → Report
report_of number finished turns = pick (eqb number 0) (pick finished (Finished turns) (Spent turns)) (Refused turns (refusal number 0))
