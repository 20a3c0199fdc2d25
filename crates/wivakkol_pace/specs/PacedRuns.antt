-- Paced runs over a list of workers and in rounds: the paced turn again and again, up to the first refusal, the pace's included, and its turns before that stay taken.
use Rattle.std.specs.Prelude.{ℕ, zero, suc, ◌-◌, ◌^◌, List, [], Bool, true, false, ◌&&◌, length, get_or, eqb}
use Rattle.table.specs.Sum.{pick}
use Rattle.run_memory.specs.Memory.{Memory, moved_in}
use Rattle.run_memory.specs.Runs.{Stopped, stopped, over_in, stopped_as}
use Rattle.pace.specs.Pace.{next_in}
use Rattle.wivakkol_pace.specs.Paced.{PacedTold, paced_in, Kept, kept}

-- where a run stopped, and the pace
pub record PacedStop : Type 0 where
  pub stop : Stopped
  pub pace : List ℕ

abbrev pub paced_stop : Stopped → List ℕ → PacedStop
paced_stop d P = record { stop = d; pace = P }

-- the worker of turn i: the list's, or in rounds the one after that of the latest turn
unfoldable pub paced_worker : List ℕ → Bool → ℕ → List ℕ → ℕ
paced_worker l rounds i P = pick rounds (next_in P) (get_or l i 0)

-- at most k turns more after i turns: "a run stops at the root's end, a refusal or the list's end"
unfoldable pub paced_drive : List ℕ → (ℕ → List ℕ → ℕ) → ℕ → ℕ → Memory → List ℕ → PacedStop
paced_drive s who zero i M P = paced_stop (stopped 0 (over_in M) i M) P
paced_drive s who (suc k) i M P =
    let t : PacedTold = paced_in s (who i P) M P in
    let rest : PacedStop = paced_drive s who k (suc i) t.told.memory t.pace in
    pick (over_in M) (paced_stop (stopped 0 true i M) P) (pick (eqb t.told.number 0) rest (paced_stop (stopped t.told.number false i M) P))

-- 32 first where no turn can be counted; in rounds 30 where the run has no worker, "any turn or run in rounds on it gets 30"
unfoldable pub paced_run : List ℕ → (ℕ → List ℕ → ℕ) → Bool → ℕ → Memory → List ℕ → PacedStop
paced_run s who rounds limit M P =
    let go : PacedStop = paced_drive s who limit 0 M P in
    pick (eqb (moved_in M).turns (2 ^ 64 - 1)) (paced_stop (stopped 32 false 0 M) P)
    (pick (rounds && eqb (get_or M.settings 0 0) 0) (paced_stop (stopped 30 false 0 M) P) go)

-- ---- the calls

-- as of a run without a pace
abbrev pub kept_as : PacedStop → Kept
kept_as d = kept (stopped_as d.stop) d.pace

-- over a list of workers
unfoldable pub paced_list : List ℕ → List ℕ → Memory → List ℕ → Kept
paced_list s l M P = kept_as (paced_run s (paced_worker l false) false (length l) M P)

-- in rounds, on from the worker after that of the latest turn, whoever took it
unfoldable pub paced_rounds : List ℕ → ℕ → Memory → List ℕ → Kept
paced_rounds s limit M P = kept_as (paced_run s (paced_worker [] true) true limit M P)
