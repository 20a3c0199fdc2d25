-- A run of DFDeques over a list, on any record whatever.
use Rattle.std.specs.Prelude.{ℕ, zero, suc, ◌*◌, ◌-◌, ◌^◌, ◌/◌, List, length, get_or, eqb}
use Rattle.table.specs.Sum.{pick}
use Rattle.table.specs.Pass.{refusal}
use Rattle.schedule.specs.declared.Report.{Report}
use Rattle.schedule.specs.declared.Report.TheVariants.{Finished, Spent, Refused}
use Rattle.schedule.specs.Turn.{root_ended, no_worker}
use Rattle.deques.specs.declared.DequeRun.{DequeRun}
use Rattle.deques.specs.declared.DequeRan.{DequeRan}
use Rattle.deques.specs.DequeRecord.{deque_stored}
use Rattle.deques.specs.DequeTurn.{unsound_deques, no_choice, step_deques}

-- a turn's worker and choice
pub record Pair : Type 0 where
  pub worker : ℕ
  pub choice : ℕ

abbrev pub pair : ℕ → ℕ → Pair
pair w c = record { worker = w; choice = c }

-- "A run over a list takes two bytes a turn, worker and choice"
unfoldable pub pair_at : List ℕ → ℕ → Pair
pair_at l i = pair (get_or l (2 * i) 0) (get_or l (suc (2 * i)) 0)

abbrev pub deque_ran : Report → DequeRun → DequeRan
deque_ran x r = record { report = x; run = r }

-- the record after one turn more
abbrev pub deque_moved : DequeRun → Pair → DequeRun
deque_moved r g = deque_stored r.run (step_deques r g.worker g.choice).after

-- At most k turns more after i turns, the pair of turn i given by `who`: "a run stops at the root's end, a refusal or the list's end"; 32 where turns taken are 2^64 − 1, 30, "49 .. after 31".
unfoldable pub drive_deques : (ℕ → Pair) → ℕ → ℕ → DequeRun → DequeRan
drive_deques who zero i r = deque_ran (pick (root_ended r.run) (Finished i) (Spent i)) r
drive_deques who (suc k) i r =
    let rest : DequeRan = drive_deques who k (suc i) (deque_moved r (who i)) in
    pick (root_ended r.run) (deque_ran (Finished i) r)
    (pick (eqb r.run.turns (2 ^ 64 - 1)) (deque_ran (Refused i (refusal 32 0)) r)
    (pick (no_worker r.run (who i).worker) (deque_ran (Refused i (refusal 30 0)) r)
    (pick (no_choice r (who i).choice) (deque_ran (Refused i (refusal 49 0)) r)
    rest)))

-- "an odd last byte isn't read"; "A call over many turns tests this first."
unfoldable pub pairs_run : DequeRun → List ℕ → DequeRan
pairs_run r l =
    let go : DequeRan = drive_deques (pair_at l) (length l / 2) 0 r in
    pick (unsound_deques r) (deque_ran (Refused 0 (refusal 32 0)) r) go
