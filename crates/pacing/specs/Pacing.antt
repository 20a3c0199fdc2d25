-- A pace beside a run, by value: the turn and the runs of a record (crates/schedule), where a turn that would break the rule with b is refused, and one that is taken is counted (crates/pace).
use Rattle.std.specs.Prelude.{ℕ, zero, suc, ◌-◌, ◌^◌, List, Bool, true, false, ◌&&◌, length, get_or, replicate, ltb, leb, eqb, Err, Ok, Result, ⊤}
use Rattle.schedule.specs.declared.Taken.{Taken}
use Rattle.table.specs.declared.Refusal.{Refusal}
use Rattle.table.specs.Sum.{pick}
use Rattle.table.specs.Pass.{refusal}
use Rattle.schedule.specs.declared.Run.{Run}
use Rattle.schedule.specs.declared.Turned.{Turned}
use Rattle.schedule.specs.declared.Report.{Report}
use Rattle.schedule.specs.declared.Report.TheVariants.{Finished, Spent, Refused}
use Rattle.schedule.specs.Turn.{unsound, root_ended, no_worker, turned}
use Rattle.schedule.specs.Runs.{moved}
use Rattle.pace.specs.Pace.{size, blank, may_number, took, next_in}
use Rattle.pacing.specs.declared.Pace.{Pace}
use Rattle.pacing.specs.declared.PaceBegun.{PaceBegun}
use Rattle.pacing.specs.declared.PacedTurned.{PacedTurned}
use Rattle.pacing.specs.declared.PacedRan.{PacedRan}

abbrev pub pace : List ℕ → Pace
pace l = record { numbers = l }

-- worker w has had a turn
abbrev pub counted : Pace → ℕ → Pace
counted P w = pace (took P.numbers w)

-- ---- a beginning

abbrev pub pace_begun : Result ⊤ Refusal → Pace → PaceBegun
pace_begun x P = record { answer = x; pace = P }

-- 20 where p is not 1 to 16, 41 where b is not 1 to 65,535: then every number is 0
unfoldable pub begin_pace : ℕ → ℕ → PaceBegun
begin_pace p b =
    let none : Pace = pace (replicate size 0) in
    pick (ltb 0 p && leb p 16) (pick (ltb 0 b && leb b 65535) (pace_begun (Ok tt) (pace (blank p b))) (pace_begun (Err (refusal 41 0)) none)) (pace_begun (Err (refusal 20 0)) none)

-- ---- a turn

abbrev pub is_taken : Result Taken Refusal → Bool
is_taken (Ok t) = true
is_taken (Err x) = false

abbrev pub paced_turn : Result Taken Refusal → Run → Pace → PacedTurned
paced_turn x r P = record { answer = x; run = r; pace = P }

-- of a turn that is taken, whether the pace lets it through: 30 where the pace has no such worker, 60 where it would break the rule. One that is refused says so first, as a worker that waits is to hear
-- that the run is over
abbrev pub paced_by : Turned → Run → Pace → ℕ → PacedTurned
paced_by t r P w =
    let number : ℕ = may_number P.numbers w in
    pick (is_taken t.answer) (pick (eqb number 0) (paced_turn t.answer t.run (counted P w)) (paced_turn (Err (refusal number 0)) r P)) (paced_turn t.answer t.run P)

unfoldable pub paced_turned : Run → Pace → ℕ → PacedTurned
paced_turned r P w = paced_by (turned r w) r P w

-- ---- runs

abbrev pub paced_ran : Report → Run → Pace → PacedRan
paced_ran x r P = record { report = x; run = r; pace = P }

-- At most k turns more after i turns, the worker of turn i given by `who`, from the pace's numbers too: the run of crates/schedule, that stops at a turn that the pace does not let through as
-- at any refusal, after the run's own
unfoldable pub paced_drive : (ℕ → List ℕ → ℕ) → ℕ → ℕ → Run → Pace → PacedRan
paced_drive who zero i r P = paced_ran (pick (root_ended r) (Finished i) (Spent i)) r P
paced_drive who (suc k) i r P =
    let w : ℕ = who i P.numbers in
    let rest : PacedRan = paced_drive who k (suc i) (moved r w) (counted P w) in
    pick (root_ended r) (paced_ran (Finished i) r P)
    (pick (eqb r.turns (2 ^ 64 - 1)) (paced_ran (Refused i (refusal 32 0)) r P)
    (pick (no_worker r w) (paced_ran (Refused i (refusal 30 0)) r P)
    (pick (eqb (may_number P.numbers w) 0) rest (paced_ran (Refused i (refusal (may_number P.numbers w) 0)) r P))))

-- "A call over many turns tests this first."; in rounds, on the blank record "any turn or run in rounds on it gets 30"
abbrev pub paced_run : (ℕ → List ℕ → ℕ) → Bool → ℕ → Run → Pace → PacedRan
paced_run who rounds k r P =
    let go : PacedRan = paced_drive who k 0 r P in
    pick (unsound r) (paced_ran (Refused 0 (refusal 32 0)) r P) (pick (rounds && eqb r.workers 0) (paced_ran (Refused 0 (refusal 30 0)) r P) go)

-- over a list of workers
unfoldable pub paced_list_run : Run → Pace → List ℕ → PacedRan
paced_list_run r P l = paced_run (λ i n. get_or l i 0) false (length l) r P

-- in rounds, on from the worker after that of the latest turn
unfoldable pub paced_rounds_run : Run → Pace → ℕ → PacedRan
paced_rounds_run r P limit = paced_run (λ i n. next_in n) true limit r P
