-- Paced calls on E with two workers, K 6 and b 1, computed on the definitions: what they report, the turns of the record, and the least b kept.
use Rattle.std.specs.Prelude.{◌≡◌, refl, ℕ, List, [], ◌∷◌, length, get_or, Err, Result}
use Rattle.table.specs.declared.Refusal.{Refusal}
use Rattle.schedule.specs.declared.Taken.{Taken}
use Rattle.table.specs.Sum.{sum_to, any_below}
use Rattle.table.specs.Format.{code_of, kind_of, is, table_of}
use Rattle.table.specs.Pass.{refusal, try_at}
use Rattle.table.specs.Checks.{owner_below, alloc_of, free_of, whole_within}
use Rattle.table.specs.Level.{fork_below}
use Rattle.table.specs.Cases.{E}
use Rattle.order.specs.Firsts.{firsts}
use Rattle.schedule.specs.declared.Report.{Report}
use Rattle.schedule.specs.declared.Report.TheVariants.{Finished, Refused}
use Rattle.schedule.specs.Machine.{left_of, without, waits_for, woken, act_by, act, leftmost, taken, turn_free, turn_of, passed_by}
use Rattle.schedule.specs.Record.{set_of}
use Rattle.schedule.specs.Begin.{start_state, start_run}
use Rattle.schedule.specs.Links.{walk, right_in}
use Rattle.schedule.specs.Turn.{root_ended, no_worker, step_run, passed_in}
use Rattle.schedule.specs.Cases.{turned_sound}
use Rattle.pace.specs.Pace.{blank, most_from, asked, may, may_number, next_in, kept_in, counted, renewed, took}
use Rattle.pacing.specs.declared.PacedRan.{PacedRan}
use Rattle.pacing.specs.Pacing.{pace, paced_by, paced_drive}

-- a run over a list, and then one in rounds, from a sound record
abbrev over_list : List ℕ → PacedRan
over_list l = paced_drive (λ i n. get_or l i 0) (length l) 0 (start_run E 2 6) (pace (blank 2 1))

abbrev in_rounds : ℕ → PacedRan → PacedRan
in_rounds limit d = paced_drive (λ i n. next_in n) limit 0 d.run d.pace

pub record Told : Type 0 where
  pub report : Report
  pub turns : ℕ
  pub kept : ℕ

-- what a run reports, the turns of the record and the least b kept
abbrev told : Report → ℕ → ℕ → Told
told x turns kept = record { report = x; turns = turns; kept = kept }

abbrev told_by : PacedRan → Told
told_by d = told d.report d.run.turns (kept_in d.pace.numbers)

-- worker 0 waits for worker 1 once it has had a turn; before that it does not
list_worked : told_by (over_list (0 ∷ 0 ∷ 1 ∷ 0 ∷ 0 ∷ [])) ≡ told (Refused 4 (refusal 60 0)) 4 1
unfolding code_of sum_to any_below kind_of is table_of owner_below alloc_of free_of whole_within fork_below left_of without waits_for woken act_by act leftmost taken turn_free turn_of set_of firsts walk right_in start_state start_run root_ended no_worker step_run most_from asked may may_number next_in counted renewed took paced_drive
list_worked = refl

-- refused with 60, nothing has changed; rounds go on with worker 1, and the run ends after as many turns as without a pace
rounds_worked : told_by (in_rounds 99 (over_list (0 ∷ 1 ∷ 0 ∷ 0 ∷ []))) ≡ told (Finished 11) 14 1
unfolding code_of sum_to any_below kind_of is table_of owner_below alloc_of free_of whole_within fork_below left_of without waits_for woken act_by act leftmost taken turn_free turn_of set_of firsts walk right_in start_state start_run root_ended no_worker step_run most_from asked may may_number next_in counted renewed took paced_drive
rounds_worked = refl

-- a single turn that would break the rule: 60; 30 comes before it, and once the run is over 31
abbrev answered : ℕ → PacedRan → Result Taken Refusal
answered w d = (paced_by (turned_sound d.run w) d.run d.pace w).answer

turn_worked : (answered 0 (over_list (0 ∷ 1 ∷ 0 ∷ [])) ≡ Err (refusal 60 0)) × (answered 2 (over_list (0 ∷ 1 ∷ 0 ∷ [])) ≡ Err (refusal 30 0))
    × (answered 1 (in_rounds 99 (over_list [])) ≡ Err (refusal 31 0))
unfolding code_of sum_to any_below kind_of is table_of owner_below alloc_of free_of whole_within fork_below left_of without waits_for woken act_by act leftmost taken turn_free turn_of set_of firsts walk right_in start_state start_run root_ended no_worker step_run passed_by passed_in try_at most_from asked may may_number next_in counted renewed took paced_drive
turn_worked = (refl, refl, refl)
