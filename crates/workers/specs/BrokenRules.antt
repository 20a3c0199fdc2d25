-- Rules 2 and 4 of docs/WORKERS.md are needed: two lists of events, each of which breaks one of them alone, and real memory passes the run's highest; in time it does not.
use Rattle.std.specs.Prelude.{◌≡◌, refl, ℕ, List, [], ◌∷◌, Bool, true, false, ◌&&◌, Ok, Result, ⊤}
use Rattle.table.specs.declared.Refusal.{Refusal}
use Rattle.table.specs.Sum.{sum_to, any_below}
use Rattle.table.specs.Format.{code_of, kind_of, is, table_of}
use Rattle.table.specs.declared.kinds.Kind.TheVariants.{End as end, Alloc as alloc, Free as free, Fork as fork, Join as join}
use Rattle.table.specs.Pass.{try_at, try_from, try_pass, first_found}
use Rattle.table.specs.Checks.{max_threads, entry_wrong, total_wrong, owner_below, kind_unknown, argument_wrong, end_misplaced, forked_below, forked_before}
use Rattle.table.specs.Checks.{open_before, join_not_latest, end_with_open, never_forked, alloc_of, free_of, whole_within, balance, balance_below0, passes}
use Rattle.table.specs.Level.{fork_below}
use Rattle.table.specs.Cases.{written}
use Rattle.table.specs.Cases.{act as action}
use Rattle.order.specs.Firsts.{firsts}
use Rattle.order.specs.Words.{all_below}
use Rattle.filling.specs.Filled.{big, filled_out, overfull}
use Rattle.schedule.specs.declared.Run.{Run}
use Rattle.schedule.specs.declared.Turned.{Turned}
use Rattle.schedule.specs.Machine.{left_of, without, waits_for, woken, act_by, act, leftmost, taken, turn_free, turn_of, passed_by}
use Rattle.schedule.specs.Record.{max_workers, set_of}
use Rattle.schedule.specs.Links.{walk, right_in}
use Rattle.schedule.specs.Begin.{start_state, start_run, begin}
use Rattle.schedule.specs.Turn.{root_ended, no_worker, step_run, passed_in}
use Rattle.schedule.specs.Cases.{turned_sound}
use Rattle.workers.specs.Real.{Effect, nothing, allocs, frees, joins, effect_of, Pending, none, draw, inherit}
use Rattle.workers.specs.LateFree.{LateEvent, turn, work, freed, Late, start_late, late_event, after_late}

-- ---- which rules are kept

abbrev pub is_none : Pending → Bool
is_none none = true
is_none (draw t x) = false
is_none (inherit t c) = false

abbrev pub is_nothing : Effect → Bool
is_nothing nothing = true
is_nothing (allocs t x) = false
is_nothing (frees t x) = false
is_nothing (joins t c) = false

-- rule 4: a worker that takes a turn has done what its last one said, a free too
abbrev pub is_one_by_one : LateEvent → Late → Bool
is_one_by_one (turn w) s = is_none (s.real.pending w) && is_nothing (s.owed w)
is_one_by_one (work w) s = true
is_one_by_one (freed w) s = true

-- rule 2: nobody owes a free at a turn
abbrev pub freed_before : LateEvent → Late → Bool
freed_before (turn w) s = all_below (λ v. is_nothing (s.owed v)) max_workers
freed_before (work w) s = true
freed_before (freed w) s = true

-- every event passes the test
unfoldable pub always : (LateEvent → Late → Bool) → (Run → ℕ → Turned) → List LateEvent → Late → Bool
always test turns [] s = true
always test turns (e ∷ l) s = test e s && always test turns l (late_event turns e s)

-- ---- the cases

-- whether the beginning is accepted and either rule kept, what the threads really have together, and the run's highest
pub record RuleCase : Type 0 where
  pub begun : Result ⊤ Refusal
  pub one_by_one : Bool
  pub freed_before_lem : Bool
  pub memory : ℕ
  pub highest : ℕ

abbrev pub case_of : (Run → ℕ → Turned) → List ℕ → ℕ → ℕ → List LateEvent → RuleCase
case_of turns bytes p K l =
    let s : Late = start_late (begin bytes p K).run in
    record {
      begun = (begin bytes p K).answer;
      one_by_one = always is_one_by_one turns l s;
      freed_before_lem = always freed_before turns l s;
      memory = sum_to (after_late turns l s).real.amounts max_threads;
      highest = (after_late turns l s).run.highest;
    }

abbrev pub rule_case : Bool → Bool → ℕ → ℕ → RuleCase
rule_case one before m h = record { begun = Ok tt; one_by_one = one; freed_before_lem = before; memory = m; highest = h }

-- thread 0 forks thread 1 and draws 1; thread 1 draws 1 and gives it back
unfoldable pub late_table : List ℕ
unfolding code_of
late_table =
    written
    ((action fork 1 ∷ action alloc 1 ∷ action join 1 ∷ action end 0 ∷ [])
    ∷ (action alloc 1 ∷ action free 1 ∷ action end 0 ∷ [])
    ∷ [])

-- worker 0 forks, draws for thread 1 and takes the turn of its free; worker 1 takes thread 0 and draws before worker 0 has freed
unfoldable pub late_events : List LateEvent
late_events = turn 0 ∷ turn 0 ∷ work 0 ∷ turn 0 ∷ turn 1 ∷ work 1 ∷ []

-- with the free before the next turn
unfoldable pub freed_in_time : List LateEvent
freed_in_time = turn 0 ∷ turn 0 ∷ work 0 ∷ turn 0 ∷ freed 0 ∷ turn 1 ∷ work 1 ∷ []

-- a thread draws 1, gives it back and draws 1
unfoldable pub early_table : List ℕ
unfolding code_of
early_table = written ((action alloc 1 ∷ action free 1 ∷ action alloc 1 ∷ action end 0 ∷ []) ∷ [])

-- the worker takes the turn of the free before it has drawn: the free finds nothing, and the draw comes after it
unfoldable pub early_events : List LateEvent
early_events = turn 0 ∷ turn 0 ∷ freed 0 ∷ work 0 ∷ turn 0 ∷ work 0 ∷ []

-- with the draw before the next turn
unfoldable pub drawn_in_time : List LateEvent
drawn_in_time = turn 0 ∷ work 0 ∷ turn 0 ∷ freed 0 ∷ turn 0 ∷ work 0 ∷ []

-- each list, and the same in time: the rules kept, what the threads really have, and the highest
abbrev pub LateFree : (Run → ℕ → Turned) → Type 0
LateFree turns = (case_of turns late_table 2 1 late_events ≡ rule_case true false 2 1) × (case_of turns late_table 2 1 freed_in_time ≡ rule_case true true 1 1)

abbrev pub EarlyTurn : (Run → ℕ → Turned) → Type 0
EarlyTurn turns = (case_of turns early_table 1 2 early_events ≡ rule_case false true 2 1) × (case_of turns early_table 1 2 drawn_in_time ≡ rule_case true true 1 1)

-- of turns on a sound record, which these are (`late_free` and `early_turn`, proofs/BrokenRules)
pub rules_worked : LateFree turned_sound × EarlyTurn turned_sound
unfolding late_table late_events freed_in_time early_table early_events drawn_in_time late_event after_late always effect_of all_below sum_to any_below code_of kind_of is table_of try_at try_from try_pass first_found entry_wrong total_wrong owner_below kind_unknown argument_wrong end_misplaced forked_below forked_before open_before join_not_latest end_with_open never_forked alloc_of free_of whole_within balance balance_below0 passes fork_below left_of without waits_for woken act_by act leftmost taken turn_free turn_of set_of big overfull filled_out firsts walk right_in start_state start_run begin root_ended no_worker step_run passed_by passed_in
rules_worked = ((refl, refl), (refl, refl))
