-- What single turns of DFDeques and runs over pairs answer on E, p 2, K 6, computed on the definitions.
use Rattle.std.specs.Prelude.{◌≡◌, refl, ℕ, ◌/◌, List, [], ◌∷◌, map, length, Ok}
use Rattle.table.specs.Sum.{sum_to, any_below}
use Rattle.table.specs.Format.{code_of, kind_of, is, table_of}
use Rattle.table.specs.Pass.{Check, refusal, try_at, try_from, try_pass, first_found}
use Rattle.table.specs.Checks.{entry_wrong, total_wrong, owner_below, kind_unknown, argument_wrong, end_misplaced, forked_below, forked_before}
use Rattle.table.specs.Checks.{open_before, join_not_latest, end_with_open, never_forked, alloc_of, free_of, whole_within, balance, balance_below0, passes}
use Rattle.table.specs.Level.{fork_below}
use Rattle.table.specs.Cases.{E}
use Rattle.filling.specs.Filled.{big, overfull, filled_out}
use Rattle.order.specs.Firsts.{firsts}
use Rattle.schedule.specs.Machine.{left_of, without, waits_for, woken, act_by, act, taken}
use Rattle.schedule.specs.Links.{walk, right_in, left_after}
use Rattle.schedule.specs.Record.{set_of}
use Rattle.schedule.specs.Begin.{start_state, start_run}
use Rattle.schedule.specs.Turn.{root_ended, no_worker}
use Rattle.schedule.specs.Answers.{done, idle, finished, spent, Values, saying, refusing, report_values}
use Rattle.deques.specs.declared.DequeRun.{DequeRun}
use Rattle.deques.specs.declared.DequeTurned.{DequeTurned}
use Rattle.deques.specs.declared.DequeRan.{DequeRan}
use Rattle.deques.specs.Deques.{bottom, above, place_of, own, robbed, goes_on, let_go, act_deques, steal, deque_turn}
use Rattle.deques.specs.Lines.{lines_of, bottoms_of, cut_after, holder_of, linked_in, deques_from}
use Rattle.deques.specs.DequeBegin.{start_deque_run, deque_begin}
use Rattle.deques.specs.DequeTurn.{no_choice, step_deques, deque_turned_as}
use Rattle.deques.specs.DequeRuns.{Pair, pair, pair_at, drive_deques}
use Rattle.deques.specs.DequeValues.{deque_turning_values}

-- A turn and a run on a sound record, where 32 does not apply: `deque_turned` and `pairs_run` are these there, and every record of the rows is sound (proofs/DequeCaseLaws). To test the whole of
-- a record takes seconds to compute.
abbrev pub sound_deque_checks : DequeRun → ℕ → ℕ → List Check
sound_deque_checks r w c =
    record { number = 30; applies = λ i. no_worker r.run w }
    ∷ record { number = 31; applies = λ i. root_ended r.run }
    ∷ record { number = 49; applies = λ i. no_choice r c }
    ∷ []

abbrev pub deque_turned_sound : DequeRun → ℕ → ℕ → DequeTurned
deque_turned_sound r w c = deque_turned_as (try_at (sound_deque_checks r w c) 0) r (step_deques r w c)

abbrev pub pairs_run_sound : DequeRun → List ℕ → DequeRan
pairs_run_sound r l = drive_deques (pair_at l) (length l / 2) 0 r

-- the values of the turn of pair g after the turns of an order
abbrev pub said_after : (DequeRun → ℕ → ℕ → DequeTurned) → DequeRun → List Pair → Pair → Values
said_after turn r [] g = deque_turning_values (turn r g.worker g.choice).answer
said_after turn r (h ∷ order) g = said_after turn (turn r h.worker h.choice).run order g

-- the pairs before it, its own pair, and what it says
pub record DequeTurnCase : Type 0 where
  pub order : List Pair
  pub pair : Pair
  pub values : Values

abbrev pub says : List Pair → Pair → Values → DequeTurnCase
says order g x = record { order = order; pair = g; values = x }

-- the robbing row to its end (specs/DequeCases)
abbrev pub whole_row : List Pair
whole_row =
    pair 0 0 ∷ pair 1 0 ∷ pair 0 0 ∷ pair 1 0 ∷ pair 0 0 ∷ pair 1 0 ∷ pair 0 0 ∷ pair 1 0 ∷ pair 0 0 ∷ pair 1 0 ∷ pair 1 0 ∷ pair 1 0 ∷ []

unfoldable pub deque_turn_cases : List DequeTurnCase
deque_turn_cases =
    -- the first steal takes the root; no deque stands at place 1
    says [] (pair 0 0) (saying done 0 0 1)
    ∷ says [] (pair 0 1) (saying idle 0 0 1)
    -- 49 also where the worker holds a thread and the choice is not read
    ∷ says [] (pair 0 2) (refusing (refusal 49 0) 0)
    ∷ says (pair 0 0 ∷ []) (pair 0 2) (refusing (refusal 49 0) 0)
    -- 30 before 49, 31 before 49
    ∷ says [] (pair 2 2) (refusing (refusal 30 0) 0)
    ∷ says whole_row (pair 0 2) (refusing (refusal 31 0) 0)
    ∷ []

abbrev pub start_e : DequeRun
start_e = (deque_begin E 2 6).run

pub begins_E : (deque_begin E 2 6).answer ≡ Ok tt
unfolding sum_to any_below code_of kind_of is table_of try_at try_from try_pass first_found entry_wrong total_wrong owner_below kind_unknown argument_wrong end_misplaced forked_below forked_before open_before join_not_latest end_with_open never_forked alloc_of free_of whole_within balance balance_below0 passes big overfull deque_begin
begins_E = refl

abbrev pub Says : (DequeRun → ℕ → ℕ → DequeTurned) → Type 0
Says turn = map (λ (x : DequeTurnCase). said_after turn start_e x.order x.pair) deque_turn_cases ≡ map (λ (x : DequeTurnCase). x.values) deque_turn_cases

pub deque_said_worked : Says deque_turned_sound
unfolding deque_turn_cases sum_to any_below code_of kind_of is table_of try_at try_from try_pass first_found entry_wrong total_wrong owner_below kind_unknown argument_wrong end_misplaced forked_below forked_before open_before join_not_latest end_with_open never_forked alloc_of free_of whole_within balance balance_below0 passes big overfull filled_out fork_below left_of without waits_for woken act_by act taken set_of firsts walk right_in left_after start_state start_run root_ended no_worker no_choice bottom above place_of own robbed goes_on let_go act_deques steal deque_turn lines_of bottoms_of cut_after holder_of linked_in deques_from start_deque_run deque_begin step_deques
deque_said_worked = refl

-- a list of bytes, and what the run over it reports
pub record PairsCase : Type 0 where
  pub bytes : List ℕ
  pub values : Values

abbrev pub reports : List ℕ → Values → PairsCase
reports l x = record { bytes = l; values = x }

unfoldable pub pairs_cases : List PairsCase
pairs_cases =
    -- "an odd last byte isn't read": neither 30 nor 49 for it
    reports [] (saying spent 0 0 0)
    ∷ reports (7 ∷ []) (saying spent 0 0 0)
    ∷ reports (0 ∷ 0 ∷ 7 ∷ []) (saying spent 0 0 1)
    -- the turns before a refusal
    ∷ reports (0 ∷ 0 ∷ 0 ∷ 2 ∷ 0 ∷ 0 ∷ []) (refusing (refusal 49 0) 1)
    ∷ reports (0 ∷ 0 ∷ 2 ∷ 2 ∷ []) (refusing (refusal 30 0) 1)
    -- pairs after the root's end are not looked at
    ∷ reports (0 ∷ 0 ∷ 1 ∷ 0 ∷ 0 ∷ 0 ∷ 1 ∷ 0 ∷ 0 ∷ 0 ∷ 1 ∷ 0 ∷ 0 ∷ 0 ∷ 1 ∷ 0 ∷ 0 ∷ 0 ∷ 1 ∷ 0 ∷ 1 ∷ 0 ∷ 1 ∷ 0 ∷ 9 ∷ 9 ∷ []) (saying finished 0 0 12)
    ∷ []

abbrev pub Reports : (DequeRun → List ℕ → DequeRan) → Type 0
Reports run = map (λ (x : PairsCase). report_values (run start_e x.bytes).report) pairs_cases ≡ map (λ (x : PairsCase). x.values) pairs_cases

pub pairs_worked : Reports pairs_run_sound
unfolding pairs_cases sum_to any_below code_of kind_of is table_of try_at try_from try_pass first_found entry_wrong total_wrong owner_below kind_unknown argument_wrong end_misplaced forked_below forked_before open_before join_not_latest end_with_open never_forked alloc_of free_of whole_within balance balance_below0 passes big overfull filled_out fork_below left_of without waits_for woken act_by act taken set_of firsts walk right_in left_after start_state start_run root_ended no_worker no_choice bottom above place_of own robbed goes_on let_go act_deques steal deque_turn lines_of bottoms_of cut_after holder_of linked_in deques_from start_deque_run deque_begin step_deques pair_at drive_deques
pairs_worked = refl
