-- With an alloc above K the limit by leaps is false too, and without a leap: two workers in turn, K 1, hold more than demand 3's limit of the table that runs.
-- The dummies that stand before threads 0's, 1's and 2's allocs keep the deque, so that one steal each holds 7, 7 and 3 while threads 3 and 4 have only begun; then those two draw in turn.
use Rattle.std.specs.Prelude.{◌≡◌, refl, ℕ, true, replicate, Ok}
use mathlib.Core.List.{List, [], ◌∷◌, ◌++◌, map, flatten}
use Rattle.table.specs.Sum.{sum_to, sum_over, greatest, any_below}
use Rattle.table.specs.Format.{code_of, kind_of, is, Table, table_of}
use Rattle.table.specs.Pass.{try_at, try_from, try_pass, first_found}
use Rattle.table.specs.Checks.{entry_wrong, total_wrong, owner_below, kind_unknown, argument_wrong, end_misplaced, forked_below, forked_before, open_before, join_not_latest, end_with_open, never_forked, alloc_of, free_of, whole_within, balance, balance_below0, passes}
use Rattle.table.specs.Level.{fork_below, fork_of, before_it, joined_end, depends_on, level_within, D}
use Rattle.table.specs.Serial.{serial_within, fronts, held_after, peak_of, S1}
use Rattle.table.specs.Written.{Action, entry_rows, action_rows, table_rows, written}
use Rattle.filling.specs.Filled.{act, big, dummies, new_threads, new_actions, tree_of, sum_before, root_of, filled_from, old_bodies, trees_along, filled_bodies, filled_out, overfull, fork2, leaf}
use Rattle.schedule.specs.Machine.{left_of, without, waits_for, woken, act_by, act as acts, taken}
use Rattle.order.specs.Firsts.{firsts}
use Rattle.order.specs.Words.{all_in}
use Rattle.schedule.specs.Memory.{limit, count_in}
use Rattle.schedule.specs.Rule.{keeps, at_most, until_next}
use Rattle.schedule.specs.Begin.{start_state, begin_passes}
use Rattle.deques.specs.Deques.{bottom, above, place_of, own, robbed, goes_on, let_go, act_deques, steal, deque_turn, start_deques}
use Rattle.deques.specs.DequeRuns.{Pair}
use Rattle.deques.specs.DequeCalls.{row_deques}
use Rattle.deque_bounds.specs.DequeRows.{thread_left_of, leaps_at, leaps}
use Rattle.deque_bounds.specs.DemandCase.{rounds}

abbrev eight : List Action → List Action
eight l = replicate 8 (act 2 1) ++ (act 3 8 ∷ l)

abbrev pub five_bytes : List ℕ
five_bytes =
    written
    ((act 4 1 ∷ act 2 6 ∷ act 2 1 ∷ act 5 1 ∷ act 0 0 ∷ [])
    ∷ (act 4 2 ∷ act 2 7 ∷ act 5 2 ∷ act 3 7 ∷ act 0 0 ∷ [])
    ∷ (act 4 3 ∷ act 2 2 ∷ act 2 1 ∷ act 5 3 ∷ act 3 3 ∷ act 0 0 ∷ [])
    ∷ (act 4 4 ∷ eight (act 5 4 ∷ act 0 0 ∷ []))
    ∷ eight (act 0 0 ∷ [])
    ∷ [])

-- filled out for K 1: trees of two, seven and six dummies
abbrev pub five_filled : List ℕ
five_filled =
    written
    ((act 4 1 ∷ act 4 21 ∷ act 5 21 ∷ act 2 6 ∷ act 2 1 ∷ act 5 1 ∷ act 0 0 ∷ [])
    ∷ (act 4 2 ∷ act 4 8 ∷ act 5 8 ∷ act 2 7 ∷ act 5 2 ∷ act 3 7 ∷ act 0 0 ∷ [])
    ∷ (act 4 3 ∷ act 4 5 ∷ act 5 5 ∷ act 2 2 ∷ act 2 1 ∷ act 5 3 ∷ act 3 3 ∷ act 0 0 ∷ [])
    ∷ (act 4 4 ∷ eight (act 5 4 ∷ act 0 0 ∷ []))
    ∷ eight (act 0 0 ∷ [])
    ∷ fork2 6 7 ∷ leaf ∷ leaf
    ∷ fork2 9 16 ∷ fork2 10 13 ∷ fork2 11 12 ∷ leaf ∷ leaf ∷ fork2 14 15 ∷ leaf ∷ leaf ∷ fork2 17 20 ∷ fork2 18 19 ∷ leaf ∷ leaf ∷ leaf
    ∷ fork2 22 27 ∷ fork2 23 26 ∷ fork2 24 25 ∷ leaf ∷ leaf ∷ leaf ∷ fork2 28 31 ∷ fork2 29 30 ∷ leaf ∷ leaf ∷ leaf
    ∷ [])

pub five_filled_lem : filled_out five_bytes 1 ≡ five_filled
unfolding entry_rows action_rows table_rows written flatten kind_of code_of is table_of serial_within any_below alloc_of big dummies new_threads tree_of sum_before root_of filled_from old_bodies trees_along filled_bodies filled_out
five_filled_lem = refl

abbrev pub five : Table
five = table_of five_filled

-- 69 rounds; the last 13 find threads 3 and 4 each in a deque of its own
abbrev pub five_row : List Pair
five_row = rounds 56 0 0 (rounds 13 0 1 [])

pub five_held : (row_deques five 1 (start_deques five) five_row).state.held ≡ 33
unfolding rounds entry_rows action_rows table_rows written flatten row_deques deque_turn steal act_deques let_go goes_on robbed own place_of above bottom acts act_by woken waits_for taken left_of without start_state firsts kind_of code_of is fork_below owner_below sum_to any_below table_of
five_held = refl

pub five_leaps : leaps five 1 (start_deques five) five_row ≡ 0
unfolding rounds leaps leaps_at thread_left_of entry_rows action_rows table_rows written flatten row_deques deque_turn steal act_deques let_go goes_on robbed own place_of above bottom acts act_by woken waits_for taken left_of without start_state firsts kind_of code_of is fork_below owner_below sum_to any_below table_of
five_leaps = refl

-- S1 is 8 and D 25
pub five_limit : limit five 2 1 1 ≡ 32
unfolding entry_rows action_rows table_rows written flatten limit D level_within depends_on joined_end before_it fork_of S1 peak_of held_after fronts serial_within greatest sum_over alloc_of free_of fork_below owner_below kind_of code_of is sum_to any_below table_of
five_limit = refl

pub five_keeps : keeps 1 (map (λ (g : Pair). g.worker) five_row) ≡ true
unfolding keeps at_most until_next all_in count_in rounds
five_keeps = refl

-- the table given is accepted, and a run of it begins
pub five_accepted : first_found (passes five_bytes) ≡ Ok tt
unfolding entry_rows action_rows table_rows written flatten sum_to sum_over greatest any_below code_of kind_of is table_of try_at try_from try_pass first_found entry_wrong total_wrong owner_below kind_unknown argument_wrong end_misplaced forked_below forked_before open_before join_not_latest end_with_open never_forked alloc_of free_of whole_within balance balance_below0 passes
five_accepted = refl

pub five_begins : first_found (begin_passes (table_of five_bytes) 2 1) ≡ Ok tt
unfolding entry_rows action_rows table_rows written flatten sum_to sum_over greatest any_below code_of kind_of is table_of try_at try_from try_pass first_found alloc_of big dummies new_threads new_actions overfull
five_begins = refl
