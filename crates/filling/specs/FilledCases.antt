-- Filled-out tables, by computation.
use Rattle.std.specs.Prelude.{◌≡◌, refl, ℕ, Err, Ok}
use mathlib.Core.List.{List, [], ◌∷◌, flatten}
use Rattle.table.specs.Sum.{sum_to, sum_over, greatest, any_below, greatest_to}
use Rattle.table.specs.Format.{is, code_of, kind_of, table_of}
use Rattle.table.specs.Checks.{entry_wrong, total_wrong, owner_below, kind_unknown, argument_wrong, end_misplaced, forked_below, forked_before}
use Rattle.table.specs.Checks.{open_before, join_not_latest, end_with_open, never_forked, alloc_of, free_of, whole_within, balance, balance_below0, passes}
use Rattle.table.specs.Pass.{try_at, try_from, try_pass, first_found, refusal}
use Rattle.table.specs.Serial.{serial_within, fronts, held_after, peak_of, S1}
use Rattle.table.specs.Level.{fork_below, fork_of, before_it, joined_end, depends_on, level_within, D}
use Rattle.table.specs.Nested.{nest_within, N}
use Rattle.table.specs.Load.{values_of, loaded, facts_of}
use Rattle.table.specs.Cases.{E, accepted}
use Rattle.table.specs.Written.{entry_rows, action_rows, table_rows, written}
use Rattle.order.specs.Turns.{turns_of}
use Rattle.filling.specs.Filled.{act, big, dummies, new_threads, tree_of, sum_before, root_of, filled_from, old_bodies, trees_along, filled_bodies, filled_out, fork2, leaf, new_actions, threads_to, actions_to, overfull, fill_pass}

-- "E with K 5 is accepted": its filled-out table
pub e_filled : filled_out E 5
    ≡ written
    ((act 4 1 ∷ act 4 2 ∷ act 5 2 ∷ act 5 1 ∷ act 0 0 ∷ [])
    ∷ (act 4 3 ∷ act 5 3 ∷ act 2 6 ∷ act 1 0 ∷ act 3 6 ∷ act 0 0 ∷ [])
    ∷ (act 4 6 ∷ act 5 6 ∷ act 2 6 ∷ act 3 6 ∷ act 0 0 ∷ [])
    ∷ fork2 4 5 ∷ leaf ∷ leaf ∷ fork2 7 8 ∷ leaf ∷ leaf ∷ [])
unfolding entry_rows action_rows table_rows written flatten kind_of code_of is table_of serial_within any_below alloc_of big dummies new_threads tree_of sum_before root_of filled_from old_bodies trees_along filled_bodies filled_out
e_filled = refl

-- n 9, m 34, S1 6, D 17, N 4
pub e_filled_values : values_of (loaded (filled_out E 5)) ≡ (accepted (filled_out E 5) 9 34 6 17 4).values
unfolding entry_rows action_rows table_rows written flatten big dummies new_threads tree_of sum_before root_of filled_from old_bodies trees_along filled_bodies filled_out loaded facts_of sum_to sum_over greatest any_below code_of kind_of is table_of try_at try_from try_pass first_found entry_wrong total_wrong owner_below kind_unknown argument_wrong end_misplaced forked_below forked_before open_before join_not_latest end_with_open never_forked alloc_of free_of whole_within balance balance_below0 passes serial_within fronts held_after peak_of S1 fork_below fork_of before_it joined_end depends_on level_within D greatest_to nest_within N
e_filled_values = refl

-- m + A + J: 34 + 2 + 8, and 16 for E itself
pub e_turns : (turns_of (table_of (filled_out E 5)) ≡ 44) × (turns_of (table_of E) ≡ 16)
unfolding entry_rows action_rows table_rows written flatten kind_of code_of is table_of serial_within sum_to any_below alloc_of big dummies new_threads tree_of sum_before root_of filled_from old_bodies trees_along filled_bodies filled_out turns_of
e_turns = (refl, refl)

-- with K 6 nothing is big
pub e_in_place : filled_out E 6 ≡ E
unfolding kind_of code_of is table_of any_below alloc_of big filled_out
e_in_place = refl

abbrev pub one7 : List ℕ
one7 = written ((act 2 7 ∷ act 0 0 ∷ []) ∷ [])

-- 7 / 3 rounded up is 3
pub one7_filled : filled_out one7 3 ≡ written ((act 4 1 ∷ act 5 1 ∷ act 2 7 ∷ act 0 0 ∷ []) ∷ fork2 2 5 ∷ fork2 3 4 ∷ leaf ∷ leaf ∷ leaf ∷ [])
unfolding entry_rows action_rows table_rows written flatten kind_of code_of is table_of serial_within any_below alloc_of big dummies new_threads tree_of sum_before root_of filled_from old_bodies trees_along filled_bodies filled_out
one7_filled = refl

-- trees are numbered in serial order, not by rising action
abbrev pub two9 : List ℕ
two9 = written ((act 4 1 ∷ act 2 9 ∷ act 5 1 ∷ act 0 0 ∷ []) ∷ (act 2 9 ∷ act 3 9 ∷ act 0 0 ∷ []) ∷ [])

pub two9_filled : filled_out two9 5
    ≡ written
    ((act 4 1 ∷ act 4 5 ∷ act 5 5 ∷ act 2 9 ∷ act 5 1 ∷ act 0 0 ∷ [])
    ∷ (act 4 2 ∷ act 5 2 ∷ act 2 9 ∷ act 3 9 ∷ act 0 0 ∷ [])
    ∷ fork2 3 4 ∷ leaf ∷ leaf ∷ fork2 6 7 ∷ leaf ∷ leaf ∷ [])
unfolding entry_rows action_rows table_rows written flatten kind_of code_of is table_of serial_within any_below alloc_of big dummies new_threads tree_of sum_before root_of filled_from old_bodies trees_along filled_bodies filled_out
two9_filled = refl

-- ---- 44, by rising action of the table as given: not at action 1, which comes later in serial order

abbrev pub two400 : List ℕ
two400 = written ((act 4 1 ∷ act 2 400 ∷ act 5 1 ∷ act 0 0 ∷ []) ∷ (act 2 400 ∷ act 3 400 ∷ act 0 0 ∷ []) ∷ [])

pub two400_full : try_pass (fill_pass (table_of two400) 1) ≡ Err (refusal 44 4)
unfolding entry_rows action_rows table_rows written flatten kind_of code_of is table_of sum_to alloc_of big dummies new_threads new_actions overfull try_pass try_from try_at
two400_full = refl

abbrev pub one : ℕ → List ℕ
one x = written ((act 2 x ∷ act 0 0 ∷ []) ∷ [])

-- K 1: alloc 512, end: n 1,024, m 3,583; 513: 44 at 0
pub most_full : try_pass (fill_pass (table_of (one 513)) 1) ≡ Err (refusal 44 0)
unfolding entry_rows action_rows table_rows written flatten kind_of code_of is table_of sum_to alloc_of big dummies new_threads new_actions overfull try_pass try_from try_at
most_full = refl

pub most_fits : try_pass (fill_pass (table_of (one 512)) 1) ≡ Ok tt
unfolding entry_rows action_rows table_rows written flatten kind_of code_of is table_of sum_to alloc_of big dummies new_threads new_actions overfull try_pass try_from try_at
most_fits = refl

pub most_counts : (threads_to (table_of (one 512)) 1 2 ≡ 1024) × (actions_to (table_of (one 512)) 1 2 ≡ 3583)
unfolding entry_rows action_rows table_rows written flatten kind_of code_of is table_of sum_to alloc_of big dummies new_threads new_actions
most_counts = (refl, refl)
