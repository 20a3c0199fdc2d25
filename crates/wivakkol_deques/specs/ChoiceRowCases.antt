-- Worked cases from C: numbers and rows, computed on the definitions.
use Rattle.std.specs.Prelude.{◌≡◌, refl, ℕ}
use mathlib.Core.List.{List, [], ◌∷◌, flatten, map}
use Rattle.table.specs.Sum.{sum_to, sum_over, greatest, greatest_to, any_below}
use Rattle.table.specs.Format.{code_of, kind_of, is, table_of}
use Rattle.table.specs.Pass.{try_at, try_from, try_pass, first_found}
use Rattle.table.specs.Checks.{entry_wrong, total_wrong, owner_below, kind_unknown, argument_wrong, end_misplaced, forked_below, forked_before}
use Rattle.table.specs.Checks.{open_before, join_not_latest, end_with_open, never_forked, alloc_of, free_of, whole_within, balance, balance_below0, passes}
use Rattle.table.specs.Serial.{serial_within, fronts, held_after, peak_of, S1}
use Rattle.table.specs.Level.{fork_below, fork_of}
use Rattle.table.specs.Nested.{nest_within, N}
use Rattle.table.specs.Written.{entry_rows, action_rows, table_rows, written}
use Rattle.table.specs.Cases.{E, overfreed}
use Rattle.filling.specs.Filled.{big, dummies, new_threads, new_actions, tree_of, sum_before, root_of, filled_from, old_bodies, trees_along, filled_bodies, filled_out, overfull}
use Rattle.peaks.specs.Peak.{fresh, gain, most, peak_there, peak_within}
use Rattle.deque_limit.specs.ChoiceLimit.{near_limit, choice_limit, bounds_of, choice_limits, choice_limits_in}
use Rattle.wivakkol_deques.specs.ChoiceRows.{choice_number, choice_row}

pub record RowCase : Type 0 where
  pub bytes : List ℕ
  pub workers : ℕ
  pub quota : ℕ
  pub choices : ℕ
  pub room : ℕ
  pub number : ℕ
  pub row : List ℕ

abbrev said : ℕ → ℕ → ℕ → ℕ → ℕ → List ℕ → RowCase
said p K c room k l = record { bytes = E; workers = p; quota = K; choices = c; room = room; number = k; row = l }

abbrev none : List ℕ
none = 0 ∷ 0 ∷ 0 ∷ []

unfoldable pub row_cases : List RowCase
unfolding code_of
row_cases =
    said 2 6 1 0 0 (0 ∷ 12 ∷ 12 ∷ [])
    -- with K 5 E runs filled out, in 176 bytes
    ∷ said 2 5 1 176 0 (0 ∷ 12 ∷ 12 ∷ [])
    ∷ said 2 5 1 175 61 none
    -- the order of the checks: the table's own, 20, 49, 21; 258 workers are not 2
    ∷ record { bytes = overfreed; workers = 0; quota = 0; choices = 0; room = 0; number = 10; row = 1 ∷ 0 ∷ 0 ∷ [] }
    ∷ said 258 0 0 0 20 none
    ∷ said 2 0 3 0 49 none
    ∷ said 2 0 2 0 21 none
    ∷ []

pub rows_worked : map (λ (x : RowCase). choice_number (choice_limits_in x.bytes x.workers x.quota x.choices x.room) ∷ choice_row (choice_limits_in x.bytes x.workers x.quota x.choices x.room)) row_cases
    ≡ map (λ (x : RowCase). x.number ∷ x.row) row_cases
unfolding row_cases choice_limits_in choice_limits bounds_of choice_limit near_limit fresh gain most peak_there peak_within entry_rows action_rows table_rows written flatten big dummies new_threads new_actions tree_of sum_before root_of filled_from old_bodies trees_along filled_bodies filled_out overfull sum_to sum_over greatest greatest_to any_below code_of kind_of is table_of try_at try_from try_pass first_found entry_wrong total_wrong owner_below kind_unknown argument_wrong end_misplaced forked_below forked_before open_before join_not_latest end_with_open never_forked alloc_of free_of whole_within balance balance_below0 passes serial_within fronts held_after peak_of S1 fork_below fork_of nest_within N
rows_worked = refl
