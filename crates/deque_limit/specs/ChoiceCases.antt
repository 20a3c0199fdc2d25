-- Worked cases, computed on the definitions.
use Rattle.std.specs.Prelude.{◌≡◌, refl, ℕ, Err, Ok, Result}
use Rattle.deque_limit.specs.declared.Bounds.{Bounds}
use Rattle.table.specs.declared.Refusal.{Refusal}
use mathlib.Core.List.{List, [], ◌∷◌, flatten, map}
use Rattle.table.specs.Sum.{sum_to, sum_over, greatest, greatest_to, any_below}
use Rattle.table.specs.Format.{code_of, kind_of, is, table_of}
use Rattle.table.specs.Pass.{refusal, try_at, try_from, try_pass, first_found}
use Rattle.table.specs.Checks.{entry_wrong, total_wrong, owner_below, kind_unknown, argument_wrong, end_misplaced, forked_below, forked_before}
use Rattle.table.specs.Checks.{open_before, join_not_latest, end_with_open, never_forked, alloc_of, free_of, whole_within, balance, balance_below0, passes}
use Rattle.table.specs.Serial.{serial_within, fronts, held_after, peak_of, S1}
use Rattle.table.specs.Level.{fork_below, fork_of}
use Rattle.table.specs.Nested.{nest_within, N}
use Rattle.table.specs.Written.{entry_rows, action_rows, table_rows, written}
use Rattle.table.specs.Cases.{E, overfreed}
use Rattle.filling.specs.Filled.{big, dummies, new_threads, new_actions, tree_of, sum_before, root_of, filled_from, old_bodies, trees_along, filled_bodies, filled_out, overfull}
use Rattle.peaks.specs.Peak.{fresh, gain, most, peak_there, peak_within}
use Rattle.deque_limit.specs.ChoiceLimit.{near_limit, choice_limit, bounds_of, choice_limits}

pub record ChoiceCase : Type 0 where
  pub bytes : List ℕ
  pub workers : ℕ
  pub quota : ℕ
  pub choices : ℕ
  pub answer : Result Bounds Refusal

abbrev said : ℕ → ℕ → ℕ → Result Bounds Refusal → ChoiceCase
said p K c x = record { bytes = E; workers = p; quota = K; choices = c; answer = x }

abbrev two : ℕ → ℕ → Result Bounds Refusal
two memory near = Ok (record { memory = memory; near = near })

unfoldable pub choice_cases : List ChoiceCase
unfolding code_of
choice_cases =
    said 2 6 1 (two 12 12)
    ∷ said 2 6 2 (two 12 12)
    -- with K 5 E runs filled out
    ∷ said 2 5 1 (two 12 12)
    -- the order of the checks: the table's own, 20, 49, 21
    ∷ record { bytes = overfreed; workers = 0; quota = 0; choices = 0; answer = Err (refusal 10 1) }
    ∷ said 0 0 0 (Err (refusal 20 0))
    ∷ said 17 0 18 (Err (refusal 20 0))
    ∷ said 2 0 0 (Err (refusal 49 0))
    ∷ said 2 0 3 (Err (refusal 49 0))
    ∷ said 2 0 2 (Err (refusal 21 0))
    ∷ said 2 16777216 1 (Err (refusal 21 0))
    ∷ []

pub choices_worked : map (λ (x : ChoiceCase). choice_limits x.bytes x.workers x.quota x.choices) choice_cases ≡ map (λ (x : ChoiceCase). x.answer) choice_cases
unfolding choice_cases choice_limits bounds_of choice_limit near_limit fresh gain most peak_there peak_within entry_rows action_rows table_rows written flatten big dummies new_threads new_actions tree_of sum_before root_of filled_from old_bodies trees_along filled_bodies filled_out overfull sum_to sum_over greatest greatest_to any_below code_of kind_of is table_of try_at try_from try_pass first_found entry_wrong total_wrong owner_below kind_unknown argument_wrong end_misplaced forked_below forked_before open_before join_not_latest end_with_open never_forked alloc_of free_of whole_within balance balance_below0 passes serial_within fronts held_after peak_of S1 fork_below fork_of nest_within N
choices_worked = refl
