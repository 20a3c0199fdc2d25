-- Worked cases, computed on the definitions.
use Rattle.std.specs.Prelude.{◌≡◌, refl, ℕ, Err, Ok, Result}
use Rattle.useful_limit.specs.declared.Numbers.{Numbers}
use Rattle.table.specs.declared.Refusal.{Refusal}
use mathlib.Core.List.{List, [], ◌∷◌, flatten, map}
use Rattle.table.specs.Sum.{sum_to, sum_over, greatest, greatest_to, any_below}
use Rattle.table.specs.Format.{code_of, kind_of, is, table_of}
use Rattle.table.specs.Pass.{refusal, try_at, try_from, try_pass, first_found}
use Rattle.table.specs.Checks.{entry_wrong, total_wrong, owner_below, kind_unknown, argument_wrong, end_misplaced, forked_below, forked_before}
use Rattle.table.specs.Checks.{open_before, join_not_latest, end_with_open, never_forked, alloc_of, free_of, whole_within, balance, balance_below0, passes}
use Rattle.table.specs.Serial.{serial_within, fronts, held_after, peak_of, S1}
use Rattle.table.specs.Level.{fork_below, fork_of, before_it, joined_end, depends_on, level_within, D}
use Rattle.table.specs.Written.{entry_rows, action_rows, table_rows, written}
use Rattle.table.specs.Cases.{E, least, overfreed}
use Rattle.filling.specs.Filled.{big, dummies, new_threads, new_actions, tree_of, sum_before, root_of, filled_from, old_bodies, trees_along, filled_bodies, filled_out, overfull}
use Rattle.schedule.specs.Memory.{limit}
use Rattle.peaks.specs.Peak.{fresh, gain, most, peak_there, peak_within, workers_peak}
use Rattle.peaks.specs.Rests.{stretch_begins, rests, drawn_before, stretch, covered, rested, rise, R, resting_peak, useful_limit, best_within, parallel_peak}
use Rattle.quota.specs.Quota.{least_quota, cost_of, most_within, most_quota, no_quota}
use Rattle.useful_limit.specs.declared.Fitted.{Fitted}
use Rattle.useful_limit.specs.declared.Fitted.TheVariants.{Fits, Short}
use Rattle.useful_limit.specs.Limits.{numbers_of, limits}
use Rattle.useful_limit.specs.Fit.{largest_fit, no_fit, cover_quota, least_need, own_fit, fitted}

-- ---- memlimit

pub record LimitsCase : Type 0 where
  pub bytes : List ℕ
  pub workers : ℕ
  pub quota : ℕ
  pub gap : ℕ
  pub answer : Result Numbers Refusal

abbrev said : ℕ → ℕ → ℕ → Result Numbers Refusal → LimitsCase
said p K b x = record { bytes = E; workers = p; quota = K; gap = b; answer = x }

abbrev five : ℕ → ℕ → ℕ → ℕ → ℕ → Result Numbers Refusal
five memory serial peak parallel drawn = Ok (record { memory = memory; serial = serial; peak = peak; parallel = parallel; stretch = drawn })

unfoldable pub limits_cases : List LimitsCase
unfolding code_of
limits_cases =
    -- with K 5 E runs filled out, and its allocs of 6 draw nothing
    said 2 6 1 (five 12 6 12 12 6)
    ∷ said 2 5 1 (five 12 6 12 12 0)
    ∷ said 1 6 0 (five 6 6 6 12 6)
    -- the order of the checks: the table's own, 20, 41, 21, 44
    ∷ record { bytes = overfreed; workers = 0; quota = 0; gap = 65536; answer = Err (refusal 10 1) }
    ∷ said 0 0 65536 (Err (refusal 20 0))
    ∷ said 17 0 65536 (Err (refusal 20 0))
    ∷ said 2 0 65536 (Err (refusal 41 0))
    ∷ said 2 0 65535 (Err (refusal 21 0))
    ∷ said 2 16777216 0 (Err (refusal 21 0))
    ∷ []

pub limits_worked : map (λ (c : LimitsCase). limits c.bytes c.workers c.quota c.gap) limits_cases ≡ map (λ (c : LimitsCase). c.answer) limits_cases
unfolding limits_cases limits numbers_of fresh gain most peak_there peak_within workers_peak stretch_begins rests drawn_before stretch covered rested rise R resting_peak useful_limit best_within parallel_peak limit entry_rows action_rows table_rows written flatten big dummies new_threads new_actions tree_of sum_before root_of filled_from old_bodies trees_along filled_bodies filled_out overfull sum_to sum_over greatest greatest_to any_below code_of kind_of is table_of try_at try_from try_pass first_found entry_wrong total_wrong owner_below kind_unknown argument_wrong end_misplaced forked_below forked_before open_before join_not_latest end_with_open never_forked alloc_of free_of whole_within balance balance_below0 passes serial_within fronts held_after peak_of S1 fork_below fork_of before_it joined_end depends_on level_within D
limits_worked = refl

-- ---- fitquota

pub record FitCase : Type 0 where
  pub bytes : List ℕ
  pub workers : ℕ
  pub gap : ℕ
  pub memory : ℕ
  pub answer : Result Fitted Refusal

abbrev asked : List ℕ → ℕ → ℕ → ℕ → Result Fitted Refusal → FitCase
asked s p b M x = record { bytes = s; workers = p; gap = b; memory = M; answer = x }

unfoldable pub fit_cases : List FitCase
unfolding code_of
fit_cases =
    asked E 2 1 55 (Ok (Fits 16777215 12))
    ∷ asked E 2 1 12 (Ok (Fits 16777215 12))
    ∷ asked E 2 1 11 (Ok (Short 6 12))
    ∷ asked E 2 0 12 (Ok (Fits 16777215 12))
    ∷ asked E 1 0 6 (Ok (Fits 16777215 6))
    ∷ asked E 1 1 5 (Ok (Short 6 6))
    ∷ asked least 16 65535 0 (Ok (Fits 16777215 0))
    -- the order of the checks: the table's own, 20, 41
    ∷ asked overfreed 0 65536 0 (Err (refusal 10 1))
    ∷ asked E 0 65536 0 (Err (refusal 20 0))
    ∷ asked E 17 0 0 (Err (refusal 20 0))
    ∷ asked E 2 65536 0 (Err (refusal 41 0))
    ∷ []

pub fits_worked : map (λ (c : FitCase). fitted c.bytes c.workers c.gap c.memory) fit_cases ≡ map (λ (c : FitCase). c.answer) fit_cases
unfolding fit_cases fitted own_fit largest_fit no_fit cover_quota least_need least_quota cost_of most_within most_quota no_quota fresh gain most peak_there peak_within workers_peak stretch_begins rests drawn_before stretch covered rested rise R resting_peak useful_limit limit sum_to sum_over greatest greatest_to any_below code_of kind_of is table_of try_at try_from try_pass first_found entry_wrong total_wrong owner_below kind_unknown argument_wrong end_misplaced forked_below forked_before open_before join_not_latest end_with_open never_forked alloc_of free_of whole_within balance balance_below0 passes serial_within fronts held_after peak_of S1 fork_below fork_of before_it joined_end depends_on level_within D
fits_worked = refl
