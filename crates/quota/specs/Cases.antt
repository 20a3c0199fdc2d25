-- Worked cases of the largest quota, as rows of one table with one theorem over all of them, computed on the definitions.
use Rattle.std.specs.Prelude.{◌≡◌, refl, ℕ, List, [], ◌∷◌, map}
use Rattle.table.specs.Sum.{sum_to, sum_over, greatest, greatest_to, any_below}
use Rattle.table.specs.Format.{code_of, kind_of, is, table_of}
use Rattle.table.specs.Pass.{try_at, try_from, try_pass, first_found}
use Rattle.table.specs.Checks.{entry_wrong, total_wrong, owner_below, kind_unknown, argument_wrong, end_misplaced, forked_below, forked_before}
use Rattle.table.specs.Checks.{open_before, join_not_latest, end_with_open, never_forked, alloc_of, free_of, whole_within, balance, balance_below0, passes}
use Rattle.table.specs.Serial.{serial_within, fronts, held_after, peak_of, S1}
use Rattle.table.specs.Level.{fork_below, fork_of, before_it, joined_end, depends_on, level_within, D}
use Rattle.table.specs.Cases.{E, least, overfreed}
use Rattle.quota.specs.Quota.{least_quota, cost_of, most_within, most_quota, no_quota, quoted, QuotaValues, values_of}

-- a table's bytes, p, b and M, and the answer's number, place and quota
pub record Case : Type 0 where
  pub bytes : List ℕ
  pub workers : ℕ
  pub gap : ℕ
  pub memory : ℕ
  pub values : QuotaValues

abbrev pub given : List ℕ → ℕ → ℕ → ℕ → ℕ → Case
given s p b M K = record { bytes = s; workers = p; gap = b; memory = M; values = record { number = 0; place = 0; quota = K } }

abbrev pub refused : List ℕ → ℕ → ℕ → ℕ → ℕ → ℕ → Case
refused s p b M number place = record { bytes = s; workers = p; gap = b; memory = M; values = record { number = number; place = place; quota = 0 } }

unfoldable pub cases : List Case
unfolding code_of
cases =
    -- E has S1 6, D 8 and allocs of 6: with p 2 and b 1 the bound is 6 + 7·K
    refused E 2 1 47 42 0
    ∷ given E 2 1 48 6
    ∷ given E 2 1 54 6
    ∷ given E 2 1 55 7
    ∷ given E 2 1 18446744073709551615 16777215
    -- "With p 1 or D 1 only S1 counts"
    ∷ given E 1 1 6 16777215
    ∷ refused E 1 1 5 42 0
    ∷ given least 16 65535 0 16777215
    -- the order of the checks: the table's own, 20, 41, 42
    ∷ refused overfreed 0 0 0 10 1
    ∷ refused E 0 0 0 20 0
    ∷ refused E 17 65536 0 20 0
    ∷ refused E 2 0 0 41 0
    ∷ refused E 2 65536 0 41 0
    ∷ refused E 2 65535 0 42 0
    ∷ []

-- every row is answered as it says
pub worked : map (λ (c : Case). values_of (quoted c.bytes c.workers c.gap c.memory)) cases ≡ map (λ (c : Case). c.values) cases
unfolding cases quoted no_quota most_quota most_within cost_of least_quota sum_to sum_over greatest greatest_to any_below code_of kind_of is table_of try_at try_from try_pass first_found entry_wrong total_wrong owner_below kind_unknown argument_wrong end_misplaced forked_below forked_before open_before join_not_latest end_with_open never_forked alloc_of free_of whole_within balance balance_below0 passes serial_within fronts held_after peak_of S1 fork_below fork_of before_it joined_end depends_on level_within D
worked = refl
