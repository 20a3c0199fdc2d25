-- Worked cases of the limit, as rows of one table with one theorem over all of them, computed on the definitions.
use Rattle.std.specs.Prelude.{◌≡◌, refl, ℕ}
use mathlib.Core.List.{List, [], ◌∷◌, ◌++◌, flatten, map}
use Rattle.table.specs.Sum.{sum_to, sum_over, greatest, greatest_to, any_below}
use Rattle.table.specs.Format.{code_of, kind_of, is, table_of}
use Rattle.table.specs.Pass.{try_at, try_from, try_pass, first_found}
use Rattle.table.specs.Checks.{entry_wrong, total_wrong, owner_below, kind_unknown, argument_wrong, end_misplaced, forked_below, forked_before}
use Rattle.table.specs.Checks.{open_before, join_not_latest, end_with_open, never_forked, alloc_of, free_of, whole_within, balance, balance_below0, passes}
use Rattle.table.specs.Serial.{serial_within}
use Rattle.table.specs.Written.{entry_rows, action_rows, table_rows, written}
use Rattle.table.specs.Cases.{E, least, overfreed}
use Rattle.order.specs.Turns.{turns_of}
use Rattle.filling.specs.Filled.{big, dummies, new_threads, new_actions, tree_of, sum_before, root_of, filled_from, old_bodies, trees_along, filled_bodies, filled_out, overfull}
use Rattle.filling.specs.FilledCases.{one7, two9, two400, one}
use Rattle.most.specs.Most.{limit_of, most_of, MostValues, most_values_of}

-- a table's bytes, p and K, and the answer's number, place and limit
pub record Case : Type 0 where
  pub bytes : List ℕ
  pub workers : ℕ
  pub quota : ℕ
  pub values : MostValues

abbrev pub given : List ℕ → ℕ → ℕ → ℕ → Case
given s p K L = record { bytes = s; workers = p; quota = K; values = record { number = 0; place = 0; limit = L } }

abbrev pub refused : List ℕ → ℕ → ℕ → ℕ → ℕ → Case
refused s p K number place = record { bytes = s; workers = p; quota = K; values = record { number = number; place = place; limit = 0 } }

unfoldable pub cases : List Case
unfolding code_of
cases =
    -- E has m 12, A 2 and J 2; with K 5 it runs filled out, with m 34, A 2 and J 8
    given E 2 6 32
    ∷ given E 2 16777215 32
    ∷ given E 2 5 88
    ∷ given E 1 5 44
    -- one alloc of 7: m 2 and A 1, and 9d - 4 more
    ∷ given one7 16 7 48
    ∷ given one7 1 6 17
    ∷ given one7 1 3 26
    ∷ given two9 1 5 38
    ∷ given least 16 1 16
    -- in the order of a beginning: the table's own checks, 20, 21, 44
    ∷ refused overfreed 0 0 10 1
    ∷ refused E 0 0 20 0
    ∷ refused E 17 0 20 0
    ∷ refused E 2 0 21 0
    ∷ refused E 2 16777216 21 0
    ∷ refused (one 513) 17 1 20 0
    ∷ refused (one 513) 16 1 44 0
    ∷ refused two400 2 1 44 4
    ∷ []

-- every row is answered as it says
pub worked : map (λ (c : Case). most_values_of (most_of c.bytes c.workers c.quota)) cases ≡ map (λ (c : Case). c.values) cases
unfolding cases most_of limit_of turns_of entry_rows action_rows table_rows written flatten big dummies new_threads new_actions tree_of sum_before root_of filled_from old_bodies trees_along filled_bodies filled_out overfull sum_to sum_over greatest greatest_to any_below code_of kind_of is table_of try_at try_from try_pass first_found entry_wrong total_wrong owner_below kind_unknown argument_wrong end_misplaced forked_below forked_before open_before join_not_latest end_with_open never_forked alloc_of free_of whole_within balance balance_below0 passes serial_within
worked = refl
