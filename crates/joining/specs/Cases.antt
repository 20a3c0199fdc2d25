-- Worked cases, computed on the definitions: what is joined, its facts, and refusals.
use Rattle.std.specs.Prelude.{◌≡◌, refl, ℕ}
use mathlib.Core.List.{List, [], ◌∷◌, ◌++◌, map, flatten}
use Rattle.table.specs.Sum.{sum_to, sum_over, greatest, any_below, greatest_to}
use Rattle.table.specs.Format.{code_of, kind_of, is, table_of}
use Rattle.table.specs.Pass.{try_at, try_from, try_pass, first_found}
use Rattle.table.specs.Checks.{entry_wrong, total_wrong, owner_below, kind_unknown, argument_wrong, end_misplaced, forked_below, forked_before}
use Rattle.table.specs.Checks.{open_before, join_not_latest, end_with_open, never_forked, alloc_of, free_of, whole_within, balance, balance_below0, passes}
use Rattle.table.specs.Serial.{serial_within, fronts, held_after, peak_of, S1}
use Rattle.table.specs.Level.{fork_below, fork_of, before_it, joined_end, depends_on, level_within, D}
use Rattle.table.specs.Nested.{nest_within, N}
use Rattle.table.specs.Load.{facts_of}
use Rattle.table.specs.Written.{entry_rows, action_rows, table_rows, written, actions_from}
use Rattle.table.specs.Cases.{E, least, two_allocs, overfreed}
use Rattle.parts.specs.Joined.{bodies_from, offsets, forks, joins_back, part_bodies, joined_bodies, deepest}
use Rattle.joining.specs.Joining.{joined_bytes, threads_in, actions_in, peak_from, joined_facts}
use Rattle.joining.specs.Answers.{parts_of, sum_of, parts_wrong, first_refused, joined, JoinValues, join_values_of, refused_values}
use Rattle.joining.specs.Given.{lengths_to, joined_given}

-- the least table under a new root
pub joined_least : joined_bytes (least ∷ [])
    ≡ 2 ∷ 0 ∷ 4 ∷ 0 ∷ 0 ∷ 0 ∷ 3 ∷ 0 ∷ 3 ∷ 0 ∷ 1 ∷ 0 ∷ 4 ∷ 1 ∷ 0 ∷ 0 ∷ 5 ∷ 1 ∷ 0 ∷ 0 ∷ 0 ∷ 0 ∷ 0 ∷ 0 ∷ 0 ∷ 0 ∷ 0 ∷ 0 ∷ []
unfolding joined_bytes bodies_from actions_from table_of entry_rows action_rows table_rows written flatten offsets forks joins_back part_bodies joined_bodies kind_of
joined_least = refl

pub record Case : Type 0 where
  pub lengths : List ℕ
  pub bytes : List ℕ
  pub values : JoinValues

abbrev whole : ℕ → ℕ → ℕ → ℕ → ℕ → JoinValues
whole n m peak depth nested =
    record { number = 0; place = 0; threads = n; actions = m; peak = peak; depth = depth; nested = nested; part = 0 }

abbrev row : List ℕ → List ℕ → JoinValues → Case
row ls s v = record { lengths = ls; bytes = s; values = v }

unfoldable pub cases : List Case
unfolding code_of
cases =
    row (12 ∷ []) least (whole 2 4 0 4 2)
    ∷ row (64 ∷ 64 ∷ []) (E ++ E) (whole 7 29 6 13 3)
    ∷ row (20 ∷ 64 ∷ []) (two_allocs ++ E) (whole 5 20 14 13 3)
    ∷ row (64 ∷ 20 ∷ []) (E ++ two_allocs) (whole 5 20 8 11 3)
    ∷ row [] [] (refused_values (record { number = 47; place = 0 }) 0)
    ∷ row (63 ∷ []) E (refused_values (record { number = 47; place = 0 }) 0)
    ∷ row (0 ∷ 64 ∷ []) E (refused_values (record { number = 1; place = 0 }) 0)
    ∷ row (64 ∷ 20 ∷ 0 ∷ []) (E ++ overfreed) (refused_values (record { number = 10; place = 1 }) 1)
    ∷ []

pub worked : map (λ (c : Case). join_values_of (joined c.lengths c.bytes)) cases ≡ map (λ (c : Case). c.values) cases
unfolding cases joined first_refused parts_of sum_of parts_wrong threads_in actions_in peak_from joined_facts deepest facts_of kind_of code_of is table_of serial_within fronts held_after peak_of S1 fork_below fork_of before_it joined_end depends_on level_within D nest_within N sum_to sum_over greatest any_below try_at try_from try_pass first_found entry_wrong total_wrong owner_below kind_unknown argument_wrong end_misplaced forked_below forked_before open_before join_not_latest end_with_open never_forked alloc_of free_of whole_within balance balance_below0 passes greatest_to
worked = refl

-- ---- the input of `jointables`: count, lengths and tables

pub record GivenCase : Type 0 where
  pub input : List ℕ
  pub values : JoinValues

abbrev given : List ℕ → JoinValues → GivenCase
given s v = record { input = s; values = v }

-- the least table; E and a table that frees more than it has; no count; two parts with one length; two lengths with one table
unfoldable pub given_cases : List GivenCase
unfolding code_of
given_cases =
    given (1 ∷ 12 ∷ 0 ∷ 0 ∷ 0 ∷ least) (whole 2 4 0 4 2)
    ∷ given (2 ∷ 64 ∷ 0 ∷ 0 ∷ 0 ∷ 20 ∷ 0 ∷ 0 ∷ 0 ∷ E ++ overfreed) (refused_values (record { number = 10; place = 1 }) 1)
    ∷ given [] (refused_values (record { number = 47; place = 0 }) 0)
    ∷ given (2 ∷ 12 ∷ 0 ∷ 0 ∷ 0 ∷ []) (refused_values (record { number = 47; place = 0 }) 0)
    ∷ given (2 ∷ 12 ∷ 0 ∷ 0 ∷ 0 ∷ 12 ∷ 0 ∷ 0 ∷ 0 ∷ least) (refused_values (record { number = 47; place = 0 }) 0)
    ∷ []

pub given_worked : map (λ (c : GivenCase). join_values_of (joined_given c.input)) given_cases ≡ map (λ (c : GivenCase). c.values) given_cases
unfolding given_cases lengths_to joined_given joined first_refused parts_of sum_of parts_wrong threads_in actions_in peak_from joined_facts deepest facts_of kind_of code_of is table_of serial_within fronts held_after peak_of S1 fork_below fork_of before_it joined_end depends_on level_within D nest_within N sum_to sum_over greatest any_below try_at try_from try_pass first_found entry_wrong total_wrong owner_below kind_unknown argument_wrong end_misplaced forked_below forked_before open_before join_not_latest end_with_open never_forked alloc_of free_of whole_within balance balance_below0 passes greatest_to
given_worked = refl
