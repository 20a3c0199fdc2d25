-- Worked cases, computed on the definitions: forms, comparisons and refusals.
use Rattle.std.specs.Prelude.{◌≡◌, refl, ℕ}
use mathlib.Core.List.{List, [], ◌∷◌, map, flatten}
use Rattle.table.specs.Sum.{sum_to, sum_over, greatest, any_below, greatest_to}
use Rattle.table.specs.Format.{code_of, kind_of, is, table_of}
use Rattle.table.specs.Pass.{try_at, try_from, try_pass, first_found}
use Rattle.table.specs.Checks.{entry_wrong, total_wrong, owner_below, kind_unknown, argument_wrong, end_misplaced, forked_below, forked_before}
use Rattle.table.specs.Checks.{open_before, join_not_latest, end_with_open, never_forked, alloc_of, free_of, whole_within, balance, balance_below0, passes}
use Rattle.table.specs.Serial.{serial_within}
use Rattle.table.specs.Written.{Action, entry_rows, action_rows, table_rows, written, actions_from}
use Rattle.table.specs.Cases.{E, least, two_allocs, overfreed}
use Rattle.order.specs.Words.{place_in}
use Rattle.canonical.specs.Canonical.{forks_in, thread_order, canonical_bodies, canonical}
use Rattle.canonical.specs.Order.{byte_order}
use Rattle.canonical.specs.Answers.{CompareValues, compare_values}

abbrev action : ℕ → ℕ → Action
action k x = record { code = k; argument = x }

-- E with its children numbered the other way round
abbrev pub F : List ℕ
unfolding entry_rows action_rows table_rows written flatten
F =
    written
    ((action 4 2 ∷ action 4 1 ∷ action 5 1 ∷ action 5 2 ∷ action 0 0 ∷ []) ∷ (action 2 6 ∷ action 3 6 ∷ action 0 0 ∷ []) ∷ (action 2 6 ∷ action 1 0 ∷ action 3 6 ∷ action 0 0 ∷ []) ∷ [])

-- a child that has a child, whose number comes before that of its thread's next child
abbrev pub G : List ℕ
unfolding entry_rows action_rows table_rows written flatten
G =
    written
    (
    (action 4 1 ∷ action 4 2 ∷ action 5 2 ∷ action 5 1 ∷ action 0 0 ∷ [])
    ∷ (action 4 3 ∷ action 5 3 ∷ action 0 0 ∷ [])
    ∷ (action 1 0 ∷ action 0 0 ∷ [])
    ∷ (action 2 1 ∷ action 0 0 ∷ [])
    ∷ []
    )

abbrev pub form_of_g : List ℕ
unfolding entry_rows action_rows table_rows written flatten
form_of_g =
    written
    (
    (action 4 1 ∷ action 4 3 ∷ action 5 3 ∷ action 5 1 ∷ action 0 0 ∷ [])
    ∷ (action 4 2 ∷ action 5 2 ∷ action 0 0 ∷ [])
    ∷ (action 2 1 ∷ action 0 0 ∷ [])
    ∷ (action 1 0 ∷ action 0 0 ∷ [])
    ∷ []
    )

-- E with the bodies of its two children exchanged, which no renaming makes of E
abbrev pub H : List ℕ
unfolding entry_rows action_rows table_rows written flatten
H =
    written
    ((action 4 1 ∷ action 4 2 ∷ action 5 2 ∷ action 5 1 ∷ action 0 0 ∷ []) ∷ (action 2 6 ∷ action 3 6 ∷ action 0 0 ∷ []) ∷ (action 2 6 ∷ action 1 0 ∷ action 3 6 ∷ action 0 0 ∷ []) ∷ [])

-- one thread alloc x, end
abbrev pub one_alloc : ℕ → List ℕ
unfolding entry_rows action_rows table_rows written flatten
one_alloc x = written ((action 2 x ∷ action 0 0 ∷ []) ∷ [])

pub forms : map canonical (E ∷ F ∷ G ∷ least ∷ []) ≡ E ∷ E ∷ form_of_g ∷ least ∷ []
unfolding entry_rows action_rows table_rows written flatten kind_of code_of is table_of serial_within place_in actions_from forks_in thread_order canonical_bodies canonical
forms = refl

pub record Case : Type 0 where
  pub first : List ℕ
  pub second : List ℕ
  pub values : CompareValues

abbrev stands : List ℕ → List ℕ → ℕ → Case
stands s u k = record { first = s; second = u; values = record { number = 0; place = 0; said = k; table = 0 } }

abbrev refuses : List ℕ → List ℕ → ℕ → ℕ → ℕ → Case
refuses s u number place t = record { first = s; second = u; values = record { number = number; place = place; said = 0; table = t } }

-- 1 before, 2 equal, 3 after
unfoldable pub cases : List Case
cases =
    stands F E 2
    ∷ stands least E 1
    ∷ stands E two_allocs 3
    ∷ stands (one_alloc 256) (one_alloc 1) 1
    ∷ stands E H 3
    ∷ refuses overfreed [] 10 1 0
    ∷ refuses E overfreed 10 1 1
    ∷ []

pub worked : map (λ (c : Case). compare_values c.first c.second) cases ≡ map (λ (c : Case). c.values) cases
unfolding cases compare_values byte_order entry_rows action_rows table_rows written flatten kind_of code_of is table_of serial_within place_in actions_from forks_in thread_order canonical_bodies canonical sum_to sum_over greatest any_below try_at try_from try_pass first_found entry_wrong total_wrong owner_below kind_unknown argument_wrong end_misplaced forked_below forked_before open_before join_not_latest end_with_open never_forked alloc_of free_of whole_within balance balance_below0 passes greatest_to
worked = refl
