-- Origins of actions, computed on the definitions: E with K 5, of which the actions 5 and 6, and 11 and 12, are put in, and with K 6, where it runs as given.
use Rattle.std.specs.Prelude.{◌≡◌, refl, ℕ}
use mathlib.Core.List.{List, [], ◌∷◌, map, flatten}
use Rattle.table.specs.Sum.{sum_to, any_below}
use Rattle.table.specs.Format.{is, code_of, kind_of, table_of}
use Rattle.table.specs.Checks.{alloc_of}
use Rattle.table.specs.Serial.{serial_within}
use Rattle.table.specs.Cases.{E}
use Rattle.table.specs.Written.{entry_rows, action_rows, table_rows, written}
use Rattle.filling.specs.Filled.{big, dummies, new_threads, tree_of, sum_before, root_of, filled_from, old_bodies, trees_along, filled_bodies, filled_out}
use Rattle.origin.specs.Origin.{no_action, origin_below, origin_of, put_in, origin_in}

abbrev some : List ℕ
some = 0 ∷ 4 ∷ 5 ∷ 6 ∷ 7 ∷ 10 ∷ 11 ∷ 12 ∷ 13 ∷ 15 ∷ 16 ∷ 33 ∷ 34 ∷ []

abbrev theirs : List ℕ
theirs = 0 ∷ 4 ∷ no_action ∷ no_action ∷ 5 ∷ 8 ∷ no_action ∷ no_action ∷ 9 ∷ 11 ∷ no_action ∷ no_action ∷ no_action ∷ []

pub e_origins : map (origin_of (table_of E) 5) some ≡ theirs
unfolding kind_of code_of is table_of alloc_of big filled_from root_of origin_below
e_origins = refl

pub e_computed : map (origin_in (table_of (filled_out E 5)) 5) some ≡ theirs
unfolding entry_rows action_rows table_rows written flatten kind_of code_of is table_of serial_within sum_to any_below alloc_of big dummies new_threads tree_of sum_before root_of filled_from old_bodies trees_along filled_bodies filled_out put_in origin_in
e_computed = refl

-- as given: every action is its own, and 12 is none
pub e_in_place : map (origin_in (table_of E) 6) (0 ∷ 5 ∷ 11 ∷ 12 ∷ []) ≡ 0 ∷ 5 ∷ 11 ∷ no_action ∷ []
unfolding kind_of code_of is table_of sum_to alloc_of big dummies new_threads put_in origin_in
e_in_place = refl
