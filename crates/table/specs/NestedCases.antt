-- The number of nested thread levels on small tables, as rows of one table with one theorem over all of them, computed on the definitions. (Loading's own rows, specs/Cases, have N too.)
use Rattle.std.specs.Prelude.{◌≡◌, refl, ℕ, List, [], ◌∷◌, map}
use Rattle.table.specs.Sum.{greatest_to}
use Rattle.table.specs.Format.{code_of, kind_of, is, table_of}
use Rattle.table.specs.declared.kinds.Kind.TheVariants.{End as end, Fork as fork, Join as join}
use Rattle.table.specs.Checks.{owner_below}
use Rattle.table.specs.Level.{fork_below}
use Rattle.table.specs.Nested.{nest_within, N}
use Rattle.table.specs.Cases.{Action, act, written, E, least}

abbrev leaf : List Action
leaf = act end 0 ∷ []

abbrev parent : ℕ → List Action
parent t = act fork t ∷ act join t ∷ act end 0 ∷ []

-- each thread forks the next
abbrev chain : List ℕ
chain = written (parent 1 ∷ parent 2 ∷ parent 3 ∷ leaf ∷ [])

-- the root forks all others, and they are open at the same time
abbrev fan : List ℕ
fan = written ((act fork 1 ∷ act fork 2 ∷ act fork 3 ∷ act join 3 ∷ act join 2 ∷ act join 1 ∷ act end 0 ∷ []) ∷ leaf ∷ leaf ∷ leaf ∷ [])

-- the thread of the highest number is not the deepest
abbrev uneven : List ℕ
uneven = written ((act fork 1 ∷ act join 1 ∷ act fork 3 ∷ act join 3 ∷ act end 0 ∷ []) ∷ parent 2 ∷ leaf ∷ leaf ∷ [])

pub record NestedCase : Type 0 where
  pub bytes : List ℕ
  pub levels : ℕ

abbrev pub nested_in : List ℕ → ℕ → NestedCase
nested_in s levels = record { bytes = s; levels = levels }

unfoldable pub nested_cases : List NestedCase
unfolding code_of
nested_cases = nested_in least 1 ∷ nested_in E 2 ∷ nested_in chain 4 ∷ nested_in fan 2 ∷ nested_in uneven 3 ∷ []

pub nested_worked : map (λ (c : NestedCase). N (table_of c.bytes)) nested_cases ≡ map (λ (c : NestedCase). c.levels) nested_cases
unfolding nested_cases code_of kind_of is table_of owner_below fork_below greatest_to nest_within N
nested_worked = refl
