-- The bytes of a table from its threads' bodies, a row of four at a time: the head, an entry for each thread, the actions.
use Rattle.std.specs.Prelude.{ℕ, zero, suc, ◌+◌, ◌/◌, ◌%◌, length}
use mathlib.Core.List.{List, [], ◌∷◌, ◌++◌, flatten}
use Rattle.table.specs.Format.{Table}

pub record Action : Type 0 where
  pub code : ℕ
  pub argument : ℕ

-- two numbers of 16 bits
abbrev pub pair_row : ℕ → ℕ → List ℕ
pair_row a b = a % 256 ∷ a / 256 ∷ b % 256 ∷ b / 256 ∷ []

-- "kind (8 bits), argument (24 bits)"
abbrev pub action_row : Action → List ℕ
action_row a = a.code ∷ a.argument % 256 ∷ a.argument / 256 % 256 ∷ a.argument / 65536 ∷ []

-- "the thread's first action (16 bits), its count of actions (16 bits)", where k actions stand before
unfoldable pub entry_rows : ℕ → List (List Action) → List (List ℕ)
entry_rows k [] = []
entry_rows k (b ∷ bs) = pair_row k (length b) ∷ entry_rows (k + length b) bs

unfoldable pub action_rows : List Action → List (List ℕ)
action_rows [] = []
action_rows (a ∷ l) = action_row a ∷ action_rows l

unfoldable pub table_rows : List (List Action) → List (List ℕ)
table_rows bs = pair_row (length bs) (length (flatten bs)) ∷ entry_rows 0 bs ++ action_rows (flatten bs)

unfoldable pub written : List (List Action) → List ℕ
written bs = flatten (table_rows bs)

-- the bodies that a table has: k actions from a on, and the threads below k
abbrev pub action_at : Table → ℕ → Action
action_at T a = record { code = T.code a; argument = T.argument a }

unfoldable pub actions_from : Table → ℕ → ℕ → List Action
actions_from T a zero = []
actions_from T a (suc k) = action_at T a ∷ actions_from T (suc a) k

abbrev pub body_in : Table → ℕ → List Action
body_in T t = actions_from T (T.first t) (T.count t)
