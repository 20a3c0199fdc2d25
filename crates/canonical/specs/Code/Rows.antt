-- The rows that the canonical form is written by: the head, the entries and the bodies in another order, threads renamed.
use Rattle.std.specs.Prelude.{◌≡◌, ℕ, List, ◌∷◌, ◌++◌, Ok}
use Rattle.table.specs.Format.{threads_of, actions_of}
use Rattle.table.specs.Pass.{first_found}
use Rattle.table.specs.Checks.{passes}
use Rattle.rows.specs.Rows.{cut_pair, ordered_entries, ordered_rows}

-- no check refuses the table
abbrev pub Accepts : List ℕ → Type 0
Accepts s = first_found (passes s) ≡ Ok tt

unfoldable pub form_rows : List ℕ → (ℕ → ℕ) → List ℕ → List (List ℕ)
form_rows s f ts = cut_pair (threads_of s) (actions_of s) ∷ (ordered_entries s 0 ts ++ ordered_rows s f ts)
