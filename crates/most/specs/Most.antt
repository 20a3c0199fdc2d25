-- The limit that sales may quote for a run in rounds (N8): "from the beginning L = p × (m + A + J) turns in rounds always reply finished".
use Rattle.std.specs.Prelude.{ℕ, ◌*◌, List, ◌++◌, Err, Ok, Result, ⊤}
use Rattle.table.specs.declared.Refusal.{Refusal}
use Rattle.table.specs.Format.{table_of}
use Rattle.table.specs.Pass.{first_found}
use Rattle.table.specs.Checks.{passes}
use Rattle.table.specs.Load.{found_number, found_place, if_found}
use Rattle.order.specs.Turns.{turns_of}
use Rattle.filling.specs.Filled.{filled_out}
use Rattle.schedule.specs.Begin.{begin_passes}

-- "m .. the number of actions, A of allocs and J of joins in the table as run": of the filled-out table
unfoldable pub limit_of : List ℕ → ℕ → ℕ → ℕ
limit_of s p K = p * turns_of (table_of (filled_out s K))

abbrev pub most_as : Result ⊤ Refusal → ℕ → Result ℕ Refusal
most_as (Ok _) L = Ok L
most_as (Err r) L = Err r

-- what is found before it: the checks of a beginning, in its order
abbrev pub most_found : List ℕ → ℕ → ℕ → Result ⊤ Refusal
most_found s p K = first_found (passes s ++ begin_passes (table_of s) p K)

-- what is answered to any bytes, p and K
unfoldable pub most_of : List ℕ → ℕ → ℕ → Result ℕ Refusal
most_of s p K = most_as (most_found s p K) (limit_of s p K)

-- ---- the paper's number and values

-- number and place of a refusal, 0 and 0 where there is none; L, 0 where there is none
pub record MostValues : Type 0 where
  pub number : ℕ
  pub place : ℕ
  pub limit : ℕ

abbrev pub most_values_of : Result ℕ Refusal → MostValues
most_values_of (Ok L) = record { number = 0; place = 0; limit = L }
most_values_of (Err r) = record { number = r.number; place = r.place; limit = 0 }

-- the same from the checks and the numbers alone
abbrev pub most_values_with : Result ⊤ Refusal → ℕ → MostValues
most_values_with found L = record { number = found_number found; place = found_place found; limit = if_found found 0 L }

unfoldable pub most_values_for : List ℕ → ℕ → ℕ → MostValues
most_values_for s p K = most_values_with (most_found s p K) (limit_of s p K)
