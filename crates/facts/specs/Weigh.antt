-- What an accepted table's serial run leaves, beside the facts, and the answer to any bytes with both.
use Rattle.std.specs.Prelude.{ℕ, ◌-◌, List, Err, Ok, Result, ⊤}
use Rattle.table.specs.declared.Refusal.{Refusal}
use Rattle.table.specs.Format.{Table, table_of}
use Rattle.table.specs.Pass.{first_found}
use Rattle.table.specs.Checks.{alloc_of, free_of, whole, passes}
use Rattle.table.specs.Load.{facts_of}
use Rattle.facts.specs.declared.Weighed.{Weighed}

-- "the final balances" (N12): what the root draws less what it gives back, with all threads below it. In a table that keeps the rules it is what the serial run holds at its end
-- (`left_serial`, proofs/Accepted), so never below 0.
abbrev pub left_of : Table → ℕ
left_of T = whole T (alloc_of T) 0 - whole T (free_of T) 0

abbrev pub weigh : Table → Weighed
weigh T = record { facts = facts_of T; left = left_of T }

abbrev pub weighed_by : Result ⊤ Refusal → Weighed → Result Weighed Refusal
weighed_by (Ok _) w = Ok w
weighed_by (Err r) w = Err r

-- refused by the first check that applies, or accepted with the facts and what is left
unfoldable pub weighing : List ℕ → Result Weighed Refusal
weighing s = weighed_by (first_found (passes s)) (weigh (table_of s))
