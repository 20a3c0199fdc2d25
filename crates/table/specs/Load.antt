-- The answer to any bytes: refused by the first check that applies, or accepted with the table's facts.
use Rattle.std.specs.Prelude.{ℕ, List, Err, Ok, Result, ⊤}
use Rattle.table.specs.declared.Refusal.{Refusal}
use Rattle.table.specs.Format.{Table, table_of}
use Rattle.table.specs.Pass.{first_found}
use Rattle.table.specs.Checks.{passes}
use Rattle.table.specs.Serial.{S1}
use Rattle.table.specs.Level.{D}
use Rattle.table.specs.Nested.{N}
use Rattle.table.specs.declared.Facts.{Facts}

-- the facts of an accepted table: n, m, S1, D and N
unfoldable pub facts_of : Table → Facts
facts_of T = record { threads = T.threads; actions = T.actions; peak = S1 T; depth = D T; nested = N T }

abbrev pub answer : Result ⊤ Refusal → Facts → Result Facts Refusal
answer (Ok _) f = Ok f
answer (Err r) f = Err r

-- what loading answers
unfoldable pub loaded : List ℕ → Result Facts Refusal
loaded s = answer (first_found (passes s)) (facts_of (table_of s))

-- the paper's values of an answer: number and place, 0 and 0 for an accepted table; n, m, S1, D and N, 0 for a refused one
pub record TableValues : Type 0 where
  pub number : ℕ
  pub place : ℕ
  pub threads : ℕ
  pub actions : ℕ
  pub peak : ℕ
  pub depth : ℕ
  pub nested : ℕ

abbrev pub values_of : Result Facts Refusal → TableValues
values_of (Ok f) =
    record { number = 0; place = 0; threads = f.threads; actions = f.actions; peak = f.peak; depth = f.depth; nested = f.nested }
values_of (Err r) =
    record { number = r.number; place = r.place; threads = 0; actions = 0; peak = 0; depth = 0; nested = 0 }

-- ---- the same values from the checks and the table alone

-- number and place of what checks have found, 0 and 0 where none applies
abbrev pub found_number : Result ⊤ Refusal → ℕ
found_number (Ok _) = 0
found_number (Err r) = r.number

abbrev pub found_place : Result ⊤ Refusal → ℕ
found_place (Ok _) = 0
found_place (Err r) = r.place

-- the first of two where a check has found something, the second where none has
abbrev pub if_found : {A : Type 0} → Result ⊤ Refusal → A → A → A
if_found (Ok _) x y = y
if_found (Err r) x y = x

-- of a table and what its checks have found: "A refused table gives n, m, S1 and D as 0"; N, "0 for a refused table"
abbrev pub values_with : Result ⊤ Refusal → Table → TableValues
values_with found T =
    record {
      number = found_number found;
      place = found_place found;
      threads = if_found found 0 T.threads;
      actions = if_found found 0 T.actions;
      peak = if_found found 0 (S1 T);
      depth = if_found found 0 (D T);
      nested = if_found found 0 (N T);
    }

-- "The first that applies wins". The values of loading's answer are these: `table_values_lem` (proofs/Values).
unfoldable pub table_values : List ℕ → TableValues
table_values s = values_with (first_found (passes s)) (table_of s)
