-- What the two calls answer to any bytes, and what they leave in the lent buffers.
use Rattle.std.specs.Prelude.{ℕ, List, length, Err, Ok, Result, ⊤}
use Rattle.std.specs.declared.cmp.Ordering.{Ordering}
use Rattle.std.specs.declared.cmp.Ordering.TheVariants.{Less, Equal, Greater}
use Rattle.table.specs.declared.Refusal.{Refusal}
use Rattle.table.specs.Pass.{first_found}
use Rattle.table.specs.Checks.{passes}
use Rattle.table.specs.Load.{found_number, found_place, if_found}
use Rattle.rows.specs.Rows.{over}
use Rattle.canonical.specs.Canonical.{canonical}
use Rattle.canonical.specs.Order.{compare_tables}
use Rattle.canonical.specs.declared.RefusedTable.{RefusedTable}

-- what the checks find in a table
abbrev pub found_in : List ℕ → Result ⊤ Refusal
found_in s = first_found (passes s)

-- ---- the form

-- "each accepted table": its form of so many bytes; "A refused table gives its own number and place"
abbrev pub formed_by : Result ⊤ Refusal → ℕ → Result ℕ Refusal
formed_by (Ok _) k = Ok k
formed_by (Err r) k = Err r

unfoldable pub formed : List ℕ → Result ℕ Refusal
formed s = formed_by (found_in s) (length (canonical s))

-- the buffer afterwards: the form at its start, or as it was
unfoldable pub formed_in : List ℕ → List ℕ → List ℕ
formed_in s out = if_found (found_in s) out (over (canonical s) out)

-- the paper's values of an answer: number and place, 0 and 0 for an accepted table; the form's bytes, 0 for a refused one
pub record FormValues : Type 0 where
  pub number : ℕ
  pub place : ℕ
  pub size : ℕ

abbrev pub form_values_of : Result ℕ Refusal → FormValues
form_values_of (Ok k) = record { number = 0; place = 0; size = k }
form_values_of (Err r) = record { number = r.number; place = r.place; size = 0 }

-- the same values from the checks and the table alone
unfoldable pub form_values : List ℕ → FormValues
form_values s = record { number = found_number (found_in s); place = found_place (found_in s); size = if_found (found_in s) 0 (length (canonical s)) }

-- ---- two tables compared

-- "A refused table gives its own number and place, the first table's before the second's"; the tables are counted from 0
abbrev pub compared_by : Result ⊤ Refusal → Result ⊤ Refusal → Ordering → Result Ordering RefusedTable
compared_by (Err r) g o = Err (record { table = 0; refusal = r })
compared_by (Ok _) (Err r) o = Err (record { table = 1; refusal = r })
compared_by (Ok _) (Ok _) o = Ok o

unfoldable pub compared : List ℕ → List ℕ → Result Ordering RefusedTable
compared s u = compared_by (found_in s) (found_in u) (compare_tables s u)

-- a buffer afterwards, of two tables: a form at its start where neither is refused, else as it was
unfoldable pub compared_in : List ℕ → List ℕ → List ℕ → List ℕ → List ℕ
compared_in s u form out = if_found (found_in s) out (if_found (found_in u) out (over form out))

-- the paper's values: number and place; 1 before, 2 equal, 3 after, 0 for a refused table; the refused table, else 0
pub record CompareValues : Type 0 where
  pub number : ℕ
  pub place : ℕ
  pub said : ℕ
  pub table : ℕ

abbrev pub said_number : Ordering → ℕ
said_number Less = 1
said_number Equal = 2
said_number Greater = 3

abbrev pub compare_values_of : Result Ordering RefusedTable → CompareValues
compare_values_of (Ok o) = record { number = 0; place = 0; said = said_number o; table = 0 }
compare_values_of (Err e) = record { number = e.refusal.number; place = e.refusal.place; said = 0; table = e.table }

-- the same values from the checks and the two forms alone
unfoldable pub compare_values : List ℕ → List ℕ → CompareValues
compare_values s u =
    record {
      number = if_found (found_in s) (found_number (found_in s)) (found_number (found_in u));
      place = if_found (found_in s) (found_place (found_in s)) (found_place (found_in u));
      said = if_found (found_in s) 0 (if_found (found_in u) 0 (said_number (compare_tables s u)));
      table = if_found (found_in s) 0 (if_found (found_in u) 1 0);
    }
