-- The answer to any bytes has the number and the values that follow from the checks and the table.
use Rattle.std.specs.Prelude.{Err, Ok, Result, ⊤}
use Rattle.table.specs.declared.Refusal.{Refusal}
use mathlib.Core.Path.{◌≡◌, refl}
use Prim.Native.Nat.{ℕ}
use mathlib.Core.List.{List}
use Rattle.table.specs.Format.{table_of}
use Rattle.table.specs.Pass.{first_found}
use Rattle.table.specs.Checks.{passes}
use Rattle.table.specs.Load.{answer, facts_of, loaded, values_of, values_with, table_values}

pub table_values_lem : (s : List ℕ) → values_of (loaded s) ≡ table_values s
unfolding loaded table_values facts_of
table_values_lem s = go (first_found (passes s))
  where
    go : (found : Result ⊤ Refusal) → values_of (answer found (facts_of (table_of s))) ≡ values_with found (table_of s)
    go (Ok _) = refl
    go (Err r) = refl
