-- Bytes read as a table of n threads; of as many as they say.
use mathlib.Core.Path.{◌≡◌}
use Prim.Native.Nat.{ℕ}
use mathlib.Core.List.{List}
use Rattle.table.specs.Format.{table_of}
use Rattle.array_machine.specs.Arrays.{table_from}

pub own_table : (s : List ℕ) (n : ℕ) → n ≡ (table_of s).threads → table_from s n ≡ table_of s
unfolding table_of table_from
own_table s n e = rw e
