-- `facts::peak::serial_amounts` meets its contract. The invariant: the arrays have the amounts and the peak of each thread from t on.
use Prim.Native.Nat.{ℕ, ◌<◌, ◌≤◌}
use mathlib.Core.List.{List}
use lib.ListN.{get_or}
use Rattle.table.specs.Format.{table_of}
use Rattle.table.specs.Checks.{alloc_of, free_of, whole}
use Rattle.table.specs.Code.Steps.{Filled}
use Rattle.facts.specs.Code.Steps.{Kept}
use Rattle.table.proofs.Sizes.{Sizes}
use Rattle.table.proofs.Peaks.{peak_at}
use Rattle.facts.proofs.peak.serial_amounts.Given as goal

pub record Inv (s : List ℕ) (n m : ℕ) (rises falls peaks : List ℕ) (t : ℕ) : Type 0 where
  pub kept : Kept s n m
  pub sized : Sizes s n m
  pub bytes : (i : ℕ) → get_or s i 0 < 256
  pub within : t ≤ n
  pub rising : Filled (table_of s) (whole (table_of s) (alloc_of (table_of s))) rises t
  pub falling : Filled (table_of s) (whole (table_of s) (free_of (table_of s))) falls t
  pub peaking : Filled (table_of s) (peak_at (table_of s)) peaks t

abbrev pub invariant-loop-t : goal.invariant-loop-t
invariant-loop-t l = Inv l.table l.n l.m l.rises l.falls l.peaks l.t
