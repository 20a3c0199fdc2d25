-- `soundness::numbers::thread_length` meets its contract. The invariant: what is counted and what is left from action a on are one more than the whole thread.
use mathlib.Core.Path.{◌≡◌}
use Prim.Native.Nat.{ℕ, ◌+◌, ◌≤◌, ◌<◌}
use mathlib.Core.List.{List}
use lib.ListN.{length}
use Rattle.table.specs.Format.{table_of}
use Rattle.table.specs.Checks.{end_of}
use Rattle.table.specs.Serial.{serial}
use Rattle.soundness.proofs.numbers.thread_length.Given as goal

pub record Inv (s : List ℕ) (t last total a : ℕ) : Type 0 where
  pub below : t < (table_of s).threads
  pub ends : last ≡ end_of (table_of s) t
  pub from : (table_of s).first t ≤ a
  pub upto : a ≤ last
  pub small : length (serial (table_of s) ((table_of s).first t)) ≤ 8192
  pub counted : total + length (serial (table_of s) a) ≡ 1 + length (serial (table_of s) ((table_of s).first t))

abbrev pub invariant-loop-a : goal.invariant-loop-a
invariant-loop-a l = Inv l.table l.t l.last l.total l.a
