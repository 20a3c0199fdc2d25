-- `origin::brought` meets its contract. The invariant: both sums are those over the actions below a.
use mathlib.Core.Path.{◌≡◌}
use Prim.Native.Nat.{ℕ, ◌*◌, ◌≤◌, ◌<◌}
use mathlib.Core.List.{List}
use Rattle.table.specs.Sum.{sum_to}
use Rattle.table.specs.Format.{table_of}
use Rattle.filling.specs.Filled.{new_threads}
use Rattle.origin.specs.Origin.{bigs_to}
use Rattle.origin.proofs.brought.Given as goal

pub record Inv (s : List ℕ) (K n k bigs threads a : ℕ) : Type 0 where
  pub is_threads : n ≡ (table_of s).threads
  pub some : (1 ≤ K) × (K < 16777216)
  pub few : k ≤ 65536
  pub within : a ≤ k
  pub now_bigs : bigs ≡ bigs_to (table_of s) K a
  pub few_bigs : bigs ≤ a
  pub now_threads : threads ≡ sum_to (new_threads (table_of s) K) a
  pub few_threads : threads ≤ 67108864 * a

abbrev pub invariant-loop-a : goal.invariant-loop-a
invariant-loop-a l = Inv l.table l.quota l.n l.k l.bigs l.threads l.a
