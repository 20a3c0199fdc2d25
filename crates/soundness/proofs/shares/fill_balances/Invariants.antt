-- `soundness::shares::fill_balances` meets its contract. The invariant: the array has the balances so far of the threads from t on.
use mathlib.Core.Path.{◌≡◌}
use Prim.Native.Nat.{ℕ, ◌≤◌, ◌<◌}
use mathlib.Core.List.{List}
use mathlib.Core.Bool.{true}
use lib.ListN.{get_or}
use Rattle.table.specs.Format.{table_of}
use Rattle.soundness.specs.Code.Checks.{Accepted, threads_sound}
use Rattle.soundness.specs.Code.Balancing.{Balances}
use Rattle.soundness.proofs.shares.fill_balances.Given as goal

pub record Inv (s : List ℕ) (n : ℕ) (next status balances : List ℕ) (t : ℕ) : Type 0 where
  pub accepted : Accepted s n
  pub sound : threads_sound (table_of s) n next status ≡ true
  pub bytes : (i : ℕ) → get_or s i 0 < 256
  pub few : n ≤ 1024
  pub within : t ≤ n
  pub filled : Balances (table_of s) next status balances t

abbrev pub invariant-loop-t : goal.invariant-loop-t
invariant-loop-t l = Inv l.table l.n l.next l.status l.balances l.t
