-- `filling::count::count` meets its contract. The invariant: threads and actions are those that the allocs below a make, and what is found from action a on is what is found in all.
use mathlib.Core.Path.{◌≡◌}
use Prim.Native.Nat.{ℕ, ◌-◌, ◌≤◌, ◌<◌}
use mathlib.Core.List.{List, [], ◌∷◌}
use Rattle.table.specs.Format.{Table, table_of}
use Rattle.table.specs.Pass.{Check, try_from, try_pass}
use Rattle.filling.specs.Filled.{threads_to, actions_to, overfull, fill_pass}
use Rattle.filling.proofs.count.count.Given as goal

abbrev pub checks : Table → ℕ → List Check
checks T K = record { number = 44; applies = overfull T K } ∷ []

pub record Inv (s : List ℕ) (K n m threads actions a : ℕ) : Type 0 where
  pub is_threads : n ≡ (table_of s).threads
  pub is_actions : m ≡ (table_of s).actions
  pub within : a ≤ m
  pub small : m < 65536
  pub now_threads : threads ≡ threads_to (table_of s) K a
  pub now_actions : actions ≡ actions_to (table_of s) K a
  pub threads_small : threads < 65536
  pub actions_small : actions < 65536
  pub remains : try_from (checks (table_of s) K) a (m - a) ≡ try_pass (fill_pass (table_of s) K)

abbrev pub invariant-loop-a : goal.invariant-loop-a
invariant-loop-a l = Inv l.table l.quota l.n l.m l.threads l.actions l.a
