-- `filling::numbers::thread_sum` meets its contract. The invariant: what is counted is what the actions before k lead to.
use mathlib.Core.Path.{◌≡◌}
use Prim.Native.Nat.{ℕ, ◌+◌, ◌≤◌, ◌<◌}
use mathlib.Core.List.{List}
use Rattle.table.specs.Format.{table_of}
use Rattle.table.proofs.Amounts.{fork_part}
use Rattle.filling.specs.Filled.{new_threads}
use Rattle.filling.specs.Code.Steps.{Ready, Sums}
use Rattle.filling.proofs.Numbering.{l}
use Rattle.filling.proofs.numbers.thread_sum.Given as goal

pub record Inv (s : List ℕ) (n K t : ℕ) (sums : List ℕ) (first count total k : ℕ) : Type 0 where
  pub ready : Ready s n K
  pub below : t < (table_of s).threads
  pub sums_right : Sums (table_of s) K sums (t + 1)
  pub first_is : first ≡ (table_of s).first t
  pub count_is : count ≡ (table_of s).count t
  pub within : k ≤ count
  pub few : first + count ≤ 8192
  pub counted : total ≡ fork_part (table_of s) (new_threads (table_of s) K) t k

abbrev pub invariant-loop-k : goal.invariant-loop-k
invariant-loop-k l = Inv l.table l.n l.quota l.t l.sums l.first l.count l.total l.k
