-- `filling::puts::body_count` meets its contract. The invariant: what is counted and what is left from action k on are the whole body.
use mathlib.Core.Path.{◌≡◌}
use Prim.Native.Nat.{ℕ, ◌+◌, ◌-◌, ◌≤◌, ◌<◌}
use mathlib.Core.List.{List}
use lib.ListN.{length}
use Rattle.table.specs.Format.{table_of}
use Rattle.filling.specs.Filled.{filled_from, filled_body}
use Rattle.filling.specs.Code.Steps.{Ready}
use Rattle.filling.proofs.Numbering.{l}
use Rattle.filling.proofs.puts.body_count.Given as goal

pub record Inv (s : List ℕ) (n K t first count total k : ℕ) : Type 0 where
  pub ready : Ready s n K
  pub below : t < (table_of s).threads
  pub first_is : first ≡ (table_of s).first t
  pub count_is : count ≡ (table_of s).count t
  pub within : k ≤ count
  pub few : first + count ≤ 8192
  pub counted : total + length (filled_from (table_of s) K (first + k) (count - k)) ≡ length (filled_body (table_of s) K t)

abbrev pub invariant-loop-k : goal.invariant-loop-k
invariant-loop-k l = Inv l.table l.n l.quota l.t l.first l.count l.total l.k
