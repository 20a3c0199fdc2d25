-- `assembly::put::body_count` meets its contract. The invariant: the actions passed and those of the rest are all of them.
use Prim.Native.Nat.{ℕ, ◌+◌, ◌-◌, ◌≤◌}
use mathlib.Core.Path.{◌≡◌}
use mathlib.Core.List.{List}
use lib.ListN.{length, drop}
use Rattle.assembly.specs.Said.{saids}
use Rattle.assembly.specs.Assembly.{body_count}
use Rattle.assembly.proofs.put.body_count.Given as goal

pub record Inv (s : List ℕ) (from at count : ℕ) : Type 0 where
  pub passed : count ≤ at
  pub small : count ≤ length s
  pub rest : count + body_count (saids (drop at s)) ≡ body_count (saids (drop from s))

abbrev pub invariant-loop-at : goal.invariant-loop-at
invariant-loop-at l = Inv l.text l.at-2 l.at l.count

abbrev pub decreases-loop-at : goal.decreases-loop-at
decreases-loop-at l = length l.text - l.at
