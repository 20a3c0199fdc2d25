-- `most::counts::given_turns` meets its contract. The invariant: `turns` is what the actions passed add up to, at most 2 for each.
use mathlib.Core.Path.{◌≡◌}
use Prim.Native.Nat.{ℕ, ◌-◌, ◌*◌, ◌≤◌}
use mathlib.Core.List.{List}
use Rattle.table.specs.Sum.{sum_to, Read}
use Rattle.table.specs.Format.{table_of}
use Rattle.most.specs.Code.Steps.{turns_at}
use Rattle.most.proofs.counts.given_turns.Given as goal

pub record Inv (s : List ℕ) (n m turns a : ℕ) : Type 0 where
  pub threads : n ≡ (table_of s).threads
  pub actions : Read (table_of s).actions 65536 m
  pub within : a ≤ m
  pub added : turns ≡ sum_to (turns_at (table_of s)) a
  pub few : turns ≤ 2 * a

abbrev pub invariant-loop-a : goal.invariant-loop-a
invariant-loop-a l = Inv l.table l.n l.m l.turns l.a
