-- The cycle {`facts::level::end_level`, `facts::level::walk`} meets its contracts. Each one's measure is the count of actions left in the thread and its children, and one more
-- for `end_level`: it falls at a fork. What a turn of the walk finds is in proofs/EndLevels.
use Rattle.std.proofs.Common.{◌≡◌, ℕ, suc, ◌≤◌, ◌<◌, List}
use Rattle.table.specs.Format.{body_of, table_of}
use Rattle.table.specs.Code.Steps.{Nested}
use Rattle.table.proofs.Sizes.{Sizes}
use Rattle.table.proofs.Rank.{rest}
use Rattle.facts.proofs.EndLevels.{Walking}
use Rattle.facts.proofs.level.+end_level_walk.Given as goal

pub record Inv (s : List ℕ) (n m t : ℕ) (body : List ℕ) (count : ℕ) (ends₀ ends : List ℕ) (last i : ℕ) : Type 0 where
  pub nested : Nested s n m
  pub sizes : Sizes s n m
  pub thread : t < n
  pub body_is : body ≡ body_of s t
  pub count_is : count ≡ (table_of s).count t
  pub within : i ≤ count
  pub walking : Walking (table_of s) t ends₀ ends last i

abbrev pub decreases-end_level : goal.decreases-end_level
decreases-end_level l = suc (rest (table_of l.table.now) ((table_of l.table.now).first l.t))

abbrev pub decreases-walk : goal.decreases-walk
decreases-walk l = rest (table_of l.table.now) ((table_of l.table.now).first l.t)

abbrev pub invariant-walk-loop-i : goal.invariant-walk-loop-i
invariant-walk-loop-i l = Inv l.table l.n l.m l.t l.body l.count l.fn.ends l.ends l.last l.i
