-- What the inner functions of the code require and promise.
use Rattle.std.specs.Prelude.{◌≡◌, ℕ, ◌≤◌, List, Result}
use Rattle.table.specs.declared.Refusal.{Refusal}
use Rattle.table.specs.Format.{table_of}
use Rattle.table.specs.Pass.{try_pass}
use Rattle.table.specs.Rules.{Rules}
use Rattle.table.specs.Load.{facts_of}
use Rattle.table.specs.declared.Facts.{Facts}
use Rattle.quota.specs.Quota.{most_quota, max_gap, quota_pass, answered_by}

-- a table that passes its own checks, with its facts
pub record Accepted (s : List ℕ) (f : Facts) : Type 0 where
  pub rules : Rules s
  pub facts : f ≡ facts_of (table_of s)

-- p and b in range, and a depth
pub record Ready (p b depth : ℕ) : Type 0 where
  pub some_worker : 1 ≤ p
  pub few_workers : p ≤ 16
  pub small_gap : b ≤ max_gap
  pub some_depth : 1 ≤ depth

-- the answer where the table's own checks pass
unfoldable pub own_answer : List ℕ → ℕ → ℕ → ℕ → Result ℕ Refusal
own_answer s p b M = answered_by (try_pass (quota_pass (table_of s) p b M)) (most_quota (table_of s) p b M)
