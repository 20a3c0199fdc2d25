-- What the inner functions of the code require and promise.
use Rattle.std.specs.Prelude.{ℕ, ◌+◌, ◌≤◌, List, Result}
use Rattle.table.specs.declared.Refusal.{Refusal}
use Rattle.table.specs.Sum.{pick}
use Rattle.table.specs.Format.{is, Table, kind, table_of}
use Rattle.table.specs.declared.kinds.Kind.TheVariants.{Alloc as alloc, Join as join}
use Rattle.table.specs.Pass.{first_found}
use Rattle.schedule.specs.Begin.{begin_passes}
use Rattle.most.specs.Most.{limit_of, most_as}

-- what an action adds to m + A + J
unfoldable pub turns_at : Table → ℕ → ℕ
turns_at T a = 1 + pick (is alloc (kind T a)) 1 0 + pick (is join (kind T a)) 1 0

-- counts of threads and actions that are not below the table's own, and within the limits
pub record Counted (T : Table) (threads actions : ℕ) : Type 0 where
  pub more_threads : T.threads ≤ threads
  pub few_threads : threads ≤ 1024
  pub more_actions : T.actions ≤ actions
  pub few_actions : actions ≤ 8192

-- the answer where the table's own checks pass
unfoldable pub own_most : List ℕ → ℕ → ℕ → Result ℕ Refusal
own_most s p K = most_as (first_found (begin_passes (table_of s) p K)) (limit_of s p K)
