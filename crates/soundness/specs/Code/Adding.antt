-- How the code adds up what is done: thread by thread, from each thread's first action to the first that is not done.
use Rattle.std.specs.Prelude.{◌≡◌, ℕ, ◌+◌, ◌*◌, ◌≤◌, ◌<◌, List}
use Rattle.table.specs.Sum.{sum_to}
use Rattle.table.specs.Format.{table_of}
use Rattle.soundness.specs.Code.Checks.{Accepted}
use Rattle.soundness.specs.declared.amounts.Sums.{Sums}

-- thread t's actions below stop may be added to sums over the threads before it
pub record Adds (s : List ℕ) (n t stop : ℕ) (before : Sums) : Type 0 where
  pub accepted : Accepted s n
  pub thread : t < n
  pub from : (table_of s).first t ≤ stop
  pub within : stop ≤ (table_of s).actions
  pub few_allocs : before.allocs ≤ 16777215 * (table_of s).first t
  pub few_frees : before.frees ≤ 16777215 * (table_of s).first t

-- the amounts of the actions from first on and below stop are added, each of 24 bits
pub record Added (own : ℕ → ℕ) (first stop before after : ℕ) : Type 0 where
  pub value : after + sum_to own first ≡ before + sum_to own stop
  pub small : after ≤ 16777215 * stop
