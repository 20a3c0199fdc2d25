-- Rows of turns of E held against the limit on the threads in the list, as rows of one table with one theorem over all of them, computed on the definitions.
use Rattle.std.specs.Prelude.{◌≡◌, refl, ℕ, List, [], ◌∷◌, map, replicate}
use Rattle.table.specs.Sum.{greatest, greatest_to}
use Rattle.table.specs.Format.{code_of, kind_of, is, table_of}
use Rattle.table.specs.Checks.{owner_below}
use Rattle.table.specs.Level.{fork_below, fork_of, before_it, joined_end, depends_on, level_within, D}
use Rattle.table.specs.Nested.{nest_within, N}
use Rattle.table.specs.Cases.{E}
use Rattle.schedule.specs.Machine.{left_of, without, waits_for, woken, act_by, act, leftmost, taken, turn_free, turn_of}
use Rattle.schedule.specs.Begin.{start_state}
use Rattle.order.specs.Firsts.{firsts}
use Rattle.schedule.specs.Memory.{row_state, front_rows}
use Rattle.schedule.specs.Threads.{listed_after, thread_limit}
use Rattle.schedule.specs.Cases.{order_e}

-- p, K, b and a row of workers, with the most threads in the list after a front part of the row, and the limit
pub record ThreadCase : Type 0 where
  pub workers : ℕ
  pub quota : ℕ
  pub gap : ℕ
  pub order : List ℕ
  pub most : ℕ
  pub limit : ℕ

unfoldable pub thread_cases : List ThreadCase
thread_cases =
    -- document 01's listing: all three threads are in the list, and the limit is 2 + 1 × 7 = 9
    record { workers = 2; quota = 6; gap = 1; order = order_e; most = 3; limit = 9 }
    -- one worker: never more than N, which it reaches
    ∷ record { workers = 1; quota = 6; gap = 1; order = replicate 12 0; most = 2; limit = 2 }
    ∷ []

abbrev pub measured : ThreadCase → ThreadCase
measured c =
    record {
      workers = c.workers;
      quota = c.quota;
      gap = c.gap;
      order = c.order;
      most = greatest (listed_after (table_of E) c.quota) (front_rows c.order);
      limit = thread_limit (table_of E) c.workers c.gap;
    }

pub threads_worked : map measured thread_cases ≡ thread_cases
unfolding thread_cases greatest greatest_to code_of kind_of is table_of owner_below fork_below fork_of before_it joined_end depends_on level_within D nest_within N left_of without waits_for woken act_by act leftmost taken turn_free turn_of firsts start_state row_state front_rows listed_after thread_limit
threads_worked = refl
