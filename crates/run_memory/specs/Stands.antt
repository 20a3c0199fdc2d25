-- The record that stands in lent memory beside its table, and when it is that of a run.
use Rattle.std.specs.Prelude.{◌≡◌, ℕ, zero, suc, ◌^◌, ◌<◌, List, [], ◌∷◌, Bool, true, length, get_or, ltb}
use Rattle.table.specs.Format.{table_of}
use Rattle.schedule.specs.declared.Worker.{Worker}
use Rattle.schedule.specs.declared.Run.{Run}
use Rattle.schedule.specs.Links.{LinkedAs}
use Rattle.schedule.specs.Actives.{actives}
use Rattle.schedule.specs.Record.{max_bytes, max_workers}
use Rattle.order.specs.Words.{filled, all_below}
use Rattle.schedule.specs.Parents.{Parents}
use Rattle.schedule.specs.Sound.{Steady}
use Rattle.schedule.specs.Answers.{Values}
use Rattle.array_machine.specs.Arrays.{second_of, listed_in}
use Rattle.array_machine.specs.Packed.{packed_of}
use Rattle.run_memory.specs.Memory.{Memory, worker_from, moved_in, said_code}

-- n workers from worker w on
unfoldable pub workers_from : List ℕ → List ℕ → List ℕ → ℕ → ℕ → List Worker
workers_from holds threads quotas w zero = []
workers_from holds threads quotas w (suc n) = worker_from holds threads quotas w ∷ workers_from holds threads quotas (suc w) n

abbrev pub workers_in : Memory → List Worker
workers_in M = workers_from M.holds M.threads M.quotas 0 max_workers

-- a worker's truth value is written as 0 or 1
unfoldable pub truths : List ℕ → Bool
truths holds = all_below (λ w. ltb (get_or holds w 0) 2) max_workers

-- the table, p and K; the rest of the record is the memory's
abbrev pub settled : List ℕ → Memory → Run
settled s M =
    record {
      table = filled max_bytes s;
      length = length s;
      workers = get_or M.settings 0 0;
      quota = get_or M.settings 1 0;
      next = [];
      status = [];
      amounts = [];
      left = [];
      right = [];
      leftmost = 0;
      worker = [];
      busy = 0;
      held = 0;
      highest = 0;
      turns = 0;
    }

-- the record
abbrev pub run_in : List ℕ → Memory → Run
run_in s M = packed_of (settled s M) M.arrays (workers_in M) (moved_in M)

-- the record is sound but for its turns taken; what stands beside it, each thread's parent and the second list, is as a beginning, an opening or a turn leaves it
pub record Stands (s : List ℕ) (M : Memory) : Type 0 where
  pub steady : Steady (run_in s M)
  pub parent : Parents (table_of s) M.parents
  pub second : LinkedAs (second_of M.arrays (moved_in M).totals) (actives M.arrays.status (listed_in M.arrays (moved_in M).totals))
  pub truth_values : truths M.holds ≡ true
  pub holds_size : length M.holds ≡ max_workers
  pub threads_size : length M.threads ≡ max_workers
  pub quotas_size : length M.quotas ≡ max_workers
  pub turns_fit : (moved_in M).turns < 2 ^ 64

-- the row of the paper's values of a turn
abbrev pub values_row : Values → List ℕ
values_row v = v.place ∷ said_code v.said ∷ v.thread ∷ v.value ∷ v.passed ∷ []
