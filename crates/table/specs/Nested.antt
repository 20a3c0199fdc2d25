-- Nested threads and their number of levels N (change request N2).
use Rattle.std.specs.Prelude.{ℕ, zero, suc}
use Rattle.table.specs.Sum.{greatest_to}
use Rattle.table.specs.Format.{Table}
use Rattle.table.specs.Checks.{owner}
use Rattle.table.specs.Level.{fork_below}

-- "nested thread levels, the root being one": of any other thread it is 1 more than its parent's, the thread that forks it. A parent has the lower number, so the count of threads is
-- fuel enough; `nest_root` and `nest_child` (proofs/NestedThreads) are the same sentence without it.
unfoldable pub nest_within : ℕ → Table → ℕ → ℕ
nest_within zero T t = 0
nest_within (suc f) T zero = 1
nest_within (suc f) T (suc t) = suc (nest_within f T (owner T (fork_below T T.actions (suc t))))

abbrev pub nest : Table → ℕ → ℕ
nest T t = nest_within T.threads T t

-- "the number of nested thread levels": the greatest over the threads, whether their forks are open at the same time or not
unfoldable pub N : Table → ℕ
N T = greatest_to (nest T) T.threads
