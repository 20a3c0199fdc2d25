-- Rows of turns of DFDeques, and the steals among them: where each begins, and how many begin beyond an action in serial order.
use Rattle.std.specs.Prelude.{ℕ, zero, suc, ◌+◌, ◌-◌, List, [], ◌∷◌, Bool, false, ◌&&◌, ◌||◌, not, get_or, ltb}
use Rattle.table.specs.Sum.{pick}
use Rattle.table.specs.Format.{Table}
use Rattle.table.specs.Checks.{alloc_of, free_of}
use Rattle.schedule.specs.declared.Reply.{Reply}
use Rattle.schedule.specs.Memory.{sum_replies}
use Rattle.schedule.specs.Machine.{next_of, worker_of}
use Rattle.order.specs.Order.{number_of}
use Rattle.deques.specs.Deques.{Deque, nothing, is_empty, bottom, Deques, start_deques, deque_turn}
use Rattle.deques.specs.DequeRuns.{Pair}

-- the turn steals, and the action that it begins with: the next one of the stolen thread
abbrev pub robs : ℕ → ℕ → Deques → Bool
robs w c d = not (worker_of d.state w).holds && not (is_empty (get_or d.deques c nothing).threads)

abbrev pub starts_at : ℕ → Deques → ℕ
starts_at c d = next_of d.state (bottom (get_or d.deques c nothing).threads)

-- 1 where the turn steals and begins beyond action v
unfoldable pub steals_beyond : Table → ℕ → ℕ → Deques → ℕ → ℕ
steals_beyond T w c d v = pick (robs w c d && ltb (number_of T v) (number_of T (starts_at c d))) 1 0

-- J v: the steals of a row that begin beyond action v
unfoldable pub steals : Table → ℕ → Deques → List Pair → ℕ → ℕ
steals T K d [] v = 0
steals T K d (g ∷ row) v = steals_beyond T g.worker g.choice d v + steals T K (deque_turn T K g.worker g.choice d).after row v

-- the steals of a row at places from 1 on
unfoldable pub steals_far : ℕ → ℕ → Deques → ℕ
steals_far w c d = pick (robs w c d && ltb 0 c) 1 0

unfoldable pub far : Table → ℕ → Deques → List Pair → ℕ
far T K d [] = 0
far T K d (g ∷ row) = steals_far g.worker g.choice d + far T K (deque_turn T K g.worker g.choice d).after row

-- a deque left of place c has a thread
unfoldable pub thread_left_of : ℕ → List Deque → Bool
thread_left_of zero ds = false
thread_left_of (suc c) [] = false
thread_left_of (suc c) (d ∷ ds) = not (is_empty d.threads) || thread_left_of c ds

-- a leap: a steal past a deque that has a thread
unfoldable pub leaps_at : ℕ → ℕ → Deques → ℕ
leaps_at w c d = pick (robs w c d && thread_left_of c d.deques) 1 0

unfoldable pub leaps : Table → ℕ → Deques → List Pair → ℕ
leaps T K d [] = 0
leaps T K d (g ∷ row) = leaps_at g.worker g.choice d + leaps T K (deque_turn T K g.worker g.choice d).after row

-- the replies of a row, and "the sum of the arguments of the allocs done, less that of the frees done"
unfoldable pub row_replies : Table → ℕ → Deques → List Pair → List Reply
row_replies T K d [] = []
row_replies T K d (g ∷ row) = (deque_turn T K g.worker g.choice d).reply ∷ row_replies T K (deque_turn T K g.worker g.choice d).after row

unfoldable pub deque_memory : Table → ℕ → List Pair → ℕ
deque_memory T K row =
    let l : List Reply = row_replies T K (start_deques T) row in
    sum_replies (alloc_of T) l - sum_replies (free_of T) l
