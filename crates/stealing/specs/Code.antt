-- Promises between the parts of the code: the memory that a move leaves, the turn not yet counted.
use Rattle.std.specs.Prelude.{◌≡◌, ℕ, ◌+◌, ◌^◌, ◌<◌, true, get_or, set}
use Rattle.table.specs.Sum.{pick}
use Rattle.table.specs.Format.{Table}
use Rattle.schedule.specs.declared.Worker.{Worker}
use Rattle.schedule.specs.declared.Reply.TheVariants.{Idle}
use Rattle.schedule.specs.Machine.{ended}
use Rattle.array_machine.specs.Turn.{Outcome, moved, waits_in}
use Rattle.run_memory.specs.Blocks.{Bytes}
use Rattle.run_memory.specs.Places.{holds_in}
use Rattle.run_memory.specs.Memory.{Memory, worker_in, moved_in, hindrance}
use Rattle.run_memory.specs.Code.Acts.{went_to}
use Rattle.stealing.specs.Stealing.{leaves_on, wakes_on, forks_on, deque_in, robbed_arrays, robbed_totals}

-- w is one of sixteen workers and holds a thread
abbrev pub Holder : ℕ → Bytes → Type 0
Holder w B = (w < 16) × (holds_in w B ≡ true)

-- thread t leaves its line with status y
abbrev pub left_behind : ℕ → ℕ → ℕ → Memory → Memory
left_behind t y w M = went_to M w (leaves_on Idle t y M.arrays (moved_in M).totals (worker_in M w))

-- thread u comes in the place of t, which has ended
abbrev pub woken_up : ℕ → ℕ → ℕ → Memory → Memory
woken_up t u w M = went_to M w (wakes_on Idle t u M.arrays (moved_in M).totals (worker_in M w))

-- thread t, at action a, forks thread x
abbrev pub forked_off : ℕ → ℕ → ℕ → ℕ → Memory → Memory
forked_off t a x w M = went_to M w (forks_on t a x M.arrays (moved_in M).totals (worker_in M w))

-- thread t ends
abbrev pub ended_in : Table → ℕ → ℕ → Memory → Memory
ended_in T t w M =
    let u : ℕ = get_or M.parents t 0 in
    pick (waits_in T M.arrays.next (set M.arrays.status t ended) u t) (woken_up t u w M) (left_behind t ended w M)

-- worker w holds a thread, and nothing hinders its turn before the action is looked at
pub record Going (M : Memory) (w : ℕ) : Type 0 where
  pub few : w < 16
  pub holds : (worker_in M w).holds ≡ true
  pub room : (moved_in M).turns + 1 < 2 ^ 64
  pub free : hindrance (moved_in M).turns (get_or M.settings 0 0) w (get_or M.arrays.status 0 0) ≡ 0

-- ---- a steal

-- a worker that has stolen thread b: "The quota K is refilled only by a steal"
abbrev pub thief : ℕ → Memory → Worker
thief b M = record { holds = true; thread = b; quota = get_or M.settings 1 0 }

-- the stolen thread's first action
abbrev pub stolen_on : Table → ℕ → Memory → Outcome
stolen_on T b M = deque_in T (get_or M.settings 1 0) M.parents (robbed_arrays b M.arrays (moved_in M).totals) (robbed_totals b M.arrays (moved_in M).totals) (thief b M)

-- worker w has stolen thread b and not yet done its action
abbrev pub stolen_in : ℕ → ℕ → Memory → Memory
stolen_in b w M = went_to M w (moved Idle (robbed_arrays b M.arrays (moved_in M).totals) (robbed_totals b M.arrays (moved_in M).totals) (thief b M))
