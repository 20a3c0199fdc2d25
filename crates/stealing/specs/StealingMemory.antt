-- A turn and a run over pairs of DFDeques on lent memory, whatever it holds: the memory of an AsyncDF run, its list the lines and its second list the bottoms.
use Rattle.std.specs.Prelude.{◌≡◌, ℕ, zero, suc, ◌-◌, ◌^◌, ◌/◌, ◌<◌, List, true, false, not, ◌&&◌, length, get_or, ltb, eqb, Err, Ok, Result}
use Rattle.table.specs.Sum.{pick}
use Rattle.table.specs.Format.{table_of}
use Rattle.schedule.specs.declared.Reply.{Reply}
use Rattle.schedule.specs.declared.Reply.TheVariants.{Idle}
use Rattle.schedule.specs.Machine.{ended}
use Rattle.schedule.specs.Links.{no_thread}
use Rattle.schedule.specs.Parents.{Parents}
use Rattle.schedule.specs.Record.{max_workers}
use Rattle.array_machine.specs.Arrays.{links}
use Rattle.run_memory.specs.Blocks.{Words}
use Rattle.run_memory.specs.Code.Writes.{linked_left}
use Rattle.run_memory.specs.Memory.{Memory, worker_in, moved_in, Told, told, turn_left}
use Rattle.run_memory.specs.Stands.{truths, run_in}
use Rattle.run_memory.specs.Runs.{Stopped, stopped, over_in}
use Rattle.deques.specs.declared.DequeRun.{DequeRun}
use Rattle.deques.specs.Lines.{linked_in}
use Rattle.deques.specs.DequeSound.{SteadyDeques}
use Rattle.deques.specs.DequeRuns.{Pair, pair_at}
use Rattle.stealing.specs.Stealing.{deque_turn_on}

-- "Errors: 49 choice byte not below p, after 31"
unfoldable pub deque_hindrance : ℕ → ℕ → ℕ → ℕ → ℕ → ℕ
deque_hindrance turns p w c root =
    pick (eqb turns (2 ^ 64 - 1)) 32 (pick (ltb w p) (pick (eqb root ended) 31 (pick (ltb c p) 0 49)) 30)

-- what a turn says, as the code answers it
abbrev pub said_in : Result Reply ℕ → Reply
said_in (Ok x) = x
said_in (Err n) = Idle

-- a turn that nothing hinders, or 32 where something does not fit
abbrev pub deque_taken_in : List ℕ → ℕ → ℕ → Memory → Told
deque_taken_in s w c M = turn_left M w (deque_turn_on (table_of s) (get_or M.settings 1 0) M.parents w c M.arrays (moved_in M) (worker_in M w))

unfoldable pub deque_turn_in : List ℕ → ℕ → ℕ → Memory → Told
deque_turn_in s w c M =
    let number : ℕ = deque_hindrance (moved_in M).turns (get_or M.settings 0 0) w c (get_or M.arrays.status 0 0) in
    pick (eqb number 0) (deque_taken_in s w c M) (told number Idle M)

-- At most k turns more after i turns, the pair of turn i given by `who`: "a run stops at the root's end, a refusal or the list's end"
unfoldable pub deque_drive_in : List ℕ → (ℕ → Pair) → ℕ → ℕ → Memory → Stopped
deque_drive_in s who zero i M = stopped 0 (over_in M) i M
deque_drive_in s who (suc k) i M =
    let t : Told = deque_turn_in s (who i).worker (who i).choice M in
    let rest : Stopped = deque_drive_in s who k (suc i) t.memory in
    pick (over_in M) (stopped 0 true i M) (pick (eqb t.number 0) rest (stopped t.number false i M))

-- "A run over a list takes two bytes a turn, worker and choice; an odd last byte isn't read"; 32 first where no turn can be counted
unfoldable pub deque_list_in : List ℕ → List ℕ → Memory → Stopped
deque_list_in s l M =
    let go : Stopped = deque_drive_in s (pair_at l) (length l / 2) 0 M in
    pick (eqb (moved_in M).turns (2 ^ 64 - 1)) (stopped 32 false 0 M) go

-- ---- the record that stands there

abbrev pub deque_run_in : List ℕ → Memory → DequeRun
deque_run_in s M = record { run = run_in s M; under = M.arrays.under; over = M.arrays.over; first = (moved_in M).totals.first }

-- it is sound but for its turns taken, and each thread's parent stands beside it
pub record DequesStand (s : List ℕ) (M : Memory) : Type 0 where
  pub steady : SteadyDeques (deque_run_in s M)
  pub parent : Parents (table_of s) M.parents
  pub truth_values : truths M.holds ≡ true
  pub holds_size : length M.holds ≡ max_workers
  pub threads_size : length M.threads ≡ max_workers
  pub quotas_size : length M.quotas ≡ max_workers
  pub turns_fit : (moved_in M).turns < 2 ^ 64

-- ---- a steal's write

-- `robbed_links` in the words of the memory
unfoldable pub robbed_words : ℕ → Words → Words
robbed_words b W =
    let x : ℕ = get_or (W.rows 2) b 0 in
    pick (ltb x no_thread && not (linked_in (links (W.rows 4) (W.rows 5) W.first) x)) (linked_left 4 1 x b W) W
