-- A run in memory that is lent: numbers in arrays, and a turn on them, whatever they hold.
use Rattle.std.specs.Prelude.{ℕ, ◌-◌, ◌^◌, List, [], ◌∷◌, Bool, not, get_or, set, ltb, eqb, ⊤, Err, None, Ok, Option, Result, Some}
use Rattle.table.specs.Sum.{pick}
use Rattle.table.specs.Format.{table_of}
use Rattle.schedule.specs.declared.Worker.{Worker}
use Rattle.schedule.specs.declared.Reply.{Reply}
use Rattle.schedule.specs.declared.Taken.{Taken}
use Rattle.schedule.specs.declared.Reply.TheVariants.{Idle}
use Rattle.schedule.specs.Machine.{ended}
use Rattle.schedule.specs.Links.{no_thread, seek}
use Rattle.table.specs.Checks.{max_threads}
use Rattle.schedule.specs.Answers.{Said, nothing, idle, done, quota, wait, begun, finished, spent, reply_values}
use Rattle.array_machine.specs.declared.Moved.{Moved}
use Rattle.array_machine.specs.Arrays.{Arrays}
use Rattle.array_machine.specs.Counted.{Left, turn_on, passed_along}

-- p and K; each thread's parent; what turns move of the threads; of each worker whether it holds a thread, 0 if not, which, and its quota left; leftmost thread, that of the second list and
-- the set of workers that hold one; memory held, its highest and turns taken
pub record Memory : Type 0 where
  pub settings : List ℕ
  pub parents : List ℕ
  pub arrays : Arrays
  pub holds : List ℕ
  pub threads : List ℕ
  pub quotas : List ℕ
  pub heads : List ℕ
  pub totals : List ℕ

abbrev pub memory : List ℕ → List ℕ → Arrays → List ℕ → List ℕ → List ℕ → List ℕ → List ℕ → Memory
memory settings parents arrays holds threads quotas heads totals =
    record { settings = settings; parents = parents; arrays = arrays; holds = holds; threads = threads; quotas = quotas; heads = heads; totals = totals }

-- the record of worker w
abbrev pub worker_from : List ℕ → List ℕ → List ℕ → ℕ → Worker
worker_from holds threads quotas w = record { holds = not (eqb (get_or holds w 0) 0); thread = get_or threads w 0; quota = get_or quotas w 0 }

abbrev pub worker_in : Memory → ℕ → Worker
worker_in M w = worker_from M.holds M.threads M.quotas w

abbrev pub moved_from : List ℕ → List ℕ → Moved
moved_from heads totals =
    record {
      busy = get_or heads 2 0;
      totals = record { leftmost = get_or heads 0 0; first = get_or heads 1 0; held = get_or totals 0 0; highest = get_or totals 1 0 };
      turns = get_or totals 2 0;
    }

abbrev pub moved_in : Memory → Moved
moved_in M = moved_from M.heads M.totals

abbrev pub heads_of : Moved → List ℕ
heads_of m = m.totals.leftmost ∷ m.totals.first ∷ m.busy ∷ []

abbrev pub totals_of : Moved → List ℕ
totals_of m = m.totals.held ∷ m.totals.highest ∷ m.turns ∷ []

-- the memory after a turn of worker w
abbrev pub memory_after : Memory → ℕ → Left → Memory
memory_after M w z =
    memory M.settings M.parents z.arrays (set M.holds w (pick z.worker.holds 1 0)) (set M.threads w z.worker.thread) (set M.quotas w z.worker.quota)
    (heads_of z.moved) (totals_of z.moved)

-- ---- what a call answers

-- what is said, as a number
abbrev pub said_code : Said → ℕ
said_code nothing = 0
said_code idle = 1
said_code done = 2
said_code quota = 3
said_code wait = 4
said_code begun = 5
said_code finished = 6
said_code spent = 7

-- of a turn: the place of a refusal, which is 0; what is said, with the thread and the action, amount or child; how many threads stood left of one taken
abbrev pub reply_row : Reply → ℕ → List ℕ
reply_row x passed = let v = reply_values x in 0 ∷ said_code v.said ∷ v.thread ∷ v.value ∷ passed ∷ []

abbrev pub no_row : List ℕ
no_row = 0 ∷ 0 ∷ 0 ∷ 0 ∷ 0 ∷ []

-- what is said of where a run stopped
abbrev pub said_of : ℕ → Bool → Said
said_of number over = pick (eqb number 0) (pick over finished spent) nothing

abbrev pub said_at : Result Bool ℕ → Said
said_at (Ok over) = pick over finished spent
said_at (Err n) = nothing

-- of a run: the place, what is said, and the turns taken
abbrev pub run_row : Said → ℕ → List ℕ
run_row x turns = 0 ∷ said_code x ∷ turns ∷ []

-- the refusal's number, 0 where there is none; the lent row; the memory
pub record Answer : Type 0 where
  pub number : ℕ
  pub row : List ℕ
  pub memory : Memory

abbrev pub answer : ℕ → List ℕ → Memory → Answer
answer number row M = record { number = number; row = row; memory = M }

-- ---- a turn

-- 32 where no turn can be counted, 30, 31; 0 where none applies
unfoldable pub hindrance : ℕ → ℕ → ℕ → ℕ → ℕ
hindrance turns p w root = pick (eqb turns (2 ^ 64 - 1)) 32 (pick (ltb w p) (pick (eqb root ended) 31 0) 30)

-- number, reply and memory
pub record Told : Type 0 where
  pub number : ℕ
  pub reply : Reply
  pub memory : Memory

abbrev pub told : ℕ → Reply → Memory → Told
told number reply M = record { number = number; reply = reply; memory = M }

-- as the code answers it, a refusal's number being never 0: the number, 0 where it is none; the reply; how many threads stood left of one that was taken
abbrev pub number_in : {A : Type 0} → Result A ℕ → ℕ
number_in (Ok _) = 0
number_in (Err n) = n

abbrev pub reply_in : Result Taken ℕ → Reply
reply_in (Ok t) = t.reply
reply_in (Err n) = Idle

abbrev pub passed_in : Result Taken ℕ → ℕ
passed_in (Ok t) = t.passed
passed_in (Err n) = 0

-- a refusal's number, where it is not 0
abbrev pub unless : ℕ → Result ⊤ ℕ
unless n = pick {A = Result ⊤ ℕ} (eqb n 0) (Ok tt) (Err n)

-- a thread of the arrays'
abbrev pub thread_in : ℕ → Option ℕ
thread_in t = pick {A = Option ℕ} (ltb t no_thread) (Some t) None

-- a turn that is taken, or 32 where something does not fit
unfoldable pub turn_left : Memory → ℕ → Left → Told
turn_left M w z = pick z.fits (told 0 z.reply (memory_after M w z)) (told 32 Idle M)

-- a turn that nothing hinders
abbrev pub taken_in : List ℕ → ℕ → Memory → Told
taken_in s w M = turn_left M w (turn_on (table_of s) (get_or M.settings 1 0) M.parents w M.arrays (moved_in M) (worker_in M w))

-- "A turn of worker w." "A refused turn hands back its record untouched."
unfoldable pub turn_in : List ℕ → ℕ → Memory → Told
turn_in s w M =
    let number : ℕ = hindrance (moved_in M).turns (get_or M.settings 0 0) w (get_or M.arrays.status 0 0) in
    pick (eqb number 0) (taken_in s w M) (told number Idle M)

-- how many threads stand left of the one that worker w takes (N7) where the two lists are those of a run, from whether it holds one and the lists: where none of the second list is ready, none is taken, and the list is not
-- searched
abbrev pub passed_from : Bool → List ℕ → List ℕ → List ℕ → ℕ → ℕ → ℕ
passed_from holds status right over leftmost first =
    pick (ltb (seek max_threads status over first).thread no_thread) (passed_along holds (seek max_threads status right leftmost)) 0

abbrev pub passed_over : Memory → ℕ → ℕ
passed_over M w = passed_from (worker_in M w).holds M.arrays.status M.arrays.right M.arrays.over (moved_in M).totals.leftmost (moved_in M).totals.first

-- the single turn's call
unfoldable pub lent_turn : List ℕ → ℕ → Memory → Answer
lent_turn s w M =
    let t : Told = turn_in s w M in
    answer t.number (pick (eqb t.number 0) (reply_row t.reply (passed_over M w)) no_row) t.memory
