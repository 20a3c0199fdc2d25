-- What the deques of a run keep: each thread's place, and who owns which deque.
use Rattle.std.specs.Prelude.{◌≡◌, ℕ, ◌+◌, ◌≤◌, ◌<◌, List, [], ◌∷◌, false, ◌⊎◌, get_or, eqb}
use Rattle.table.specs.Sum.{pick}
use Rattle.schedule.specs.declared.Worker.{Worker}
use Rattle.schedule.specs.Machine.{ready, held, waiting, unborn, ended, nobody}
use Rattle.schedule.specs.Record.{max_workers}
use Rattle.schedule.specs.Memory.{count_in}
use Rattle.deques.specs.Deques.{Deque, unowned, is_empty}

-- how often thread t stands in the deques
unfoldable pub occurs : ℕ → List Deque → ℕ
occurs t [] = 0
occurs t (d ∷ ds) = count_in t d.threads + occurs t ds

-- how many deques worker w owns
abbrev pub owns : ℕ → Deque → ℕ
owns w d = pick (eqb d.owner w) 1 0

unfoldable pub owned_by : ℕ → List Deque → ℕ
owned_by w [] = 0
owned_by w (d ∷ ds) = owns w d + owned_by w ds

-- "a deque has .. an owner or a thread"
abbrev pub InUse : Deque → Type 0
InUse d = (d.owner < unowned) ⊎ ((d.owner ≡ unowned) × (is_empty d.threads ≡ false))

unfoldable pub AllInUse : List Deque → Type 0
AllInUse [] = Unit {0}
AllInUse (d ∷ ds) = InUse d × AllInUse ds

-- 1 where the thread has the status
abbrev pub status_is : ℕ → List ℕ → ℕ → ℕ
status_is y status t = pick (eqb (get_or status t 0) y) 1 0

abbrev pub ready_at : List ℕ → ℕ → ℕ
ready_at status t = status_is ready status t

abbrev pub holds_at : List Worker → ℕ → ℕ
holds_at workers w = pick (get_or workers w nobody).holds 1 0

pub record PlacedDeques (n : ℕ) (status : List ℕ) (workers : List Worker) (ds : List Deque) : Type 0 where
  -- a ready thread stands in one deque, once; no other stands in any: every thread of the table is exactly one of N13's five (`once_exactly`, proofs/DequeSoundness)
  pub once : (t : ℕ) → t < n → occurs t ds ≡ ready_at status t
  pub none : (t : ℕ) → n ≤ t → occurs t ds ≡ 0
  -- "A worker owns one deque while it holds a thread and otherwise none"
  pub owned : (w : ℕ) → w < max_workers → owned_by w ds ≡ holds_at workers w
  -- "a deque has .. an owner or a thread"
  pub in_use : AllInUse ds

-- "every thread of the table is exactly one of these: in one deque, held, waiting, unborn, ended": how often it stands in the deques, and 1 for each of the others that it is
unfoldable pub places_of : List ℕ → List Deque → ℕ → ℕ
places_of status ds t = occurs t ds + (status_is held status t + (status_is waiting status t + (status_is unborn status t + status_is ended status t)))
