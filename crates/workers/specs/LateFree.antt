-- Frees as events of their own, after the turns that count them, while the other workers go on with what is pending for them (docs/WORKERS.md, rule 2).
use Rattle.std.specs.Prelude.{◌≡◌, ℕ, List, [], ◌∷◌}
use Rattle.table.specs.Sum.{sum_to}
use Rattle.schedule.specs.declared.Run.{Run}
use Rattle.schedule.specs.declared.Turned.{Turned}
use Rattle.schedule.specs.Record.{max_workers, table_in}
use Rattle.schedule.specs.Turn.{turned}
use Rattle.schedule.specs.Calls.{Call}
use Rattle.schedule.specs.Calls.{turn as turn_call}
use Rattle.workers.specs.Real.{Effect, nothing, allocs, frees, joins, none, Real, no_memory, put, by_turn, by_work}
use Rattle.workers.specs.Workers.{effect_in}

-- worker w takes a turn, does what is pending for it, or makes the free that it owes
pub data LateEvent : Type 0 where
  turn : ℕ → LateEvent
  work : ℕ → LateEvent
  freed : ℕ → LateEvent

-- the record of the run, real memory, and for each worker the free that is counted and not yet made
pub record Late : Type 0 where
  pub run : Run
  pub real : Real
  pub owed : ℕ → Effect

-- at a beginning
abbrev pub start_late : Run → Late
start_late r = record { run = r; real = no_memory; owed = λ w. nothing }

-- what a turn does but for a free
abbrev pub at_once : Effect → Effect
at_once nothing = nothing
at_once (allocs t x) = allocs t x
at_once (frees t x) = nothing
at_once (joins t c) = joins t c

-- and the free, which it leaves to do
abbrev pub later : Effect → Effect
later nothing = nothing
later (allocs t x) = nothing
later (frees t x) = frees t x
later (joins t c) = nothing

-- `turns` is what a turn is: `turned`, or where a case is computed the same on sound records
unfoldable pub late_event : (Run → ℕ → Turned) → LateEvent → Late → Late
late_event turns (turn w) s =
    let e : Effect = effect_in (table_in s.run) (turns s.run w).answer in
    record { run = (turns s.run w).run; real = by_turn (at_once e) w s.real; owed = put w (later e) s.owed }
late_event turns (work w) s = record { run = s.run; real = by_work (s.real.pending w) w s.real; owed = s.owed }
late_event turns (freed w) s = record { run = s.run; real = by_turn (s.owed w) w s.real; owed = put w nothing s.owed }

unfoldable pub after_late : (Run → ℕ → Turned) → List LateEvent → Late → Late
after_late turns [] s = s
after_late turns (e ∷ l) s = after_late turns l (late_event turns e s)

-- rules 2 and 4: a turn comes only while nobody owes a free, which is made before the lock is given back, and nothing is pending for its worker
unfoldable pub LateMayCome : LateEvent → Late → Type 0
LateMayCome (turn w) s = (s.real.pending w ≡ none) × ((v : ℕ) → s.owed v ≡ nothing)
LateMayCome (work w) s = Unit {0}
LateMayCome (freed w) s = Unit {0}

unfoldable pub LateOrderly : List LateEvent → Late → Type 0
LateOrderly [] s = Unit {0}
LateOrderly (e ∷ l) s = LateMayCome e s × LateOrderly l (late_event turned e s)

-- the calls among the events
unfoldable pub late_calls_of : List LateEvent → List Call
late_calls_of [] = []
late_calls_of (turn w ∷ l) = turn_call w ∷ late_calls_of l
late_calls_of (work w ∷ l) = late_calls_of l
late_calls_of (freed w ∷ l) = late_calls_of l

abbrev pub free_in : Effect → ℕ
free_in nothing = 0
free_in (allocs t x) = 0
free_in (frees t x) = x
free_in (joins t c) = 0

-- the sum of the frees owed
unfoldable pub owed_all : Late → ℕ
owed_all s = sum_to (λ w. free_in (s.owed w)) max_workers
