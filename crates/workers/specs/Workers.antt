-- Workers that take turns of one run and do its actions, as events in any order (docs/WORKERS.md, rules 1 to 4).
use Rattle.std.specs.Prelude.{◌≡◌, ℕ, List, [], ◌∷◌, Err, Ok, Result}
use Rattle.table.specs.declared.Refusal.{Refusal}
use Rattle.schedule.specs.declared.Taken.{Taken}
use Rattle.table.specs.Format.{Table}
use Rattle.schedule.specs.declared.Run.{Run}
use Rattle.schedule.specs.Record.{table_in}
use Rattle.schedule.specs.Turn.{turned}
use Rattle.schedule.specs.Calls.{Call}
use Rattle.schedule.specs.Calls.{turn as turn_call}
use Rattle.workers.specs.Real.{Effect, nothing, effect_of, none, Real, no_memory, by_turn, by_work}

-- worker w takes a turn, inside the lock, or does what is pending for it, outside
pub data Event : Type 0 where
  turn : ℕ → Event
  work : ℕ → Event

-- the record of the run, and real memory
pub record Workers : Type 0 where
  pub run : Run
  pub real : Real

-- at a beginning
abbrev pub starting : Run → Workers
starting r = record { run = r; real = no_memory }

-- a refused turn changes nothing
abbrev pub effect_in : Table → Result Taken Refusal → Effect
effect_in T (Ok t) = effect_of T t.reply
effect_in T (Err x) = nothing

unfoldable pub after_event : Event → Workers → Workers
after_event (turn w) s = record { run = (turned s.run w).run; real = by_turn (effect_in (table_in s.run) (turned s.run w).answer) w s.real }
after_event (work w) s = record { run = s.run; real = by_work (s.real.pending w) w s.real }

unfoldable pub after_events : List Event → Workers → Workers
after_events [] s = s
after_events (e ∷ l) s = after_events l (after_event e s)

-- rule 4: a worker takes a turn only while nothing is pending for it
unfoldable pub MayCome : Event → Workers → Type 0
MayCome (turn w) s = s.real.pending w ≡ none
MayCome (work w) s = Unit {0}

unfoldable pub Orderly : List Event → Workers → Type 0
Orderly [] s = Unit {0}
Orderly (e ∷ l) s = MayCome e s × Orderly l (after_event e s)

-- the calls among the events
unfoldable pub calls_of : List Event → List Call
calls_of [] = []
calls_of (turn w ∷ l) = turn_call w ∷ calls_of l
calls_of (work w ∷ l) = calls_of l

-- turns of the workers given, each followed at once by what it leaves to do
unfoldable pub in_turn : List ℕ → List Event
in_turn [] = []
in_turn (w ∷ row) = turn w ∷ work w ∷ in_turn row
