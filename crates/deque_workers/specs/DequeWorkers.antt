-- Workers that take turns of one run of DFDeques and do its actions, as events in any order (docs/WORKERS.md, rules 1 to 4).
use Rattle.std.specs.Prelude.{◌≡◌, ℕ, List, [], ◌∷◌, Err, Ok, Result}
use Rattle.schedule.specs.declared.Reply.{Reply}
use Rattle.table.specs.declared.Refusal.{Refusal}
use Rattle.table.specs.Format.{Table}
use Rattle.schedule.specs.Record.{table_in}
use Rattle.deques.specs.declared.DequeRun.{DequeRun}
use Rattle.deques.specs.DequeTurn.{deque_turned}
use Rattle.deques.specs.DequeRuns.{Pair}
use Rattle.deques.specs.DequeCalls.{DequeCall}
use Rattle.deques.specs.DequeCalls.{turn as turn_call}
use Rattle.workers.specs.Real.{Effect, nothing, effect_of, none, Real, no_memory, by_turn, by_work}

-- worker w takes a turn with choice c, inside the lock, or does what is pending for it, outside
pub data DequeEvent : Type 0 where
  turn : ℕ → ℕ → DequeEvent
  work : ℕ → DequeEvent

-- the record of the run, and real memory
pub record DequeWorkers : Type 0 where
  pub run : DequeRun
  pub real : Real

abbrev pub starting_deques : DequeRun → DequeWorkers
starting_deques r = record { run = r; real = no_memory }

-- a refused turn changes nothing
abbrev pub deque_effect_in : Table → Result Reply Refusal → Effect
deque_effect_in T (Ok x) = effect_of T x
deque_effect_in T (Err x) = nothing

unfoldable pub after_deque_event : DequeEvent → DequeWorkers → DequeWorkers
after_deque_event (turn w c) s =
    record { run = (deque_turned s.run w c).run; real = by_turn (deque_effect_in (table_in s.run.run) (deque_turned s.run w c).answer) w s.real }
after_deque_event (work w) s = record { run = s.run; real = by_work (s.real.pending w) w s.real }

unfoldable pub after_deque_events : List DequeEvent → DequeWorkers → DequeWorkers
after_deque_events [] s = s
after_deque_events (e ∷ l) s = after_deque_events l (after_deque_event e s)

-- rule 4: a worker takes a turn only while nothing is pending for it
unfoldable pub DequeMayCome : DequeEvent → DequeWorkers → Type 0
DequeMayCome (turn w c) s = s.real.pending w ≡ none
DequeMayCome (work w) s = Unit {0}

unfoldable pub DequeOrderly : List DequeEvent → DequeWorkers → Type 0
DequeOrderly [] s = Unit {0}
DequeOrderly (e ∷ l) s = DequeMayCome e s × DequeOrderly l (after_deque_event e s)

-- the calls among the events
unfoldable pub deque_calls_of : List DequeEvent → List DequeCall
deque_calls_of [] = []
deque_calls_of (turn w c ∷ l) = turn_call w c ∷ deque_calls_of l
deque_calls_of (work w ∷ l) = deque_calls_of l

-- turns of the pairs given, each followed at once by what it leaves to do
unfoldable pub deque_in_turn : List Pair → List DequeEvent
deque_in_turn [] = []
deque_in_turn (g ∷ row) = turn g.worker g.choice ∷ work g.worker ∷ deque_in_turn row
