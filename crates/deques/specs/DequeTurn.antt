-- A turn of DFDeques on any record whatever: 32, 30, 31, 49, or the reply and the record after.
use Rattle.std.specs.Prelude.{ℕ, List, [], ◌∷◌, Bool, not, ◌&&◌, ltb, Err, Ok, Result, ⊤}
use Rattle.table.specs.declared.Refusal.{Refusal}
use Rattle.table.specs.Pass.{Check, try_at}
use Rattle.schedule.specs.Record.{table_in}
use Rattle.schedule.specs.Turn.{root_ended, no_worker}
use Rattle.deques.specs.declared.DequeRun.{DequeRun}
use Rattle.deques.specs.declared.DequeTurned.{DequeTurned}
use Rattle.deques.specs.Deques.{DequeStep, deque_turn}
use Rattle.deques.specs.DequeRecord.{deques_of, deque_stored}
use Rattle.deques.specs.DequeSound.{deque_sound, is_blank_deques}

-- 32: "record not sound and not blank"
unfoldable pub unsound_deques : DequeRun → Bool
unsound_deques r = not (deque_sound r) && not (is_blank_deques r)

-- 49: "choice byte not below p"
unfoldable pub no_choice : DequeRun → ℕ → Bool
no_choice r c = not (ltb c r.run.workers)

-- the checks of a turn, in their order; their place is 0
unfoldable pub deque_checks : DequeRun → ℕ → ℕ → List Check
deque_checks r w c =
    record { number = 32; applies = λ i. unsound_deques r }
    ∷ record { number = 30; applies = λ i. no_worker r.run w }
    ∷ record { number = 31; applies = λ i. root_ended r.run }
    ∷ record { number = 49; applies = λ i. no_choice r c }
    ∷ []

-- what the turn of worker w with choice c does to the deques
unfoldable pub step_deques : DequeRun → ℕ → ℕ → DequeStep
step_deques r w c = deque_turn (table_in r.run) r.run.quota w c (deques_of r)

abbrev pub deque_turned_as : Result ⊤ Refusal → DequeRun → DequeStep → DequeTurned
deque_turned_as (Ok _) r s = record { answer = Ok s.reply; run = deque_stored r.run s.after }
deque_turned_as (Err x) r s = record { answer = Err x; run = r }

-- "A refused turn hands back its record untouched."
unfoldable pub deque_turned : DequeRun → ℕ → ℕ → DequeTurned
deque_turned r w c = deque_turned_as (try_at (deque_checks r w c) 0) r (step_deques r w c)
