-- The worked cases hold of turns and runs as they are defined, each with its test of the whole record.
use Rattle.std.specs.Prelude.{Err, Ok, Result, ⊤}
use Rattle.table.specs.declared.Refusal.{Refusal}
use mathlib.Core.Path.{◌≡◌, refl, ap, ◌∙◌}
use Prim.Native.Nat.{ℕ, suc, ◌+◌, ◌-◌, ◌^◌, ◌≤◌, ◌<◌}
use native.Mathlib.Omega.{arith}
use mathlib.Core.List.{List, [], ◌∷◌, map}
use mathlib.Core.Bool.{Bool, true, ◌&&◌}
use lib.ListN.{length}
use lib.Dec.{ltb}
use borrow.Author.Tests.{ltb-true}
use Rattle.table.specs.Pass.{try_at}
use Rattle.table.specs.Cases.{E}
use Rattle.order.proofs.Words.{and_exactly}
use Rattle.schedule.specs.Begin.{start_state}
use Rattle.deques.specs.Deques.{Deques}
use Rattle.schedule.specs.Answers.{report_values}
use Rattle.deques.specs.declared.DequeRun.{DequeRun}
use Rattle.deques.specs.declared.DequeTurned.{DequeTurned}
use Rattle.deques.specs.declared.DequeRan.{DequeRan}
use Rattle.deques.specs.DequeSound.{SteadyDeques, SoundDeques}
use Rattle.deques.specs.DequeBegin.{deque_begin}
use Rattle.deques.specs.DequeTurn.{unsound_deques, deque_checks, step_deques, deque_turned_as, deque_turned}
use Rattle.deques.specs.DequeRuns.{Pair, pair, pairs_run}
use Rattle.deques.specs.DequeValues.{deque_turning_values}
use Rattle.deques.specs.DequeTurnCases.{deque_turned_sound, pairs_run_sound, said_after, DequeTurnCase, deque_turn_cases, start_e, begins_E, Says, deque_said_worked, PairsCase, pairs_cases, Reports, pairs_worked}
use Rattle.deques.proofs.DequeTests.{deque_sound_exactly}
use Rattle.deques.proofs.DequeStores.{moved_turns}
use Rattle.deques.proofs.DequeHistories.{deque_begin_started, deque_begin_sound, start_values, deque_turn_steady}

-- of a sound record 32 does not apply
pub deque_turned_sound_lem : (r : DequeRun) (w c : ℕ) → SoundDeques r → deque_turned r w c ≡ deque_turned_sound r w c
unfolding deque_turned deque_checks try_at unsound_deques
deque_turned_sound_lem r w c h = rw ((deque_sound_exactly r).1 h)

pub pairs_run_sound_lem : (r : DequeRun) (l : List ℕ) → SoundDeques r → pairs_run r l ≡ pairs_run_sound r l
unfolding pairs_run unsound_deques
pairs_run_sound_lem r l h = rw ((deque_sound_exactly r).1 h)

turned_turns : (r : DequeRun) (w c : ℕ) → (deque_turned r w c).run.run.turns ≤ suc r.run.turns
unfolding deque_turned
turned_turns r w c = go (try_at (deque_checks r w c) 0)
  where
    go : (f : Result ⊤ Refusal) → (deque_turned_as f r (step_deques r w c)).run.run.turns ≤ suc r.run.turns
    go (Ok _) = omega (arith, moved_turns r (pair w c))
    go (Err x) = omega arith

said_same : (r : DequeRun) → SteadyDeques r → (order : List Pair) (g : Pair) → r.run.turns + length order < 2 ^ 64 - 1 → said_after deque_turned r order g ≡ said_after deque_turned_sound r order g
said_same r h [] g n =
    ap (λ (x : DequeTurned). deque_turning_values x.answer) (deque_turned_sound_lem r g.worker g.choice (record { steady = h; turns = omega (arith, n) }))
said_same r h (p ∷ order) g n =
    said_same (deque_turned r p.worker p.choice).run (deque_turn_steady r p.worker p.choice h) order g (omega (arith, n, turned_turns r p.worker p.choice))
    ∙ ap (λ (x : DequeTurned). said_after deque_turned_sound x.run order g) (deque_turned_sound_lem r p.worker p.choice (record { steady = h; turns = omega (arith, n) }))

begun : deque_begin E 2 6 ≡ record { answer = Ok tt; run = start_e }
begun = λ i. record { answer = begins_E i; run = start_e }

start_sound : SoundDeques start_e
start_sound = deque_begin_sound E 2 6 start_e begun

start_turns : start_e.run.turns ≡ 0
unfolding start_state
start_turns = ap (λ (d : Deques). d.state.turns) (start_values E 2 6 start_e (deque_begin_started E 2 6 start_e begun)).3

-- ---- the tables of cases

all_short : List DequeTurnCase → Bool
all_short [] = true
all_short (x ∷ l) = ltb (length x.order) 100 && all_short l

all_said : (l : List DequeTurnCase) → all_short l ≡ true
    → map (λ (x : DequeTurnCase). said_after deque_turned start_e x.order x.pair) l ≡ map (λ (x : DequeTurnCase). said_after deque_turned_sound start_e x.order x.pair) l
unfolding all_short
all_said [] h = refl
all_said (x ∷ l) h =
    let q = (and_exactly (ltb (length x.order) 100) (all_short l)).0 h in
    cc (said_same start_e start_sound.steady x.order x.pair (omega (arith, ltb-true (length x.order) 100 q.0, start_turns)), all_said l q.1)

pub deque_said_turned : Says deque_turned
unfolding all_short deque_turn_cases
deque_said_turned = all_said deque_turn_cases refl ∙ deque_said_worked

all_reported : (l : List PairsCase)
    → map (λ (x : PairsCase). report_values (pairs_run start_e x.bytes).report) l ≡ map (λ (x : PairsCase). report_values (pairs_run_sound start_e x.bytes).report) l
all_reported [] = refl
all_reported (x ∷ l) = cc (ap (λ (d : DequeRan). report_values d.report) (pairs_run_sound_lem start_e x.bytes start_sound), all_reported l)

pub pairs_reported : Reports pairs_run
pairs_reported = all_reported pairs_cases ∙ pairs_worked
