-- Real memory for the running code of DFDeques, by value: each turn is a call of `dfdeques::deque_turn` on the record that the last one left, of which nothing is known but its promise.
-- `deque_worked_is`: the record, real memory and the row of pairs are those of the definitions. `deque_worked_exists`: every list of events that keeps rule 4 has one, and so from a beginning every row of pairs (`deque_turns_worked_exist`).
-- `deque_code_real_memory`: and so all that crates/deque_workers says of real memory holds.
use Rattle.std.specs.Prelude.{Ok}
use mathlib.Core.Path.{◌≡◌, refl, sym, ap, ap₂, subst, ◌∙◌}
use Prim.Native.Nat.{ℕ}
use mathlib.Core.List.{List, [], ◌∷◌, ◌++◌}
use Rattle.table.specs.Format.{table_of}
use Rattle.filling.specs.Filled.{filled_out}
use Rattle.schedule.specs.Record.{table_in}
use Rattle.deques.specs.declared.DequeBegun.{DequeBegun}
use Rattle.deques.specs.declared.DequeTurned.{DequeTurned}
use Rattle.deques.specs.DequeBegin.{deque_begin}
use Rattle.deques.specs.DequeTurn.{deque_turned}
use Rattle.deques.specs.DequeRuns.{Pair, pair}
use Rattle.deques.specs.DequeCalls.{deque_turn_row, after_deque_call, pairs_of, pairs_of_calls}
use Rattle.deques.proofs.DequeAnswers.{deque_turn_values_lem}
use Rattle.workers.specs.Real.{none, by_turn, by_work}
use Rattle.deque_workers.specs.DequeWorkers.{DequeEvent, turn, work, DequeWorkers, starting_deques, deque_effect_in, after_deque_event, after_deque_events, DequeMayCome, DequeOrderly, deque_calls_of, deque_in_turn}
use Rattle.deque_workers.proofs.DequeRealMemory.{DequeRealMemory, deque_real_memory, deque_in_turn_orderly}
use Rattle.deque_claims.proofs.ByValue.{BeginSays, TurnSays, begin_is, begin_says}

-- what worker w does with the answer of its turn
abbrev pub deque_turned_to : DequeWorkers → ℕ → DequeTurned → DequeWorkers
deque_turned_to s w d = record { run = d.run; real = by_turn (deque_effect_in (table_in s.run.run) d.answer) w s.real }

abbrev pub deque_worked_to : DequeWorkers → ℕ → DequeWorkers
deque_worked_to s w = record { run = s.run; real = by_work (s.real.pending w) w s.real }

-- events one after the other, a turn only where nothing is pending for its worker: the row of the turns taken, and what they leave
pub data DequeWorked : DequeWorkers → List DequeEvent → List Pair → DequeWorkers → Type 0 where
  over : {s : DequeWorkers} → DequeWorked s [] [] s
  by_turn_lem : {s z : DequeWorkers} {l : List DequeEvent} {row : List Pair} (w c : ℕ) (d : DequeTurned) → s.real.pending w ≡ none → TurnSays s.run w c d
      → DequeWorked (deque_turned_to s w d) l row z → DequeWorked s (turn w c ∷ l) (deque_turn_row d.answer (pair w c) ++ row) z
  by_work_lem : {s z : DequeWorkers} {l : List DequeEvent} {row : List Pair} (w : ℕ) → DequeWorked (deque_worked_to s w) l row z → DequeWorked s (work w ∷ l) row z

pub record DefinedDequeWork (s : DequeWorkers) (l : List DequeEvent) (row : List Pair) (z : DequeWorkers) : Type 0 where
  pub orderly : DequeOrderly l s
  pub row_is : row ≡ pairs_of_calls (deque_calls_of l) s.run
  pub state_is : z ≡ after_deque_events l s

pub deque_worked_is : {s : DequeWorkers} {l : List DequeEvent} {row : List Pair} {z : DequeWorkers} → DequeWorked s l row z → DefinedDequeWork s l row z
unfolding DequeOrderly DequeMayCome after_deque_events after_deque_event pairs_of_calls deque_calls_of pairs_of after_deque_call
deque_worked_is (over {s}) = record { orderly = tt; row_is = refl; state_is = refl }
deque_worked_is (by_turn_lem {s} {z} {l} {row} w c d n h t) =
    let e : d ≡ deque_turned s.run w c = h.promised.0 in
    let i : DefinedDequeWork (deque_turned_to s w d) l row z = deque_worked_is t in
    record {
      orderly = (n, subst (λ (x : DequeTurned). DequeOrderly l (deque_turned_to s w x)) e i.orderly);
      row_is =
          ap₂ ◌++◌ (ap (λ (x : DequeTurned). deque_turn_row x.answer (pair w c)) e) (i.row_is ∙ ap (λ (x : DequeTurned). pairs_of_calls (deque_calls_of l) x.run) e);
      state_is = i.state_is ∙ ap (λ (x : DequeTurned). after_deque_events l (deque_turned_to s w x)) e;
    }
deque_worked_is (by_work_lem {s} {z} {l} {row} w t) =
    let i : DefinedDequeWork (deque_worked_to s w) l row z = deque_worked_is t in
    record { orderly = (tt, i.orderly); row_is = i.row_is; state_is = i.state_is }

-- every list of events that keeps the rule can come about
pub deque_worked_exists : (l : List DequeEvent) (s : DequeWorkers) → DequeOrderly l s → DequeWorked s l (pairs_of_calls (deque_calls_of l) s.run) (after_deque_events l s)
unfolding DequeOrderly DequeMayCome after_deque_events after_deque_event pairs_of_calls deque_calls_of pairs_of after_deque_call
deque_worked_exists [] s o = over
deque_worked_exists (turn w c ∷ l) s o =
    by_turn_lem w c (deque_turned s.run w c) o.0 (record { exit = (s.run, (w, (c, tt))); promised = (refl, deque_turn_values_lem s.run w c) })
    (deque_worked_exists l (deque_turned_to s w (deque_turned s.run w c)) o.1)
deque_worked_exists (work w ∷ l) s o = by_work_lem w (deque_worked_exists l (deque_worked_to s w) o.1)

-- and so from a beginning
pub deque_begun_worked_exists : (s : List ℕ) (p K : ℕ) (l : List DequeEvent) → DequeOrderly l (starting_deques (deque_begin s p K).run)
    → BeginSays s p K (deque_begin s p K)
    × DequeWorked (starting_deques (deque_begin s p K).run) l (pairs_of_calls (deque_calls_of l) (deque_begin s p K).run) (after_deque_events l (starting_deques (deque_begin s p K).run))
deque_begun_worked_exists s p K l o = (begin_says s p K, deque_worked_exists l (starting_deques (deque_begin s p K).run) o)

-- for every row of pairs
pub deque_turns_worked_exist : (s : List ℕ) (p K : ℕ) (row : List Pair)
    → (taken : List Pair) × ((z : DequeWorkers) × (BeginSays s p K (deque_begin s p K) × DequeWorked (starting_deques (deque_begin s p K).run) (deque_in_turn row) taken z))
deque_turns_worked_exist s p K row = (_, (_, deque_begun_worked_exists s p K (deque_in_turn row) (deque_in_turn_orderly row (starting_deques (deque_begin s p K).run) (λ w. refl))))

-- Beginning accepted the bytes, p and K, and any events followed.
pub deque_code_real_memory : {s : List ℕ} {p K : ℕ} {b : DequeBegun} → BeginSays s p K b → b.answer ≡ Ok tt → {l : List DequeEvent} {row : List Pair} {z : DequeWorkers}
    → DequeWorked (starting_deques b.run) l row z → DequeRealMemory (table_of (filled_out s K)) p K z row
deque_code_real_memory {s} {p} {K} {b} h e {l} {row} {z} t =
    let d : DefinedDequeWork (starting_deques b.run) l row z = deque_worked_is t in
    let f : deque_begin s p K ≡ record { answer = Ok tt; run = b.run } = sym (begin_is h) ∙ (λ i. record { answer = e i; run = b.run }) in
    subst (λ (x : DequeWorkers). DequeRealMemory (table_of (filled_out s K)) p K x row) (sym d.state_is)
    (subst (λ (x : List Pair). DequeRealMemory (table_of (filled_out s K)) p K (after_deque_events l (starting_deques b.run)) x) (sym d.row_is)
    (deque_real_memory s p K b.run f l d.orderly))
