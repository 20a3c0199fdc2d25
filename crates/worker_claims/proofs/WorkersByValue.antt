-- Real memory for the running code, by value: each turn is a call of `asyncdf::turn` on the record that the last one left, of which nothing is known but its promise. `worked_is`: the record, real memory
-- and the row of turns are those of the definitions. `worked_exists`: every list of events that keeps the rule has one, and so from a beginning every row of turns (`turns_worked_exist`). `code_real_memory`: and so all that
-- crates/workers says of real memory holds.
use Rattle.std.specs.Prelude.{Ok}
use mathlib.Core.Path.{◌≡◌, refl, sym, ap, ap₂, subst, ◌∙◌}
use Prim.Native.Nat.{ℕ}
use mathlib.Core.List.{List, [], ◌∷◌, ◌++◌}
use Rattle.table.specs.Format.{table_of}
use Rattle.filling.specs.Filled.{filled_out}
use Rattle.schedule.specs.declared.Begun.{Begun}
use Rattle.schedule.specs.declared.Turned.{Turned}
use Rattle.schedule.specs.Record.{table_in}
use Rattle.schedule.specs.Begin.{begin}
use Rattle.schedule.specs.Turn.{turned}
use Rattle.schedule.specs.Calls.{turn_row, after_call, row_of, row_of_calls}
use Rattle.schedule.proofs.Runs.Values.{turn_values_lem}
use Rattle.workers.specs.Real.{none, by_turn, by_work}
use Rattle.workers.specs.Workers.{Event, turn, work, Workers, starting, effect_in, after_event, after_events, MayCome, Orderly, calls_of, in_turn}
use Rattle.workers.proofs.RealMemory.{RealMemory, real_memory}
use Rattle.workers.proofs.InTurn.{in_turn_orderly}
use Rattle.claims.proofs.ByValue.{BeginSays, TurnSays, begin_is, begin_says}

-- what worker w does with the answer of its turn
abbrev pub turned_to : Workers → ℕ → Turned → Workers
turned_to s w d = record { run = d.run; real = by_turn (effect_in (table_in s.run) d.answer) w s.real }

abbrev pub worked_to : Workers → ℕ → Workers
worked_to s w = record { run = s.run; real = by_work (s.real.pending w) w s.real }

-- events one after the other, a turn only where nothing is pending for its worker: the row of the turns taken, and what they leave
pub data Worked : Workers → List Event → List ℕ → Workers → Type 0 where
  over : {s : Workers} → Worked s [] [] s
  by_turn_lem : {s z : Workers} {l : List Event} {row : List ℕ} (w : ℕ) (d : Turned) → s.real.pending w ≡ none → TurnSays s.run w d → Worked (turned_to s w d) l row z
      → Worked s (turn w ∷ l) (turn_row d.answer w ++ row) z
  by_work_lem : {s z : Workers} {l : List Event} {row : List ℕ} (w : ℕ) → Worked (worked_to s w) l row z → Worked s (work w ∷ l) row z

pub record DefinedWork (s : Workers) (l : List Event) (row : List ℕ) (z : Workers) : Type 0 where
  pub orderly : Orderly l s
  pub row_is : row ≡ row_of_calls (calls_of l) s.run
  pub state_is : z ≡ after_events l s

pub worked_is : {s : Workers} {l : List Event} {row : List ℕ} {z : Workers} → Worked s l row z → DefinedWork s l row z
unfolding Orderly MayCome after_events after_event row_of_calls calls_of row_of after_call
worked_is (over {s}) = record { orderly = tt; row_is = refl; state_is = refl }
worked_is (by_turn_lem {s} {z} {l} {row} w d n h t) =
    let e : d ≡ turned s.run w = h.promised.0 in
    let i : DefinedWork (turned_to s w d) l row z = worked_is t in
    record {
      orderly = (n, subst (λ (x : Turned). Orderly l (turned_to s w x)) e i.orderly);
      row_is = ap₂ ◌++◌ (ap (λ (x : Turned). turn_row x.answer w) e) (i.row_is ∙ ap (λ (x : Turned). row_of_calls (calls_of l) x.run) e);
      state_is = i.state_is ∙ ap (λ (x : Turned). after_events l (turned_to s w x)) e;
    }
worked_is (by_work_lem {s} {z} {l} {row} w t) =
    let i : DefinedWork (worked_to s w) l row z = worked_is t in
    record { orderly = (tt, i.orderly); row_is = i.row_is; state_is = i.state_is }

-- every list of events that keeps the rule can come about
pub worked_exists : (l : List Event) (s : Workers) → Orderly l s → Worked s l (row_of_calls (calls_of l) s.run) (after_events l s)
unfolding Orderly MayCome after_events after_event row_of_calls calls_of row_of after_call
worked_exists [] s o = over
worked_exists (turn w ∷ l) s o =
    by_turn_lem w (turned s.run w) o.0 (record { exit = (s.run, (w, tt)); promised = (refl, turn_values_lem s.run w) }) (worked_exists l (turned_to s w (turned s.run w)) o.1)
worked_exists (work w ∷ l) s o = by_work_lem w (worked_exists l (worked_to s w) o.1)

-- and so from a beginning
pub begun_worked_exists : (s : List ℕ) (p K : ℕ) (l : List Event) → Orderly l (starting (begin s p K).run)
    → BeginSays s p K (begin s p K) × Worked (starting (begin s p K).run) l (row_of_calls (calls_of l) (begin s p K).run) (after_events l (starting (begin s p K).run))
begun_worked_exists s p K l o = (begin_says s p K, worked_exists l (starting (begin s p K).run) o)

-- for every row of turns
pub turns_worked_exist : (s : List ℕ) (p K : ℕ) (row : List ℕ) → (taken : List ℕ) × ((z : Workers) × (BeginSays s p K (begin s p K) × Worked (starting (begin s p K).run) (in_turn row) taken z))
turns_worked_exist s p K row = (_, (_, begun_worked_exists s p K (in_turn row) (in_turn_orderly row (starting (begin s p K).run) (λ w. refl))))

-- Beginning accepted the bytes, p and K, and any events followed.
pub code_real_memory : {s : List ℕ} {p K : ℕ} {b : Begun} → BeginSays s p K b → b.answer ≡ Ok tt → {l : List Event} {row : List ℕ} {z : Workers}
    → Worked (starting b.run) l row z → RealMemory (table_of (filled_out s K)) p K z row
code_real_memory {s} {p} {K} {b} h e {l} {row} {z} t =
    let d : DefinedWork (starting b.run) l row z = worked_is t in
    let f : begin s p K ≡ record { answer = Ok tt; run = b.run } = sym (begin_is h) ∙ (λ i. record { answer = e i; run = b.run }) in
    subst (λ (x : Workers). RealMemory (table_of (filled_out s K)) p K x row) (sym d.state_is)
    (subst (λ (x : List ℕ). RealMemory (table_of (filled_out s K)) p K (after_events l (starting b.run)) x) (sym d.row_is) (real_memory s p K b.run f l d.orderly))
