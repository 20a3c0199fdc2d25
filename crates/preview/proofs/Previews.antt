-- What a preview shows is what the turn then gives, number by number; its values are those of the checks and of the machine's step.
use Rattle.std.specs.Prelude.{Err, Ok, Result, ⊤}
use Rattle.schedule.specs.declared.Taken.{Taken}
use Rattle.schedule.specs.Turn.{taken_turn}
use mathlib.Core.Path.{◌≡◌, refl, sym, ap, ◌∙◌}
use Prim.Native.Nat.{ℕ, ◌^◌, ◌≤◌, ◌<◌}
use native.Mathlib.Omega.{arith}
use mathlib.Core.List.{List}
use mathlib.Core.Bool.{Bool, true, false}
use borrow.Author.Tests.{eqb-true}
use lib.Dec.{eqb}
use lib.ListN.{get_or}
use Rattle.table.specs.Sum.{pick}
use Rattle.table.specs.Pass.{refusal, try_at}
use Rattle.table.specs.Load.{if_found}
use Rattle.table.specs.declared.Refusal.{Refusal}
use Rattle.table.proofs.Tests.{no_way}
use Rattle.schedule.specs.declared.Run.{Run}
use Rattle.schedule.specs.declared.Reply.{Reply}
use Rattle.schedule.specs.declared.Turned.{Turned}
use Rattle.schedule.specs.Machine.{nobody, worker_of}
use Rattle.schedule.specs.Record.{bytes_of, table_in}
use Rattle.schedule.specs.Sound.{Sound}
use Rattle.schedule.specs.Parents.{Parents}
use Rattle.schedule.specs.Turn.{unsound, turn_checks, step_run, passed_in, turned_as, turned}
use Rattle.schedule.specs.Answers.{Values, turning_values}
use Rattle.schedule.specs.Values.{turn_values}
use Rattle.schedule.specs.Shown.{preview_values}
use Rattle.schedule.proofs.Runs.Values.{turn_values_lem}
use Rattle.array_machine.proofs.Answers.{turned_unsound, turned_none}
use Rattle.run_memory.specs.declared.preview.Foreseen.{Foreseen}
use Rattle.run_memory.specs.Memory.{Memory, Told, turn_in, passed_over}
use Rattle.run_memory.specs.Stands.{run_in, Stands}
use Rattle.run_memory.specs.Packing.{memory_for}
use Rattle.run_memory.specs.Preview.{foreseen_in}
use Rattle.run_memory.specs.Preview.{would as foreseen_would}
use Rattle.run_memory.proofs.Refines.{own_worker, turn_turned}
use Rattle.run_memory.proofs.Packed.{packed_record, packed_stands}
use Rattle.run_memory.proofs.Foreseeing.{few, small_number}
use Rattle.preview.specs.Preview.{would, preview_as, preview_of, shown_values}

-- ---- taking the turn afterwards gives exactly what was shown

-- what a preview says of a turn and the record after it
pub record Foretold (r : Run) (w : ℕ) (x : Reply) (k h g q : ℕ) : Type 0 where
  pub answer : (turned r w).answer ≡ taken_turn x k
  pub held : (turned r w).run.held ≡ h
  pub highest : (turned r w).run.highest ≡ g
  pub quota : (get_or (turned r w).run.worker w nobody).quota ≡ q

same_ok : {f g : Foreseen} → ◌≡◌ {A = Result Foreseen Refusal} (Ok f) (Ok g) → f ≡ g
same_ok e = cc (e)

pub preview_taken : (r : Run) (w : ℕ) {x : Reply} {k h g q : ℕ} → preview_of r w ≡ would x k h g q → Foretold r w x k h g q
unfolding preview_of
preview_taken r w {x} {k} {h} {g} {q} e = go (turned r w).answer refl
  where
    go : (a : Result Taken Refusal) → (turned r w).answer ≡ a → Foretold r w x k h g q
    go (Ok t) i =
        let p : ◌≡◌ {A = Foreseen} (record { reply = t.reply; passed = t.passed; held = (turned r w).run.held; highest = (turned r w).run.highest; quota = (get_or (turned r w).run.worker w nobody).quota }) (record { reply = x; passed = k; held = h; highest = g; quota = q }) = same_ok (rw i at e) in
        record {
          answer = i ∙ (λ j. taken_turn (p j).reply (p j).passed);
          held = ap (λ (v : Foreseen). v.held) p;
          highest = ap (λ (v : Foreseen). v.highest) p;
          quota = ap (λ (v : Foreseen). v.quota) p;
        }
    go (Err y) i = let d : Err y ≡ would x k h g q = rw i at e in no_way cc

pub preview_refused : (r : Run) (w : ℕ) {x : Refusal} → preview_of r w ≡ Err x → ((turned r w).answer ≡ Err x) × ((turned r w).run ≡ r)
unfolding preview_of turned
preview_refused r w {x} e = go (try_at (turn_checks r w) 0) refl
  where
    go : (f : Result ⊤ Refusal) → try_at (turn_checks r w) 0 ≡ f → ((turned_as f r (passed_in r w) (step_run r w)).answer ≡ Err x) × ((turned_as f r (passed_in r w) (step_run r w)).run ≡ r)
    go (Ok _) i = let d : would _ _ _ _ _ ≡ Err x = rw i at e in no_way cc
    go (Err y) i = let d : Err y ≡ Err x = rw i at e in (let u : y ≡ x = cc in rw u, refl)

-- ---- the values

pub preview_values_lem : (r : Run) (w : ℕ) → shown_values (preview_of r w) ≡ preview_values r w
unfolding preview_of preview_values turned
preview_values_lem r w = go (try_at (turn_checks r w) 0) refl
  where
    go : (f : Result ⊤ Refusal) → try_at (turn_checks r w) 0 ≡ f
        → shown_values (preview_as (turned_as f r (passed_in r w) (step_run r w)).answer (turned_as f r (passed_in r w) (step_run r w)).run w)
        ≡ record {
          said = turn_values r w;
          held = if_found f 0 (step_run r w).state.held;
          highest = if_found f 0 (step_run r w).state.highest;
          quota = if_found f 0 (worker_of (step_run r w).state w).quota;
        }
    go (Ok _) i =
        let t : turning_values (taken_turn (step_run r w).reply (passed_in r w)) ≡ turn_values r w = rw i at (turn_values_lem r w) in
        ap
        (λ (v : Values).
        record {
          said = v;
          held = (step_run r w).state.held;
          highest = (step_run r w).state.highest;
          quota = (worker_of (step_run r w).state w).quota;
        })
        t
    go (Err y) i =
        let t : turning_values (Err y) ≡ turn_values r w = rw i at (turn_values_lem r w) in
        ap (λ (v : Values). record { said = v; held = 0; highest = 0; quota = 0 }) t

-- ---- as it is foreseen on the blocks

abbrev pub as_preview : Result Foreseen ℕ → Result Foreseen Refusal
as_preview (Ok x) = Ok x
as_preview (Err n) = Err (refusal n 0)

module _ (s : List ℕ) (M : Memory) (h : Stands s M) (w : ℕ) where
  abbrev t : Told
  t = turn_in s w M

  abbrev p : ℕ
  p = passed_over M w

  abbrev turned_by : Bool → Result Foreseen Refusal
  turned_by b = preview_as (pick b (taken_turn t.reply p) (Err (refusal t.number 0))) (run_in s t.memory) w

  abbrev foreseen_by : Bool → Result Foreseen Refusal
  foreseen_by b = as_preview (pick b (foreseen_would t.reply p (get_or t.memory.totals 0 0) (get_or t.memory.totals 1 0) (get_or t.memory.quotas w 0)) (Err t.number))

  -- the worker's quota is the one in its record
  same_answer : foreseen_by (eqb t.number 0) ≡ turned_by (eqb t.number 0)
  same_answer = go (eqb t.number 0) refl
    where
      go : (b : Bool) → eqb t.number 0 ≡ b → foreseen_by (eqb t.number 0) ≡ turned_by (eqb t.number 0)
      go true d =
          let worker = own_worker t.memory w (few s w M (eqb-true t.number 0 d)) in
          ap foreseen_by d ∙ (λ i. would t.reply p (get_or t.memory.totals 0 0) (get_or t.memory.totals 1 0) (sym worker i).quota) ∙ ap turned_by (sym d)
      go false d = ap foreseen_by d ∙ ap turned_by (sym d)

  foreseen_previewed : as_preview (foreseen_in s w M) ≡ preview_of (run_in s M) w
  unfolding foreseen_in preview_of
  foreseen_previewed = same_answer ∙ ap (λ (x : Turned). preview_as x.answer x.run w) (turn_turned s M h w)

-- of a sound record, copied into the blocks
module _ (r : Run) (w : ℕ) (h : Sound r) {parents : List ℕ} (a : Parents (table_in r) parents) (g : r.turns < 2 ^ 64) {f : Result Foreseen ℕ} (e : f ≡ foreseen_in (bytes_of r) w (memory_for r parents)) where
  pub foreseen_preview : as_preview f ≡ preview_of r w
  foreseen_preview =
      let there : Memory = memory_for r parents in
      ap as_preview e ∙ foreseen_previewed (bytes_of r) there (packed_stands h.steady parents refl a g) w ∙ ap (λ (x : Run). preview_of x w) (packed_record h.steady parents refl)

  -- its refusal's number has two digits
  pub small_refusal : (n : ℕ) → f ≡ Err n → n < 256
  unfolding foreseen_in
  small_refusal n d = go (eqb (turn_in (bytes_of r) w (memory_for r parents)).number 0) refl
    where
      go : (b : Bool) → eqb (turn_in (bytes_of r) w (memory_for r parents)).number 0 ≡ b → n < 256
      go true i = let x : foreseen_would _ _ _ _ _ ≡ Err n = rw i at (sym e ∙ d) in no_way cc
      go false i =
          let x : Err (turn_in (bytes_of r) w (memory_for r parents)).number ≡ Err n = rw i at (sym e ∙ d) in
          let y : (turn_in (bytes_of r) w (memory_for r parents)).number ≡ n = cc in
          omega (arith, y, small_number (bytes_of r) w (memory_for r parents))

-- ---- where it is Err before

pub shows_unsound : (r : Run) (w : ℕ) → unsound r ≡ true → Err (refusal 32 0) ≡ preview_of r w
unfolding preview_of
shows_unsound r w e = ap (λ (x : Turned). preview_as x.answer x.run w) (turned_unsound r w e)

pub shows_none : (r : Run) (w : ℕ) → unsound r ≡ false → r.workers ≤ w → Err (refusal 30 0) ≡ preview_of r w
unfolding preview_of
shows_none r w e h = ap (λ (x : Turned). preview_as x.answer x.run w) (turned_none r w e h)
