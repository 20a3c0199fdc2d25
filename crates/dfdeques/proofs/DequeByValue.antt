-- A call by value on a record that passed check 32 is the call in the memory into which the record was packed: on a sound record by the law of refinement, and on the blank one at once.
use Rattle.std.specs.Prelude.{Err, Ok}
use mathlib.Core.Path.{◌≡◌, refl, sym, ap, ◌∙◌}
use Prim.Native.Nat.{ℕ, ◌-◌, ◌^◌, ◌/◌, ◌≤◌, ◌<◌}
use native.Mathlib.Omega.{arith}
use native.Mathlib.Decide.{ℕ_discrete}
use mathlib.Core.List.{List}
use mathlib.Core.Bool.{Bool, true, false}
use lib.ListN.{length, get_or}
use lib.Dec.{ltb, eqb}
use borrow.Author.Tests.{ne_eqb}
use Rattle.table.specs.Sum.{pick}
use Rattle.table.specs.Pass.{refusal, try_at}
use Rattle.schedule.specs.declared.Reply.{Reply}
use Rattle.schedule.specs.declared.Report.{Report}
use Rattle.schedule.specs.declared.Report.TheVariants.{Spent}
use Rattle.schedule.specs.declared.Report.TheVariants.{Refused as Stops}
use Rattle.schedule.specs.Answers.{beginning_values, report_values}
use Rattle.schedule.specs.Record.{bytes_of, table_in, blank}
use Rattle.schedule.specs.Turn.{root_ended}
use Rattle.schedule.specs.Parents.{Parents}
use Rattle.run_memory.specs.Memory.{Memory, moved_in, Told, told}
use Rattle.run_memory.specs.Runs.{Stopped, stopped, over_in, report_of}
use Rattle.deques.specs.declared.DequeRun.{DequeRun}
use Rattle.deques.specs.declared.DequeBegun.{DequeBegun}
use Rattle.deques.specs.declared.DequeTurned.{DequeTurned}
use Rattle.deques.specs.declared.DequeRan.{DequeRan}
use Rattle.deques.specs.DequeRecord.{blank_deques}
use Rattle.deques.specs.DequeSound.{SoundDeques}
use Rattle.deques.specs.DequeTurn.{unsound_deques, deque_checks, deque_turned}
use Rattle.deques.specs.DequeRuns.{deque_ran, pairs_run}
use Rattle.deques.specs.DequeValues.{deque_turning_values}
use Rattle.deques.proofs.DequeAnswers.{deque_blank_turn, deque_blank_run}
use Rattle.deques.proofs.DequeHistories.{deque_turn_refused}
use Rattle.stealing.specs.StealingMemory.{deque_turn_in, deque_list_in, deque_run_in, DequesStand}
use Rattle.stealing.proofs.InMemory.{deque_turned_by, deque_turn_refines}
use Rattle.stealing.proofs.PairsRefine.{deque_list_refines}
use Rattle.dfdeques.specs.DequePacking.{deque_memory, deque_record_of}
use Rattle.dfdeques.proofs.DequesPassed.{deque_workers, deque_none}
use Rattle.dfdeques.proofs.DequePacked.{deque_unmoved, deque_room, deque_back, deque_packed, deque_stands}
use Rattle.dfdeques.proofs.DequeKeeps.{turn_keeps, list_keeps, no_deque_turn, no_pairs}

abbrev pub deque_refused : ℕ → DequeRun → DequeTurned
deque_refused n r = record { answer = Err (refusal n 0); run = r }

-- ---- a record that check 32 refuses

pub turn_unsound : (r : DequeRun) (w c : ℕ) → unsound_deques r ≡ true → deque_refused 32 r ≡ deque_turned r w c
unfolding deque_turned deque_checks try_at
turn_unsound r w c e = rw e

pub pairs_unsound : (r : DequeRun) (l : List ℕ) → unsound_deques r ≡ true → deque_ran (Stops 0 (refusal 32 0)) r ≡ pairs_run r l
unfolding pairs_run
pairs_unsound r l e = rw e

-- ---- the blank record

module _ (r : DequeRun) (e : unsound_deques r ≡ false) (n : r.run.workers ≡ 0) where
  is_blank_lem : r ≡ blank_deques
  is_blank_lem = deque_none r e n

  sixteen : length r.run.worker ≡ 16
  unfolding blank_deques blank
  sixteen = ap (λ (x : DequeRun). length x.run.worker) is_blank_lem

  no_bytes : r.run.length ≡ 0
  unfolding blank_deques blank
  no_bytes = ap (λ (x : DequeRun). x.run.length) is_blank_lem

  first_turn : r.run.turns ≡ 2 ^ 64 - 1 → ⊥
  unfolding blank_deques blank
  first_turn h = omega (arith, h, ap (λ (x : DequeRun). x.run.turns) is_blank_lem)

  pub open_root : root_ended r.run ≡ false
  unfolding root_ended blank_deques blank
  open_root = ap (λ (x : DequeRun). root_ended x.run) is_blank_lem

  pub turn_blank : (w c : ℕ) → deque_refused 30 r ≡ deque_turned r w c
  turn_blank w c = ap (deque_refused 30) is_blank_lem ∙ sym (deque_blank_turn w c) ∙ ap (λ (x : DequeRun). deque_turned x w c) (sym is_blank_lem)

  pairs_blank : (l : List ℕ) → deque_ran (pick (ltb 0 (length l / 2)) (Stops 0 (refusal 30 0)) (Spent 0)) r ≡ pairs_run r l
  pairs_blank l =
      ap (deque_ran (pick (ltb 0 (length l / 2)) (Stops 0 (refusal 30 0)) (Spent 0))) is_blank_lem ∙ sym (deque_blank_run l) ∙ ap (λ (x : DequeRun). pairs_run x l) (sym is_blank_lem)

-- ---- a record that passed the test, packed

-- the table's bytes are inside its array
pub deque_inside : (r : DequeRun) → unsound_deques r ≡ false → r.run.length ≤ length r.run.table
deque_inside r e = go (ℕ_discrete r.run.workers 0)
  where
    go : Dec (r.run.workers ≡ 0) → r.run.length ≤ length r.run.table
    go (yes n) = omega (arith, no_bytes r e n)
    go (no n) = deque_room (deque_workers r e (omega (arith, n))).steady

module _ (run : DequeRun) (e : unsound_deques run ≡ false) (parents : List ℕ) (right : SoundDeques run → Parents (table_in run.run) parents) {M : Memory} (m : M ≡ deque_memory run parents) where
  abbrev s : List ℕ
  s = bytes_of run.run

  sound_here : (run.run.workers ≡ 0 → ⊥) → SoundDeques run
  sound_here n = deque_workers run e (omega (arith, n))

  stands : (n : run.run.workers ≡ 0 → ⊥) → DequesStand s M
  stands n = deque_stands (sound_here n).steady parents m (right (sound_here n)) (omega (arith, (sound_here n).turns))

  same : (n : run.run.workers ≡ 0 → ⊥) → deque_run_in s M ≡ run
  same n = deque_packed (sound_here n).steady parents m

  back : (n : run.run.workers ≡ 0 → ⊥) (M' : Memory) → M'.settings ≡ M.settings → deque_record_of run M' ≡ deque_run_in s M'
  back n M' f = deque_back (sound_here n).steady M' (f ∙ ap (λ (x : Memory). x.settings) m)

  turn_value : (n : run.run.workers ≡ 0 → ⊥) (w c : ℕ) {t : Told} → t ≡ deque_turn_in s w c M → deque_turned_by s t ≡ deque_turned run w c
  turn_value n w c f =
      ap (λ (x : Told). deque_turned_by s x) f ∙ (deque_turn_refines s M (stands n) w c).as_turned ∙ ap (λ (r : DequeRun). deque_turned r w c) (same n)

  -- packed, the blank record is read back
  module _ (n : run.run.workers ≡ 0) where
    workers_none : get_or M.settings 0 0 ≡ 0
    workers_none = ap (λ (x : Memory). get_or x.settings 0 0) m ∙ n

    turns_few : (moved_in M).turns ≡ 2 ^ 64 - 1 → ⊥
    turns_few h = first_turn run e n (sym (ap (λ (x : Memory). (moved_in x).turns) m) ∙ h)

    root_going : over_in M ≡ false
    unfolding root_ended
    root_going = ap over_in m ∙ open_root run e n

    unmoved : deque_record_of run M ≡ run
    unmoved = ap (deque_record_of run) m ∙ deque_unmoved run parents (sixteen run e n)

  -- the number with which a turn is refused
  pub deque_stopped : (w c : ℕ) {t : Told} → t ≡ deque_turn_in s w c M → (t.number ≡ 0 → ⊥) → deque_refused t.number run ≡ deque_turned run w c
  deque_stopped w c {t} f d = go (ℕ_discrete run.run.workers 0)
    where
      go : Dec (run.run.workers ≡ 0) → deque_refused t.number run ≡ deque_turned run w c
      go (yes n) =
          let k : t.number ≡ 30 = ap (λ (x : Told). x.number) (f ∙ no_deque_turn s M (workers_none n) (turns_few n) w c) in
          rw k (turn_blank run e n w c)
      go (no n) =
          let v = turn_value n w c f in
          let q : deque_refused t.number (deque_run_in s t.memory) ≡ deque_turned run w c = rw (ne_eqb t.number 0 d) at v in
          let k : deque_run_in s t.memory ≡ run =
          ap (λ (x : DequeTurned). x.run) q ∙ deque_turn_refused run w c (refusal t.number 0) (sym (ap (λ (x : DequeTurned). x.answer) q)) in
          ap (deque_refused t.number) (sym k) ∙ q

  pub deque_taken : (w c : ℕ) {t : Told} {r : DequeRun} → t ≡ deque_turn_in s w c M → t.number ≡ 0 → r ≡ deque_record_of run t.memory
      → record { answer = Ok t.reply; run = r } ≡ deque_turned run w c
  deque_taken w c {t} f d b = ap (λ (x : DequeRun). record { answer = Ok t.reply; run = x }) b ∙ go (ℕ_discrete run.run.workers 0)
    where
      go : Dec (run.run.workers ≡ 0) → record { answer = Ok t.reply; run = deque_record_of run t.memory } ≡ deque_turned run w c
      go (yes n) = absurd (let k : t.number ≡ 30 = ap (λ (x : Told). x.number) (f ∙ no_deque_turn s M (workers_none n) (turns_few n) w c) in omega (arith, k, d))
      go (no n) =
          let v = turn_value n w c f in
          let b = back n t.memory (ap (λ (x : Told). x.memory.settings) f ∙ (turn_keeps s w c M).settings) in
          ap (λ (x : DequeRun). record { answer = Ok t.reply; run = x }) b ∙ (rw d at v)

  abbrev value : Stopped → DequeRan
  value d = deque_ran (report_of d.number d.finished d.turns) (deque_record_of run d.memory)

  pub pairs_taken_lem : (l : List ℕ) {d : Stopped} → d ≡ deque_list_in s l M → value d ≡ pairs_run run l
  pairs_taken_lem l {d} f = ap value f ∙ go (ℕ_discrete run.run.workers 0)
    where
      none : (b : Bool) → value (pick b (stopped 30 false 0 M) (stopped 0 false 0 M)) ≡ deque_ran (pick b (Stops 0 (refusal 30 0)) (Spent 0)) (deque_record_of run M)
      none true = refl
      none false = refl

      go : Dec (run.run.workers ≡ 0) → value (deque_list_in s l M) ≡ pairs_run run l
      go (yes n) =
          ap value (no_pairs s M (workers_none n) (turns_few n) (root_going n) l) ∙ none (ltb 0 (length l / 2))
          ∙ ap (deque_ran (pick (ltb 0 (length l / 2)) (Stops 0 (refusal 30 0)) (Spent 0))) (unmoved n) ∙ pairs_blank run e n l
      go (no n) =
          let x : Stopped = deque_list_in s l M in
          ap (deque_ran (report_of x.number x.finished x.turns)) (back n x.memory (list_keeps s l M).settings) ∙ (deque_list_refines s M (stands n) l).by_value
          ∙ ap (λ (r : DequeRun). pairs_run r l) (same n)

-- ---- an answer put together

pub ran_as : {x x' : Report} {r r' : DequeRun} {y : DequeRan} → x ≡ x' → r ≡ r' → deque_ran x' r' ≡ y → deque_ran x r ≡ y
ran_as e f g = (λ i. deque_ran (e i) (f i)) ∙ g

-- its number is one of a refusal
pub told_small : (s : List ℕ) (w c : ℕ) (M : Memory) {number : ℕ} {reply : Reply} {M' : Memory} → told number reply M' ≡ deque_turn_in s w c M → number < 256
told_small s w c M e = omega (arith, ap (λ (x : Told). x.number) e, (turn_keeps s w c M).small)

pub pairs_small : (s l : List ℕ) (M : Memory) {number turns : ℕ} {over : Bool} {M' : Memory} → stopped number over turns M' ≡ deque_list_in s l M → number < 256
pairs_small s l M e = omega (arith, ap (λ (x : Stopped). x.number) e, (list_keeps s l M).small)

-- ---- the values of an answer that is the definition's

pub begun_answers : {x y : DequeBegun} → x ≡ y → (x ≡ y) × (beginning_values x.answer ≡ beginning_values y.answer)
begun_answers e = (e, ap (λ (z : DequeBegun). beginning_values z.answer) e)

pub turned_answers : {x y : DequeTurned} → x ≡ y → (x ≡ y) × (deque_turning_values x.answer ≡ deque_turning_values y.answer)
turned_answers e = (e, ap (λ (z : DequeTurned). deque_turning_values z.answer) e)

pub ran_answers : {x y : DequeRan} → x ≡ y → (x ≡ y) × (report_values x.report ≡ report_values y.report)
ran_answers e = (e, ap (λ (z : DequeRan). report_values z.report) e)
