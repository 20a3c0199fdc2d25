-- A call by value on a record that passed check 32 is the call in the memory into which the record was packed: on a sound record by the law of refinement, and on the blank one at once.
use Rattle.std.specs.Prelude.{Err, Ok, Result}
use Rattle.schedule.specs.Turn.{taken_turn}
use mathlib.Core.Path.{◌≡◌, refl, sym, ap, ◌∙◌}
use Prim.Native.Nat.{ℕ, ◌-◌, ◌^◌, ◌%◌, ◌≤◌, ◌<◌}
use native.Mathlib.Omega.{arith}
use native.Mathlib.Decide.{ℕ_discrete}
use mathlib.Core.List.{List, [], ◌∷◌}
use mathlib.Core.Bool.{Bool, true, false}
use lib.ListN.{length, get_or}
use lib.Dec.{eqb}
use borrow.Author.Tests.{le-ltb, eqb-true, ne_eqb}
use Rattle.table.specs.Sum.{pick}
use Rattle.table.specs.Pass.{refusal}
use Rattle.schedule.specs.declared.Run.{Run}
use Rattle.schedule.specs.declared.Begun.{Begun}
use Rattle.schedule.specs.declared.Ran.{Ran}
use Rattle.schedule.specs.declared.Turned.{Turned}
use Rattle.schedule.specs.declared.Reply.{Reply}
use Rattle.schedule.specs.declared.Report.{Report}
use Rattle.schedule.specs.declared.Report.TheVariants.{Spent, Refused}
use Rattle.schedule.specs.Answers.{beginning_values, turning_values, report_values}
use Rattle.schedule.specs.Record.{blank, bytes_of, table_in}
use Rattle.schedule.specs.Sound.{Sound}
use Rattle.schedule.specs.Turn.{unsound, root_ended, no_worker, turned}
use Rattle.schedule.specs.Runs.{ran, drive, list_run, rounds_run}
use Rattle.schedule.specs.Parents.{Parents}
use Rattle.schedule.proofs.Runs.Histories.{turn_refused}
use Rattle.soundness.proofs.Passed.{has_workers, no_workers}
use Rattle.array_machine.proofs.Answers.{refused_as, turned_none}
use Rattle.run_memory.specs.Memory.{Memory, moved_in, Told, told, turn_in, passed_over, number_in}
use Rattle.run_memory.specs.Stands.{run_in}
use Rattle.run_memory.specs.Packing.{memory_for, record_of}
use Rattle.run_memory.specs.Runs.{Stopped, stopped, finished_in, over_in, list_run_in, rounds_run_in, report_of}
use Rattle.asyncdf.specs.declared.Order.{Order}
use Rattle.asyncdf.specs.declared.Order.TheVariants.{Listed, Rounds}
use Rattle.asyncdf.specs.Orders.{run_as, stop_as, report_at}
use Rattle.run_memory.proofs.Packed.{unmoved_back, table_room}
use Rattle.run_memory.proofs.Refusals.{turn_number, list_number, rounds_number}
use Rattle.run_memory.proofs.ByValue.{turn_value, turn_record, list_value, rounds_value, no_turn, no_list, no_rounds}

-- ---- a run that check 32 refuses

list_unsound : (r : Run) (l : List ℕ) → unsound r ≡ true → ran (Refused 0 (refusal 32 0)) r ≡ list_run r l
unfolding list_run
list_unsound r l e = rw e

rounds_unsound : (r : Run) (limit : ℕ) → unsound r ≡ true → ran (Refused 0 (refusal 32 0)) r ≡ rounds_run r limit
unfolding rounds_run
rounds_unsound r limit e = rw e

pub run_unsound : (r : Run) (o : Order) → unsound r ≡ true → ran (Refused 0 (refusal 32 0)) r ≡ run_as r o
run_unsound r (Listed l) e = list_unsound r l.now e
run_unsound r (Rounds limit) e = rounds_unsound r limit e

-- ---- the blank record

module _ (r : Run) (e : unsound r ≡ false) (n : r.workers ≡ 0) where
  is_blank_lem : r ≡ blank
  is_blank_lem = no_workers r e n

  -- its numbers
  sixteen : length r.worker ≡ 16
  unfolding blank
  sixteen = ap (λ (x : Run). length x.worker) is_blank_lem

  no_bytes : r.length ≡ 0
  unfolding blank
  no_bytes = ap (λ (x : Run). x.length) is_blank_lem

  pub first_turn : r.turns ≡ 2 ^ 64 - 1 → ⊥
  unfolding blank
  first_turn h = omega (arith, h, ap (λ (x : Run). x.turns) is_blank_lem)

  pub open_root : root_ended r ≡ false
  unfolding root_ended blank
  open_root = ap root_ended is_blank_lem

  list_blank : (l : List ℕ) → ran (pick (eqb (length l) 0) (Spent 0) (Refused 0 (refusal 30 0))) r ≡ list_run r l
  unfolding list_run drive no_worker
  list_blank [] = rw (e, open_root)
  list_blank (w ∷ l) = rw (e, open_root, ne_eqb r.turns (2 ^ 64 - 1) first_turn, n, le-ltb w 0 (omega arith), ne_eqb (length (w ∷ l)) 0 (λ z. omega (arith, z)))

  rounds_blank : (limit : ℕ) → ran (Refused 0 (refusal 30 0)) r ≡ rounds_run r limit
  unfolding rounds_run
  rounds_blank limit = rw (e, n)

-- ---- a record that passed the test, packed

-- the table's bytes are inside its array
pub table_inside : (r : Run) → unsound r ≡ false → r.length ≤ length r.table
table_inside r e = go (ℕ_discrete r.workers 0)
  where
    go : Dec (r.workers ≡ 0) → r.length ≤ length r.table
    go (yes n) = omega (arith, no_bytes r e n)
    go (no n) = table_room (has_workers r e (omega (arith, n))).steady

module _ (run : Run) (e : unsound run ≡ false) (parents : List ℕ) (right : Sound run → Parents (table_in run) parents) {M : Memory} (m : M ≡ memory_for run parents) where
  abbrev s : List ℕ
  s = bytes_of run

  sound_here : (run.workers ≡ 0 → ⊥) → Sound run
  sound_here n = has_workers run e (omega (arith, n))

  fits : (n : run.workers ≡ 0 → ⊥) → run.turns < 2 ^ 64
  fits n = omega (arith, (sound_here n).turns)

  -- packed, the blank record is read back
  module _ (n : run.workers ≡ 0) where
    pub workers_none : get_or M.settings 0 0 ≡ 0
    workers_none = ap (λ (x : Memory). get_or x.settings 0 0) m ∙ n

    pub turns_few : (moved_in M).turns ≡ 2 ^ 64 - 1 → ⊥
    turns_few h = first_turn run e n (sym (ap (λ (x : Memory). (moved_in x).turns) m) ∙ h)

    pub root_going : over_in M ≡ false
    unfolding root_ended
    root_going = ap over_in m ∙ open_root run e n

    pub same : record_of run M ≡ run
    same = ap (record_of run) m ∙ unmoved_back run parents (sixteen run e n)

  -- ---- a turn

  -- the number with which it is refused
  pub turn_stopped : (w : ℕ) {t : Told} → t ≡ turn_in s w M → (t.number ≡ 0 → ⊥) → refused_as t.number run ≡ turned run w
  turn_stopped w {t} f d = go (ℕ_discrete run.workers 0)
    where
      go : Dec (run.workers ≡ 0) → refused_as t.number run ≡ turned run w
      go (yes n) =
          let k : t.number ≡ 30 = ap (λ (x : Told). x.number) (f ∙ no_turn s M (workers_none n) (turns_few n) w) in
          rw k (turned_none run w e (omega (arith, n)))
      go (no n) =
          let v = turn_value (sound_here n).steady parents m (right (sound_here n)) (fits n) w f in
          let q : refused_as t.number (run_in s t.memory) ≡ turned run w = rw (ne_eqb t.number 0 d) at v in
          let k : run_in s t.memory ≡ run = ap (λ (x : Turned). x.run) q ∙ turn_refused run w (refusal t.number 0) (sym (ap (λ (x : Turned). x.answer) q)) in
          ap (refused_as t.number) (sym k) ∙ q

  pub turn_taken : (w : ℕ) {t : Told} {k : ℕ} {r : Run} → t ≡ turn_in s w M → t.number ≡ 0 → k ≡ pick (eqb t.number 0) (passed_over M w) 0 → r ≡ record_of run t.memory
      → record { answer = taken_turn t.reply k; run = r } ≡ turned run w
  turn_taken w {t} {k} f d q b =
      let passed : k ≡ passed_over M w = rw d at q in
      (λ i. record { answer = taken_turn t.reply (passed i); run = b i }) ∙ go (ℕ_discrete run.workers 0)
    where
      go : Dec (run.workers ≡ 0) → record { answer = taken_turn t.reply (passed_over M w); run = record_of run t.memory } ≡ turned run w
      go (yes n) = absurd (let k : t.number ≡ 30 = ap (λ (x : Told). x.number) (f ∙ no_turn s M (workers_none n) (turns_few n) w) in omega (arith, k, d))
      go (no n) =
          let v = turn_value (sound_here n).steady parents m (right (sound_here n)) (fits n) w f in
          let b = turn_record (sound_here n).steady parents m (right (sound_here n)) (fits n) w f in
          ap (λ (x : Run). record { answer = taken_turn t.reply (passed_over M w); run = x }) b ∙ (rw d at v)

  -- ---- runs

  abbrev value : Stopped → Ran
  value d = ran (report_of d.number d.finished d.turns) (record_of run d.memory)

  list_taken : (l : List ℕ) {d : Stopped} → d ≡ list_run_in s l M → value d ≡ list_run run l
  list_taken l {d} f = go (ℕ_discrete run.workers 0)
    where
      none : (b : Bool) → record_of run M ≡ run
          → value (pick b (stopped 0 false 0 M) (stopped 30 false 0 M)) ≡ ran (pick b (Spent 0) (Refused 0 (refusal 30 0))) run
      none true k = ap (ran (Spent 0)) k
      none false k = ap (ran (Refused 0 (refusal 30 0))) k

      go : Dec (run.workers ≡ 0) → value d ≡ list_run run l
      go (yes n) = ap value (f ∙ no_list s M (workers_none n) (turns_few n) (root_going n) l) ∙ none (eqb (length l) 0) (same n) ∙ list_blank run e n l
      go (no n) = list_value (sound_here n).steady parents m (right (sound_here n)) (fits n) l f

  rounds_taken : (limit : ℕ) {d : Stopped} → d ≡ rounds_run_in s limit M → value d ≡ rounds_run run limit
  rounds_taken limit {d} f = go (ℕ_discrete run.workers 0)
    where
      go : Dec (run.workers ≡ 0) → value d ≡ rounds_run run limit
      go (yes n) = ap value (f ∙ no_rounds s M (workers_none n) (turns_few n) limit) ∙ ap (ran (Refused 0 (refusal 30 0))) (same n) ∙ rounds_blank run e n limit
      go (no n) = rounds_value (sound_here n).steady parents m (right (sound_here n)) (fits n) limit f

  pub run_taken : (o : Order) {d : Stopped} → d ≡ stop_as s o M → value d ≡ run_as run o
  run_taken (Listed l) f = list_taken l.now f
  run_taken (Rounds limit) f = rounds_taken limit f

-- ---- an answer put together

pub report_is : (f : Result Bool ℕ) (turns : ℕ) → ((n : ℕ) → f ≡ Err n → n ≡ 0 → ⊥) → number_in f < 256 → report_at f turns ≡ report_of (number_in f) (finished_in f) turns
report_is (Ok over) turns z h = refl
report_is (Err n) turns z h = let m : n % 256 ≡ n = omega arith in rw (ne_eqb n 0 (z n refl), m)

pub ran_as : {x x' : Report} {r r' : Run} {y : Ran} → x ≡ x' → r ≡ r' → ran x' r' ≡ y → ran x r ≡ y
ran_as e f g = (λ i. ran (e i) (f i)) ∙ g

-- its number is one of a refusal
pub told_small : (s : List ℕ) (w : ℕ) (M : Memory) {number : ℕ} {reply : Reply} {M' : Memory} → told number reply M' ≡ turn_in s w M → number < 256
told_small s w M e = omega (arith, ap (λ (x : Told). x.number) e, turn_number s w M)

pub run_small : (s : List ℕ) (o : Order) (M : Memory) {number turns : ℕ} {over : Bool} {M' : Memory}
    → stopped number over turns M' ≡ stop_as s o M → number < 256
run_small s (Listed l) M e = omega (arith, ap (λ (x : Stopped). x.number) e, list_number s l.now M)
run_small s (Rounds limit) M e = omega (arith, ap (λ (x : Stopped). x.number) e, rounds_number s limit M)

-- ---- the values of an answer that is the definition's

pub begun_answers : {x y : Begun} → x ≡ y → (x ≡ y) × (beginning_values x.answer ≡ beginning_values y.answer)
begun_answers e = (e, ap (λ (z : Begun). beginning_values z.answer) e)

pub turned_answers : {x y : Turned} → x ≡ y → (x ≡ y) × (turning_values x.answer ≡ turning_values y.answer)
turned_answers e = (e, ap (λ (z : Turned). turning_values z.answer) e)

pub ran_answers : {x y : Ran} → x ≡ y → (x ≡ y) × (report_values x.report ≡ report_values y.report)
ran_answers e = (e, ap (λ (z : Ran). report_values z.report) e)
