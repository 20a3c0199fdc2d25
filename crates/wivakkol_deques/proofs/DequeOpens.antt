-- Opening a run of DFDeques: 32 exactly where the record that stands in the memory is neither sound nor blank; the record is as it was, and where it is sound, what is filled beside it is what
-- the turns look up.
use Rattle.std.specs.Prelude.{Err, Ok, Result, ⊤}
use Rattle.table.specs.declared.Refusal.{Refusal}
use mathlib.Core.Path.{◌≡◌, refl, sym, ap, ◌∙◌}
use Prim.Native.Nat.{ℕ, suc, zero, min, ◌≤◌, ◌<◌, ◌/◌}
use native.Mathlib.Omega.{arith}
use native.Mathlib.Decide.{dec_lt}
use native.Mathlib.Nat.{min-eq_left, min-eq_right}
use mathlib.Core.Logic.{◌↔◌, ◌⊎◌, inl, inr, ⊎_elim, by_cases}
use mathlib.Core.List.{List, [], ◌∷◌}
use mathlib.Core.Bool.{Bool, true, false, not, ◌&&◌}
use borrow.Author.Tests.{le-ltb, lt-ltb, eq-eqb, ne_eqb, eqb-true}
use lib.Dec.{ltb, eqb}
use lib.ListN.{length, get_or, replicate}
use Rattle.table.specs.Sum.{pick}
use Rattle.table.specs.Format.{table_of}
use Rattle.table.specs.Pass.{first_found}
use Rattle.table.specs.Checks.{passes}
use Rattle.order.specs.Words.{filled, all_below, is_nothing, same_list}
use Rattle.order.proofs.Lists.{filled_front}
use Rattle.order.proofs.Words.{same_list_exactly, all_below_exactly}
use Rattle.schedule.specs.declared.Worker.{Worker}
use Rattle.schedule.specs.declared.Run.{Run}
use Rattle.schedule.specs.Machine.{ended, nobody}
use Rattle.schedule.specs.Links.{Links}
use Rattle.schedule.specs.Record.{max_bytes, max_workers, blank, bytes_of, links_in}
use Rattle.schedule.specs.Begin.{setting_passes}
use Rattle.schedule.specs.Sound.{common_sound}
use Rattle.schedule.proofs.Stores.{setting_fits}
use Rattle.soundness.specs.Tested.{parents_in, blank_on}
use Rattle.soundness.proofs.Chains.{last, first_of, never}
use Rattle.soundness.proofs.Noting.{parents_right}
use Rattle.array_machine.specs.Arrays.{links_of, second_of}
use Rattle.run_memory.specs.Memory.{Memory, moved_in, no_row, answer}
use Rattle.run_memory.specs.Stands.{truths, workers_from, workers_in, run_in}
use Rattle.run_memory.specs.Runs.{stopped, over_in, stopped_as}
use Rattle.run_memory.proofs.Refines.{own_worker}
use Rattle.wivakkol.specs.Lent.{blank_memory}
use Rattle.deques.specs.declared.DequeRun.{DequeRun}
use Rattle.deques.specs.DequeRecord.{bottoms_in, blank_deques}
use Rattle.deques.specs.DequeSound.{SoundDeques, deque_sound, is_blank_deques}
use Rattle.deques.specs.DequeTurn.{unsound_deques}
use Rattle.deques.specs.DequeRuns.{Pair, pair_at}
use Rattle.deques.proofs.DequeStores.{steady_fits}
use Rattle.deques.proofs.DequeTests.{deque_sound_exactly, blank_deques_exactly}
use Rattle.dequetest.specs.DequeTested.{deque_sound_on, deque_blank_on, open_number, open_parents}
use Rattle.dequetest.proofs.DequeOnParts.{deque_sound_is, deque_blank_is}
use Rattle.stealing.specs.StealingMemory.{deque_hindrance, deque_turn_in, deque_drive_in, deque_list_in, deque_run_in, DequesStand}
use Rattle.wivakkol_deques.specs.DequeLent.{lent_deque_turn, lent_deque_list, deque_sound_in, deque_blank_in, deque_record_in, with_parents, deques_opened, lent_deque_open}

-- ---- the record

both : {a b : Bool} → a ≡ true → b ≡ true → (a && b) ≡ true
both e d = rw (e, d)

module _ (s : List ℕ) (M : Memory) where
  -- whatever the call answers, the parents are no part of the record
  pub deque_open_record : deque_run_in s (lent_deque_open s M).memory ≡ deque_run_in s M
  unfolding lent_deque_open
  deque_open_record = refl

  -- the row has the place of a refusal, which is 0
  pub deque_open_row : (lent_deque_open s M).row ≡ 0 ∷ []
  unfolding lent_deque_open
  deque_open_row = refl

  bytes : bytes_of (run_in s M) ≡ s
  bytes = filled_front max_bytes s

  truths_in : deque_sound_in s M ≡ true → truths M.holds ≡ true
  unfolding deque_sound_in
  truths_in e = first_of (truths M.holds) _ e

  pub no_sound : truths M.holds ≡ false → deque_sound_in s M ≡ false
  unfolding deque_sound_in
  no_sound h = rw h

  -- the test is that of the record
  pub deque_sound_same : truths M.holds ≡ true → deque_sound_in s M ≡ deque_sound (deque_run_in s M)
  unfolding deque_sound_in
  deque_sound_same h =
      let r : Run = run_in s M in
      let size = eq-eqb (length (bytes_of r)) r.length (ap length bytes) in
      let rest = (same_list_exactly r.table (filled max_bytes (bytes_of r))).1 (ap (filled max_bytes) (sym bytes)) in
      rw h
      (ap (λ (t : List ℕ). deque_sound_on t r.workers r.quota r.next r.status r.amounts (links_in r) (bottoms_in (deque_run_in s M)) r.worker r.busy r.held r.highest r.turns) (sym bytes)
      ∙ last _ refl (both size rest) ∙ sym (deque_sound_is (deque_run_in s M)))

  pub deque_sound_in_lem : deque_sound_in s M ≡ true → SoundDeques (deque_run_in s M)
  deque_sound_in_lem e = (deque_sound_exactly (deque_run_in s M)).0 (sym (deque_sound_same (truths_in e)) ∙ e)

  -- from a sound record on, however it came into the memory, each turn is DFDeques' (`deque_turn_refines`, crates/stealing/proofs/InMemory)
  pub deque_open_stands : length M.holds ≡ max_workers → length M.threads ≡ max_workers → length M.quotas ≡ max_workers → deque_sound_in s M ≡ true
      → DequesStand s (with_parents (parents_in (table_of s)) M)
  deque_open_stands holds threads quotas e =
      record {
        steady = (deque_sound_in_lem e).steady;
        parent = parents_right (table_of s) refl;
        truth_values = truths_in e;
        holds_size = holds;
        threads_size = threads;
        quotas_size = quotas;
        turns_fit = omega (arith, (deque_sound_in_lem e).turns);
      }

-- a run that stands has a worker, and the blank record has none
pub deques_worked : (s : List ℕ) (M : Memory) → DequesStand s M → deque_blank_in M ≡ false
unfolding deque_blank_in deque_blank_on blank_on
deques_worked s M h = rw (ne_eqb (get_or M.settings 0 0) 0 (λ e. omega (arith, e, (steady_fits (deque_run_in s M) h.steady).some_worker)))

-- where the memory has not the blank record, nor has it beside a table
unblank : (s : List ℕ) (M : Memory) → deque_blank_in M ≡ false → is_blank_deques (deque_run_in s M) ≡ false
unfolding deque_blank_in
unblank s M e = deque_blank_is (deque_run_in s M) ∙ off (same_list (run_in s M).table (replicate max_bytes 0)) (eqb (length s) 0) e
  where
    off : (a b : Bool) {c : Bool} → c ≡ false → (a && (b && c)) ≡ false
    off true true e = e
    off true false e = refl
    off false b e = refl

-- so check 32 of the memory is that of the record
pub deque_tested_same : (s : List ℕ) (M : Memory) → truths M.holds ≡ true → deque_blank_in M ≡ false → not (deque_sound_in s M) ≡ unsound_deques (deque_run_in s M)
unfolding unsound_deques
deque_tested_same s M h e = rw (unblank s M e, deque_sound_same s M h) (last (not (deque_sound (deque_run_in s M))) refl refl)

-- ---- the blank record

pub blank_deques_pass : unsound_deques blank_deques ≡ false
unfolding unsound_deques
blank_deques_pass = rw ((blank_deques_exactly blank_deques).1 refl) (go (not (deque_sound blank_deques)))
  where
    go : (q : Bool) → (q && false) ≡ false
    go true = refl
    go false = refl

-- the memory of a beginning that was refused has it, with the zeros of a table of no bytes
pub blank_deques_record : deque_run_in [] blank_memory ≡ blank_deques
unfolding blank_deques blank workers_from
blank_deques_record = refl

pub blank_deques_there : deque_blank_in blank_memory ≡ true
unfolding deque_blank_in deque_blank_on blank_on workers_from all_below
blank_deques_there = rw ((same_list_exactly (replicate 1024 0) (replicate 1024 0)).1 refl)

module _ (M : Memory) (h : deque_blank_in M ≡ true) where
  pub is_blank_deques_lem : deque_run_in [] M ≡ blank_deques
  unfolding deque_blank_in
  is_blank_deques_lem =
      (blank_deques_exactly (deque_run_in [] M)).0 (deque_blank_is (deque_run_in [] M) ∙ rw ((same_list_exactly (replicate max_bytes 0) (replicate max_bytes 0)).1 refl) h)

  pub no_workers : get_or M.settings 0 0 ≡ 0
  unfolding blank_deques blank
  no_workers = ap (λ (r : DequeRun). r.run.workers) is_blank_deques_lem

  no_turns : (moved_in M).turns ≡ 0
  unfolding blank_deques blank
  no_turns = ap (λ (r : DequeRun). r.run.turns) is_blank_deques_lem

  not_over : over_in M ≡ false
  unfolding blank_deques blank
  not_over = ap (λ (r : DequeRun). eqb (get_or r.run.status 0 0) ended) is_blank_deques_lem

  -- its truth values are written as 0
  pub blank_deques_truths : truths M.holds ≡ true
  unfolding truths blank_deques blank
  blank_deques_truths = (all_below_exactly (λ w. ltb (get_or M.holds w 0) 2) 16).1 at
    where
      nobody_at : (n w : ℕ) → get_or (replicate n nobody) w nobody ≡ nobody
      nobody_at zero w = refl
      nobody_at (suc n) zero = refl
      nobody_at (suc n) (suc w) = nobody_at n w

      none : (x : ℕ) → not (eqb x 0) ≡ false → ltb x 2 ≡ true
      none x e = go (eqb x 0) refl e
        where
          go : (q : Bool) → eqb x 0 ≡ q → not q ≡ false → ltb x 2 ≡ true
          go true f d = rw (eqb-true x 0 f)
          go false f d = never (sym d)

      at : (w : ℕ) → w < 16 → ltb (get_or M.holds w 0) 2 ≡ true
      at w l =
          none (get_or M.holds w 0)
          (ap (λ (x : Worker). x.holds) (sym (own_worker M w l) ∙ ap (λ (r : DequeRun). get_or r.run.worker w nobody) is_blank_deques_lem ∙ nobody_at 16 w))

  module _ (s : List ℕ) where
    blank_unsound : deque_sound_in s M ≡ false
    blank_unsound = go (deque_sound_in s M) refl
      where
        go : (a : Bool) → deque_sound_in s M ≡ a → a ≡ false
        go true e = absurd (omega (arith, no_workers, (steady_fits (deque_run_in s M) (deque_sound_in_lem s M e).steady).some_worker))
        go false e = refl

    -- it is opened with zeros beside it, whatever the table
    pub open_blank_deques : lent_deque_open s M ≡ answer 0 (0 ∷ []) (with_parents (replicate 1024 0) M)
    unfolding lent_deque_open open_number open_parents
    open_blank_deques = rw (blank_unsound, h)

    -- "any turn .. on it gets 30"
    pub blank_deque_turn : (w c : ℕ) → lent_deque_turn s w c M ≡ answer 30 no_row M
    unfolding lent_deque_turn deque_turn_in deque_hindrance
    blank_deque_turn w c = rw (no_turns, no_workers, le-ltb w 0 (omega arith))

    drive_blank : (who : ℕ → Pair) (k : ℕ) → deque_drive_in s who k 0 M ≡ stopped (pick (ltb 0 k) 30 0) false 0 M
    unfolding deque_drive_in deque_turn_in deque_hindrance
    drive_blank who zero = rw not_over
    drive_blank who (suc k) = rw (not_over, no_turns, no_workers, le-ltb (who 0).worker 0 (omega arith), lt-ltb 0 (suc k) (omega arith))

    -- and a run with a turn to go; one over none or one byte is spent
    pub blank_deque_list : (l : List ℕ) → lent_deque_list s l M ≡ stopped_as (stopped (pick (ltb 0 (length l / 2)) 30 0) false 0 M)
    unfolding lent_deque_list deque_list_in
    blank_deque_list l = rw (no_turns, drive_blank (pair_at l) (length l / 2))

-- ---- what opening answers

module _ (s : List ℕ) (M : Memory) where
  pub blank_here : deque_blank_in M ≡ true → deque_record_in s M ≡ blank_deques
  unfolding deque_record_in
  blank_here e = rw e

  pub run_here : deque_blank_in M ≡ false → deque_record_in s M ≡ deque_run_in s M
  unfolding deque_record_in
  run_here e = rw e

  -- a truth value that is written as neither 0 nor 1 is no record's: 32
  pub deque_open_untrue : truths M.holds ≡ false → (lent_deque_open s M).number ≡ 32
  unfolding lent_deque_open open_number
  deque_open_untrue h = go (deque_blank_in M) refl
    where
      go : (b : Bool) → deque_blank_in M ≡ b → open_number (deque_sound_in s M) b ≡ 32
      go true e = never (sym h ∙ blank_deques_truths M e)
      go false e = rw (no_sound s M h)

  -- else 32 where check 32 applies to the record that stands there, "record not sound and not blank", and 0 where it does not
  pub deque_open_tested : truths M.holds ≡ true → (lent_deque_open s M).number ≡ pick (unsound_deques (deque_record_in s M)) 32 0
  unfolding lent_deque_open open_number
  deque_open_tested h = go (deque_blank_in M) refl
    where
      either : (x : Bool) → open_number x true ≡ 0
      either true = refl
      either false = refl

      by_sound : (x : Bool) → open_number x false ≡ pick (not x) 32 0
      by_sound true = refl
      by_sound false = refl

      go : (b : Bool) → deque_blank_in M ≡ b → open_number (deque_sound_in s M) b ≡ pick (unsound_deques (deque_record_in s M)) 32 0
      go true e = rw (blank_here e, blank_deques_pass) (either (deque_sound_in s M))
      go false e = rw (run_here e, ← (deque_tested_same s M h e)) (by_sound (deque_sound_in s M))

  -- 0 exactly where a sound record, its truth values written as 0 and 1, or the blank one stands in the memory
  pub deque_open_exactly : ((lent_deque_open s M).number ≡ 0) ↔ (((truths M.holds ≡ true) × SoundDeques (deque_run_in s M)) ⊎ (deque_blank_in M ≡ true))
  unfolding lent_deque_open open_number
  deque_open_exactly = go (deque_sound_in s M) refl (deque_blank_in M) refl
    where
      go : (a : Bool) → deque_sound_in s M ≡ a → (b : Bool) → deque_blank_in M ≡ b → (open_number a b ≡ 0) ↔ (((truths M.holds ≡ true) × SoundDeques (deque_run_in s M)) ⊎ (b ≡ true))
      go true e b f = ((λ z. inl (truths_in s M e, deque_sound_in_lem s M e)), (λ x. refl))
      go false e true f = ((λ z. inr refl), (λ x. refl))
      go false e false f = (
        (λ z. absurd (omega (arith, z))),
        (λ x.
            ⊎_elim
            (λ (h : (truths M.holds ≡ true) × SoundDeques (deque_run_in s M)). never (sym e ∙ deque_sound_same s M h.0 ∙ (deque_sound_exactly (deque_run_in s M)).1 h.1))
            (λ (h : false ≡ true). never h)
            x),
      )

  -- after an opening that answered 0 the record that stood there stands, or the blank one is there still
  pub deque_opened_stands : length M.holds ≡ max_workers → length M.threads ≡ max_workers → length M.quotas ≡ max_workers → (lent_deque_open s M).number ≡ 0
      → deque_blank_in M ≡ false → DequesStand s (lent_deque_open s M).memory
  unfolding lent_deque_open open_number open_parents
  deque_opened_stands holds threads quotas = go (deque_sound_in s M) refl (deque_blank_in M)
    where
      go : (a : Bool) → deque_sound_in s M ≡ a → (b : Bool) → open_number a b ≡ 0 → b ≡ false → DequesStand s (deques_opened a b s M).memory
      go true e b n f = deque_open_stands s M holds threads quotas e
      go false e true n f = never (sym f)
      go false e false n f = absurd (omega (arith, n))

  pub deque_opened_blank : deque_blank_in M ≡ true → deque_blank_in (lent_deque_open s M).memory ≡ true
  unfolding lent_deque_open deque_blank_in
  deque_opened_blank h = h

  -- 32: the memory is as it was
  pub deque_open_refused : (lent_deque_open s M).number ≡ 32 → (lent_deque_open s M).memory ≡ M
  unfolding lent_deque_open open_number open_parents
  deque_open_refused = go (deque_sound_in s M) (deque_blank_in M)
    where
      go : (a b : Bool) → open_number a b ≡ 32 → (deques_opened a b s M).memory ≡ M
      go true b e = absurd (omega (arith, e))
      go false true e = absurd (omega (arith, e))
      go false false e = refl

-- a run that stands, opened anew: 32 exactly where the record is refused, and it stands, whatever the call answers
pub deques_open_refines : (s : List ℕ) (M : Memory) → DequesStand s M → (lent_deque_open s M).number ≡ pick (unsound_deques (deque_run_in s M)) 32 0
deques_open_refines s M h = rw (← (run_here s M (deques_worked s M h))) (deque_open_tested s M h.truth_values)

pub deques_reopened : (s : List ℕ) (M : Memory) → DequesStand s M → DequesStand s (lent_deque_open s M).memory
unfolding lent_deque_open open_number open_parents
deques_reopened s M h = go (deque_sound_in s M) refl (deque_blank_in M) refl
  where
    go : (a : Bool) → deque_sound_in s M ≡ a → (b : Bool) → deque_blank_in M ≡ b → DequesStand s (deques_opened a b s M).memory
    go true e b f = deque_open_stands s M h.holds_size h.threads_size h.quotas_size e
    go false e true f = never (sym (deques_worked s M h) ∙ f)
    go false e false f = h

-- ---- the test, as the code asks it: more workers than there may be are tested as 17 are

as_handed : (v : ℕ → Bool) → ((p : ℕ) → 17 ≤ p → v p ≡ false) → (p : ℕ) → v (min p 17) ≡ v p
as_handed v none p =
    by_cases (dec_lt p 17)
    (λ (h : p < 17). ap v (min-eq_left (omega arith)))
    (λ (h : p < 17 → ⊥). let l : 17 ≤ p = omega arith in ap v (min-eq_right l) ∙ none 17 (omega arith) ∙ sym (none p l))

too_many : (p K : ℕ) → 17 ≤ p → is_nothing (first_found (setting_passes p K)) ≡ false
too_many p K h = go (first_found (setting_passes p K)) refl
  where
    go : (f : Result ⊤ Refusal) → first_found (setting_passes p K) ≡ f → is_nothing f ≡ false
    go (Ok _) e = absurd (omega (arith, h, (setting_fits p K e).few_workers))
    go (Err x) e = refl

refused_parts : (a b c d : Bool) → b ≡ false → ((a && (b && c)) && d) ≡ false
refused_parts true b c d e = rw e
refused_parts false b c d e = refl

module _ (s : List ℕ) (K : ℕ) (next status amounts : List ℕ) (lines bottoms : Links) (workers : List Worker) (set amount highest turns : ℕ) where
  sound_handed : (p : ℕ) → deque_sound_on s (min p 17) K next status amounts lines bottoms workers set amount highest turns
      ≡ deque_sound_on s p K next status amounts lines bottoms workers set amount highest turns
  unfolding deque_sound_on common_sound
  sound_handed =
      as_handed (λ (p : ℕ). deque_sound_on s p K next status amounts lines bottoms workers set amount highest turns)
      (λ p h. refused_parts (is_nothing (first_found (passes s))) (is_nothing (first_found (setting_passes p K))) _ _ (too_many p K h))

  blank_handed : (p : ℕ) → deque_blank_on (min p 17) K next status amounts lines bottoms workers set amount highest turns
      ≡ deque_blank_on p K next status amounts lines bottoms workers set amount highest turns
  unfolding deque_blank_on blank_on
  blank_handed =
      as_handed (λ (p : ℕ). deque_blank_on p K next status amounts lines bottoms workers set amount highest turns)
      (λ p h. rw (ne_eqb p 0 (λ e. omega (arith, e, h))))

-- what the code tests is `deque_sound_in` and `deque_blank_in` of the memory
module _ (s : List ℕ) (M : Memory) {p : ℕ} {workers : List Worker} {written : Bool} (h : p ≡ min (get_or M.settings 0 0) 17) (w : workers ≡ workers_in M) (t : written ≡ truths M.holds) where
  abbrev sound_asked : Bool
  sound_asked =
      written
      && deque_sound_on s p (get_or M.settings 1 0) M.arrays.next M.arrays.status M.arrays.amounts (links_of M.arrays (moved_in M).totals) (second_of M.arrays (moved_in M).totals) workers
      (get_or M.heads 2 0) (get_or M.totals 0 0) (get_or M.totals 1 0) (get_or M.totals 2 0)

  abbrev blank_asked : Bool
  blank_asked =
      deque_blank_on p (get_or M.settings 1 0) M.arrays.next M.arrays.status M.arrays.amounts (links_of M.arrays (moved_in M).totals) (second_of M.arrays (moved_in M).totals) workers
      (get_or M.heads 2 0) (get_or M.totals 0 0) (get_or M.totals 1 0) (get_or M.totals 2 0)

  asks_sound : sound_asked ≡ deque_sound_in s M
  unfolding deque_sound_in
  asks_sound = rw (t, h, w, sound_handed s (get_or M.settings 1 0) M.arrays.next M.arrays.status M.arrays.amounts (links_of M.arrays (moved_in M).totals) (second_of M.arrays (moved_in M).totals) (workers_in M) (get_or M.heads 2 0) (get_or M.totals 0 0) (get_or M.totals 1 0) (get_or M.totals 2 0) (get_or M.settings 0 0))

  asks_blank : blank_asked ≡ deque_blank_in M
  unfolding deque_blank_in
  asks_blank = rw (h, w, blank_handed s (get_or M.settings 1 0) M.arrays.next M.arrays.status M.arrays.amounts (links_of M.arrays (moved_in M).totals) (second_of M.arrays (moved_in M).totals) (workers_in M) (get_or M.heads 2 0) (get_or M.totals 0 0) (get_or M.totals 1 0) (get_or M.totals 2 0) (get_or M.settings 0 0))

  pub opens_so : {r : ℕ} {parents : List ℕ} → r ≡ open_number sound_asked blank_asked → parents ≡ open_parents sound_asked blank_asked (table_of s) M.parents
      → answer r (0 ∷ []) (with_parents parents M) ≡ lent_deque_open s M
  unfolding lent_deque_open
  opens_so {r} {parents} e d =
      (λ i. answer (e i) (0 ∷ []) (with_parents (d i) M)) ∙ (λ i. deques_opened (asks_sound i) (asks_blank i) s M)
