-- A call by value packs the record, makes the call on the lent marks and reads the record back: what it answers is N11's on the record.
use Rattle.std.specs.Prelude.{Err}
use mathlib.Core.Path.{◌≡◌, refl, sym, ap, subst, ◌∙◌}
use Prim.Native.Nat.{ℕ, ◌≤◌, ◌<◌}
use native.Mathlib.Omega.{arith}
use native.Mathlib.Decide.{ℕ_discrete}
use mathlib.Core.List.{List}
use mathlib.Core.Bool.{Bool, true, false, ◌||◌}
use borrow.Author.Tests.{eq-eqb, ne_eqb}
use lib.Dec.{eqb}
use lib.ListN.{length, get_or, replicate, length-take}
use Rattle.table.specs.Sum.{pick}
use Rattle.table.specs.Pass.{refusal, try_at}
use Rattle.order.specs.Words.{filled, same_list}
use Rattle.schedule.specs.declared.Worker.{Worker}
use Rattle.schedule.specs.declared.Run.{Run}
use Rattle.schedule.specs.Record.{table_in, max_bytes, blank, bytes_of, links_in}
use Rattle.schedule.specs.Turn.{unsound}
use Rattle.schedule.specs.Sound.{sound, Steady}
use Rattle.schedule.proofs.Stores.{steady_fits}
use Rattle.schedule.proofs.Sound.Tests.{blank_exactly}
use Rattle.soundness.specs.Tested.{blank_on, tested, parents_if}
use Rattle.soundness.proofs.Passed.{has_workers, no_workers}
use Rattle.soundness.proofs.Chains.{second_of, never}
use Rattle.soundness.proofs.OnParts.{blank_is}
use Rattle.marks.specs.Marks.{Marked, marked, bad_marked, set_checks, back_checks, set_values, back_values, set_as, back_as}
use Rattle.run_memory.specs.Memory.{Memory, moved_in}
use Rattle.run_memory.specs.Stands.{truths, workers_in, run_in}
use Rattle.run_memory.specs.Packing.{memory_for, record_of}
use Rattle.run_memory.proofs.WorkerRecords.{workers_back, truths_back}
use Rattle.run_memory.proofs.Packed.{packed_record}
use Rattle.wivakkol.specs.Opened.{sound_in, blank_in, lent_open}
use Rattle.wivakkol.proofs.Opens.{sound_in_lem, no_workers as blank_settings}
use Rattle.wivakkol_marks.specs.LentMarks.{Marks, mark_in, fit_in, Setting, setting, lent_mark, lent_back}
use Rattle.wivakkol_marks.specs.MarkedIn.{record_in, marks_in, numbered}
use Rattle.wivakkol_marks.proofs.MarkRefines.{mark_values_lem, mark_refines, back_values_lem, back_refines, mark_small, back_small, back_fits, back_kept, opened_blank, opened_settings}
use Rattle.marking.specs.Marking.{marked_by, marks_after}
use Rattle.marking.specs.Code.Restored.{Restored}

-- ---- what stands in a memory that passes check 32

module _ (s : List ℕ) (X : Memory) where
  abbrev p : ℕ
  p = get_or X.settings 0 0

  sound_fits : sound_in s X ≡ true → (1 ≤ p) × (p ≤ 16)
  sound_fits e = let f = steady_fits (run_in s X) (sound_in_lem s X e).steady in (f.some_worker, f.few_workers)

  -- without workers it is the blank record
  fit_empty : fit_in s X ≡ true → blank_in X ≡ eqb p 0
  unfolding fit_in
  fit_empty e = go (sound_in s X) refl (blank_in X) refl e
    where
      go : (a : Bool) → sound_in s X ≡ a → (b : Bool) → blank_in X ≡ b → (a || b) ≡ true → b ≡ eqb p 0
      go a h true k e = sym (eq-eqb p 0 (blank_settings s X k))
      go true h false k e = sym (ne_eqb p 0 (λ z. omega (arith, z, (sound_fits h).0)))
      go false h false k e = never e

  fit_few : fit_in s X ≡ true → p < 256
  unfolding fit_in
  fit_few e = go (sound_in s X) refl (blank_in X) refl e
    where
      go : (a : Bool) → sound_in s X ≡ a → (b : Bool) → blank_in X ≡ b → (a || b) ≡ true → p < 256
      go a h true k e = omega (arith, blank_settings s X k)
      go true h false k e = omega (arith, (sound_fits h).1)
      go false h false k e = never e

-- ---- a record that passes check 32

blank_size : length (bytes_of blank) ≡ blank.length
unfolding blank
blank_size = refl

blank_rest : blank.table ≡ filled max_bytes (bytes_of blank)
unfolding blank
blank_rest = refl

blank_sixteen : length blank.worker ≡ 16
unfolding blank
blank_sixteen = refl

module _ (run : Run) (e : unsound run ≡ false) where
  some : (run.workers ≡ 0 → ⊥) → Steady run
  some d = (has_workers run e (omega (arith, d))).steady

  pub table_size : length (bytes_of run) ≡ run.length
  table_size = go (ℕ_discrete run.workers 0)
    where
      go : Dec (run.workers ≡ 0) → length (bytes_of run) ≡ run.length
      go (yes z) = subst (λ (r : Run). length (bytes_of r) ≡ r.length) (sym (no_workers run e z)) blank_size
      go (no d) = (some d).table_length

  table_rest : run.table ≡ filled max_bytes (bytes_of run)
  table_rest = go (ℕ_discrete run.workers 0)
    where
      go : Dec (run.workers ≡ 0) → run.table ≡ filled max_bytes (bytes_of run)
      go (yes z) = subst (λ (r : Run). r.table ≡ filled max_bytes (bytes_of r)) (sym (no_workers run e z)) blank_rest
      go (no d) = (some d).table_rest

  -- the table's bytes are inside its array
  pub table_inside : run.length ≤ length run.table
  table_inside = omega (arith, table_size, length-take run.length run.table)

  module _ (parents : List ℕ) where
    abbrev M : Memory
    M = memory_for run parents

    packed_some : (run.workers ≡ 0 → ⊥) → blank_in M ≡ false
    unfolding blank_in blank_on
    packed_some d = rw (ne_eqb run.workers 0 d)

    packed_none : run ≡ blank → blank_in M ≡ true
    unfolding blank_in
    packed_none q =
        let n : length run.worker ≡ 16 = ap (λ (r : Run). length r.worker) q ∙ blank_sixteen in
        ap (λ (l : List Worker). blank_on run.workers run.quota run.next run.status run.amounts (links_in run) l run.busy run.held run.highest run.turns)
        (workers_back run.worker n)
        ∙ second_of (eqb run.length 0) _ (second_of (same_list run.table (replicate max_bytes 0)) _ (sym (blank_is run) ∙ (blank_exactly run).1 q))

    -- what is packed is the record
    pub packed : record_in (bytes_of run) M ≡ run
    unfolding record_in
    packed = go (ℕ_discrete run.workers 0)
      where
        go : Dec (run.workers ≡ 0) → pick (blank_in M) blank (run_in (bytes_of run) M) ≡ run
        go (yes z) = ap (λ (b : Bool). pick b blank (run_in (bytes_of run) M)) (packed_none (no_workers run e z)) ∙ sym (no_workers run e z)
        go (no d) = ap (λ (b : Bool). pick b blank (run_in (bytes_of run) M)) (packed_some d) ∙ packed_record (some d) parents refl

    packed_truths : truths M.holds ≡ true
    packed_truths = truths_back run.worker

    -- ---- the answers

    module _ (K : Marks) (i : ℕ) where
      abbrev s : List ℕ
      s = bytes_of run

      pub set_values_lem : {n : ℕ} {K' : Marks} → setting n K' ≡ lent_mark s i M K → numbered n ≡ set_values (marked_by run K) i
      set_values_lem f =
          ap (λ (x : Setting). numbered x.number) f ∙ mark_values_lem s M K packed_truths i ∙ ap (λ (r : Run). set_values (marked r (marks_in s K)) i) packed

      pub set_marks : {n : ℕ} {K' : Marks} → setting n K' ≡ lent_mark s i M K → (n ≡ 0 → length K.set ≡ 8) → length K.kept ≡ 8
          → marks_in s K' ≡ (set_as (try_at (set_checks (marked_by run K) i) 0) i (marked_by run K)).marks
      set_marks f z y =
          ap (λ (x : Setting). marks_in s x.marks) f
          ∙ ap (λ (x : Marked). x.marks) (mark_refines s M K packed_truths i y (λ q. z (ap (λ (x : Setting). x.number) f ∙ q)))
          ∙ ap (λ (r : Run). (set_as (try_at (set_checks (marked r (marks_in s K)) i) 0) i (marked r (marks_in s K))).marks) packed

      pub set_after : {n : ℕ} {K' : Marks} → setting n K' ≡ lent_mark s i M K → parents ≡ parents_if (sound run) (table_in run) → K' ≡ marks_after run i K
      unfolding marks_after
      set_after f p =
          ap (λ (x : Setting). x.marks) f
          ∙ ap (λ (P : List ℕ). (lent_mark s i (memory_for run P) K).marks) p
          ∙ sym (ap (λ (b : Bool). pick b K (lent_mark s i (memory_for run (parents_if (sound run) (table_in run))) K).marks) e)

      pub back_number_lem : {n : ℕ} → n ≡ (lent_back s i M K).number → numbered n ≡ back_values (marked_by run K) i
      back_number_lem f = ap numbered f ∙ back_values_lem s M K packed_truths i ∙ ap (λ (r : Run). back_values (marked r (marks_in s K)) i) packed

      pub back_run : {r : Run} → r ≡ record_in s (lent_back s i M K).memory → r ≡ (back_as (try_at (back_checks (marked_by run K) i) 0) i (marked_by run K)).run
      back_run f =
          f ∙ ap (λ (x : Marked). x.run) (back_refines s M K packed_truths i)
          ∙ ap (λ (r : Run). (back_as (try_at (back_checks (marked r (marks_in s K)) i) 0) i (marked r (marks_in s K))).run) packed

      pub set_small : {n : ℕ} {K' : Marks} → setting n K' ≡ lent_mark s i M K → n < 256
      set_small f = subst (λ (n : ℕ). n < 256) (sym (ap (λ (x : Setting). x.number) f)) (mark_small s i M K)

      pub back_few : {n : ℕ} → n ≡ (lent_back s i M K).number → n < 256
      back_few f = subst (λ (n : ℕ). n < 256) (sym f) (back_small s i M K)

      -- refused: the run as it was
      pub back_stays : ((lent_back s i M K).number ≡ 0 → ⊥) → run ≡ record_in s (lent_back s i M K).memory
      back_stays d = sym (ap (record_in s) (back_kept s i M K d) ∙ packed)

      -- else the record is read from the memory
      pub back_restored : (lent_back s i M K).number ≡ 0 → Restored run (lent_back s i M K).memory
      back_restored d =
          let (f, q) = back_fits s i M K d in
          subst (λ (N : Memory). Restored run N) (sym q) (opened (mark_in K i) f)
        where
          opened : (X : Memory) → fit_in s X ≡ true → Restored run (lent_open s X).memory
          opened X f =
              let p : (lent_open s X).memory.settings ≡ X.settings = opened_settings s X in
              record {
                size = table_size;
                rest = table_rest;
                empty = opened_blank s X ∙ fit_empty s X f ∙ ap (λ (l : List ℕ). eqb (get_or l 0 0) 0) (sym p);
                few = subst (λ (l : List ℕ). get_or l 0 0 < 256) (sym p) (fit_few s X f);
              }

-- ---- the record that is read back

pub restored_blank : {run : Run} {M : Memory} → Restored run M → get_or M.settings 0 0 ≡ 0 → {r : Run} → r ≡ blank → r ≡ record_in (bytes_of run) M
unfolding record_in
restored_blank {run} {M} h z e = e ∙ sym (ap (λ (b : Bool). pick b blank (run_in (bytes_of run) M)) (h.empty ∙ eq-eqb (get_or M.settings 0 0) 0 z))

-- the record with p and K of the memory
abbrev pub with_settings : Run → ℕ → ℕ → Run
with_settings r p K =
    record {
      table = r.table;
      length = r.length;
      workers = p;
      quota = K;
      next = r.next;
      status = r.status;
      amounts = r.amounts;
      left = r.left;
      right = r.right;
      leftmost = r.leftmost;
      worker = r.worker;
      busy = r.busy;
      held = r.held;
      highest = r.highest;
      turns = r.turns;
    }

pub restored_run : {run : Run} {M : Memory} → Restored run M → (get_or M.settings 0 0 ≡ 0 → ⊥) → {r : Run} {p K : ℕ} → r ≡ record_of run M → p ≡ get_or M.settings 0 0
    → K ≡ get_or M.settings 1 0 → with_settings r p K ≡ record_in (bytes_of run) M
unfolding record_in
restored_run {run} {M} h d {r} {p} {K} e f g =
    let read : ◌≡◌ {A = Run} (with_settings (record_of run M) (get_or M.settings 0 0) (get_or M.settings 1 0)) (run_in (bytes_of run) M) =
    λ i.
    record {
      table = h.rest i;
      length = sym h.size i;
      workers = get_or M.settings 0 0;
      quota = get_or M.settings 1 0;
      next = M.arrays.next;
      status = M.arrays.status;
      amounts = M.arrays.amounts;
      left = M.arrays.left;
      right = M.arrays.right;
      leftmost = (moved_in M).totals.leftmost;
      worker = workers_in M;
      busy = (moved_in M).busy;
      held = (moved_in M).totals.held;
      highest = (moved_in M).totals.highest;
      turns = (moved_in M).turns;
    } in
    (λ i. with_settings (e i) (f i) (g i)) ∙ read ∙ sym (ap (λ (b : Bool). pick b blank (run_in (bytes_of run) M)) (h.empty ∙ ne_eqb (get_or M.settings 0 0) 0 d))

-- ---- a record that does not

module _ (run : Run) (e : unsound run ≡ true) (K : Marks) (i : ℕ) where
  set_found_lem : try_at (set_checks (marked_by run K) i) 0 ≡ Err (refusal 32 0)
  unfolding try_at bad_marked
  set_found_lem = rw e

  back_found_lem : try_at (back_checks (marked_by run K) i) 0 ≡ Err (refusal 32 0)
  unfolding try_at bad_marked
  back_found_lem = rw e

  pub unsound_set : numbered 32 ≡ set_values (marked_by run K) i
  unfolding set_values
  unsound_set = rw set_found_lem

  pub unsound_marks : marks_in (bytes_of run) K ≡ (set_as (try_at (set_checks (marked_by run K) i) 0) i (marked_by run K)).marks
  unsound_marks = rw set_found_lem

  pub unsound_after : K ≡ marks_after run i K
  unfolding marks_after
  unsound_after = sym (ap (λ (b : Bool). pick b K (lent_mark (bytes_of run) i (memory_for run (parents_if (sound run) (table_in run))) K).marks) e)

  pub unsound_back : numbered 32 ≡ back_values (marked_by run K) i
  unfolding back_values
  unsound_back = rw back_found_lem

  pub unsound_run : run ≡ (back_as (try_at (back_checks (marked_by run K) i) 0) i (marked_by run K)).run
  unsound_run = rw back_found_lem

-- ---- either

-- the marks after setting one, read with the run's table, are N11's
pub after_marks_lem : (run : Run) (K : Marks) (i : ℕ) → length K.set ≡ 8 → length K.kept ≡ 8
    → marks_in (bytes_of run) (marks_after run i K) ≡ (set_as (try_at (set_checks (marked_by run K) i) 0) i (marked_by run K)).marks
after_marks_lem run K i z y = go (unsound run) refl
  where
    go : (q : Bool) → unsound run ≡ q → marks_in (bytes_of run) (marks_after run i K) ≡ (set_as (try_at (set_checks (marked_by run K) i) 0) i (marked_by run K)).marks
    go true e = ap (marks_in (bytes_of run)) (sym (unsound_after run e K i)) ∙ unsound_marks run e K i
    go false e =
        let P : List ℕ = parents_if (sound run) (table_in run) in
        let x : Setting = lent_mark (bytes_of run) i (memory_for run P) K in
        ap (marks_in (bytes_of run)) (sym (set_after run e P K i {n = x.number} {K' = x.marks} refl refl))
        ∙ set_marks run e P K i {n = x.number} {K' = x.marks} refl (λ q. z) y
