-- Setting a mark and going back to one, in lent memory, are N11's on the records that stand there: numbers, the run and every mark. Asked is that the run's truth values are written as 0 and 1,
-- as every call leaves them.
use Rattle.std.specs.Prelude.{Err, Ok, Result, ⊤}
use Rattle.table.specs.declared.Refusal.{Refusal}
use mathlib.Core.Path.{◌≡◌, refl, sym, ap, ◌∙◌}
use mathlib.Core.Logic.{◌≢◌}
use Prim.Native.Nat.{ℕ, zero, suc, ◌+◌, ◌<◌}
use native.Mathlib.Omega.{arith}
use native.Mathlib.Decide.{ℕ_discrete}
use mathlib.Core.List.{List, []}
use mathlib.Core.Bool.{Bool, true, false, not, ◌&&◌, ◌||◌}
use lib.Dec.{eqb, ltb}
use lib.ListN.{length, get_or, set}
use lib.Seq.{get_or-set_same, get_or-set_other}
use borrow.Author.Tests.{ltb-true, eq-eqb, ne_eqb}
use Rattle.table.specs.Sum.{pick, any_below}
use Rattle.table.specs.Pass.{refusal, try_at}
use Rattle.order.specs.Words.{all_below}
use Rattle.order.proofs.Words.{all_below_exactly}
use Rattle.schedule.specs.declared.Worker.{Worker}
use Rattle.schedule.specs.Record.{blank}
use Rattle.schedule.specs.Turn.{unsound}
use Rattle.soundness.specs.Tested.{blank_on}
use Rattle.soundness.proofs.Chains.{second_of}
use Rattle.marks.specs.Marks.{Mark, unset, kept, Marked, marked, unmarked, mark_of, is_set, bad_mark, bad_marked, set_checks, back_checks, set_values, back_values, mark_values, set_as, run_at, back_as}
use Rattle.array_machine.specs.Arrays.{links_of}
use Rattle.array_machine.specs.Packed.{packed_of}
use Rattle.run_memory.specs.Memory.{Memory, moved_in}
use Rattle.run_memory.specs.Stands.{truths, workers_in, settled, run_in, Stands}
use Rattle.run_memory.proofs.Refines.{workers_length}
use Rattle.run_memory.proofs.WorkerRecords.{of_length, workers_back, truths_back}
use Rattle.wivakkol.specs.Lent.{blank_memory}
use Rattle.wivakkol.specs.Opened.{sound_in, blank_in, opened_as, lent_open}
use Rattle.wivakkol.proofs.Opens.{open_record, open_stands, tested_same, blank_record, blank_passes, blank_passed}
use Rattle.wivakkol_marks.specs.LentMarks.{Marks, marks, row_from, marks_of, mended, is_set_in, mark_in, fit_in, fit_marks, fit_marked, mark_fault, back_fault, setting, lent_mark, going, lent_back, lent_unmark}
use Rattle.wivakkol_marks.specs.MarkedIn.{record_in, mark_at, marks_in, marked_in, numbered}
use Rattle.wivakkol_marks.proofs.Stretches.{row_set, row_here}

-- ---- truth values

on : (a : Bool) → (a || true) ≡ true
on true = refl
on false = refl

off : (a : Bool) → (a || false) ≡ not (not a)
off true = refl
off false = refl

twice : (a : Bool) → not (not a) ≡ a
twice true = refl
twice false = refl

neither : (a b : Bool) → not (a && b) ≡ (not a || not b)
neither true b = refl
neither false b = refl

either : (a b : Bool) → not (a && b) ≡ pick (not b) true (not a)
either true true = refl
either true false = refl
either false true = refl
either false false = refl

any_fails : (f g : ℕ → Bool) (k : ℕ) → ((i : ℕ) → i < k → not (f i) ≡ g i) → not (all_below f k) ≡ any_below g k
unfolding all_below any_below
any_fails f g zero h = refl
any_fails f g (suc k) h =
    let p : not (all_below f k) ≡ any_below g k = any_fails f g k (λ i l. h i (omega (arith, l))) in
    let q : not (f k) ≡ g k = h k (omega arith) in
    either (all_below f k) (f k) ∙ (λ i. pick (q i) true (p i))

-- ---- the record that stands in a memory

blank_tested : unsound blank ≡ false
blank_tested = ap unsound (sym blank_record) ∙ blank_passed [] _ blank_passes

mended_workers : (M : Memory) → workers_in (mended M) ≡ workers_in M
mended_workers M = workers_back (workers_in M) (workers_length M.holds M.threads M.quotas 0 16)

mended_blank : (M : Memory) → blank_in (mended M) ≡ blank_in M
unfolding blank_in
mended_blank M =
    ap (λ (l : List Worker). blank_on (get_or M.settings 0 0) (get_or M.settings 1 0) M.arrays.next M.arrays.status M.arrays.amounts (links_of M.arrays (moved_in M).totals) l
    (moved_in M).busy (moved_in M).totals.held (moved_in M).totals.highest (moved_in M).turns) (mended_workers M)

module _ (s : List ℕ) where
  -- check 32 of a memory is that of the record
  pub fit_record : (M : Memory) → truths M.holds ≡ true → fit_in s M ≡ not (unsound (record_in s M))
  unfolding fit_in record_in
  fit_record M h = go (blank_in M) refl
    where
      go : (b : Bool) → blank_in M ≡ b → (sound_in s M || b) ≡ not (unsound (pick b blank (run_in s M)))
      go true e = on (sound_in s M) ∙ ap not (sym blank_tested)
      go false e = off (sound_in s M) ∙ ap not (tested_same s M h e)

  pub mended_record : (M : Memory) → record_in s (mended M) ≡ record_in s M
  unfolding record_in
  mended_record M =
      let r : run_in s (mended M) ≡ run_in s M = ap (λ (l : List Worker). packed_of (settled s M) M.arrays l (moved_in M)) (mended_workers M) in
      λ i. pick (mended_blank M i) blank (r i)

  pub opened_blank : (M : Memory) → blank_in (lent_open s M).memory ≡ blank_in M
  unfolding lent_open blank_in
  opened_blank M = go (sound_in s M) (blank_in M)
    where
      go : (a b : Bool) → blank_in (opened_as a b s M).memory ≡ blank_in M
      go true b = refl
      go false true = refl
      go false false = refl

  pub opened_record : (M : Memory) → record_in s (lent_open s M).memory ≡ record_in s M
  unfolding record_in
  opened_record M = λ i. pick (opened_blank M i) blank (open_record s M i)

pub opened_settings : (s : List ℕ) (M : Memory) → (lent_open s M).memory.settings ≡ M.settings
unfolding lent_open
opened_settings s M = go (sound_in s M) (blank_in M)
  where
    go : (a b : Bool) → (opened_as a b s M).memory.settings ≡ M.settings
    go true b = refl
    go false true = refl
    go false false = refl

opened_holds : (s : List ℕ) (M : Memory) → (lent_open s M).memory.holds ≡ M.holds
unfolding lent_open
opened_holds s M = go (sound_in s M) (blank_in M)
  where
    go : (a b : Bool) → (opened_as a b s M).memory.holds ≡ M.holds
    go true b = refl
    go false true = refl
    go false false = refl

-- ---- the run and its marks

module _ (s : List ℕ) (M : Memory) (K : Marks) where
  abbrev m : Marked
  m = marked_in s M K

  mark_here : (i : ℕ) → i < 8 → mark_of m i ≡ mark_at s K i
  mark_here i h = row_here (mark_at s K) unset 8 i h

  mark_truths : (i : ℕ) → truths (mark_in K i).holds ≡ true
  mark_truths i = truths_back (workers_in (get_or K.kept i blank_memory))

  bad_here : (i : ℕ) → i < 8 → not (not (is_set_in K i) || fit_in s (mark_in K i)) ≡ bad_mark (mark_of m i)
  bad_here i h = go (is_set_in K i) ∙ ap bad_mark (sym (mark_here i h))
    where
      go : (b : Bool) → not (not b || fit_in s (mark_in K i)) ≡ bad_mark (pick b (kept (record_in s (mark_in K i))) unset)
      go true = ap not (fit_record s (mark_in K i) (mark_truths i)) ∙ twice (unsound (record_in s (mark_in K i)))
      go false = refl

  module _ (h : truths M.holds ≡ true) where
    -- "32 looks at the run and at every set mark"
    pub bad_same : not (fit_marked s M K) ≡ bad_marked m
    unfolding fit_marked fit_marks bad_marked
    bad_same =
        let run : not (fit_in s M) ≡ unsound (record_in s M) = ap not (fit_record s M h) ∙ twice (unsound (record_in s M)) in
        let rest = any_fails (λ i. not (is_set_in K i) || fit_in s (mark_in K i)) (λ i. bad_mark (mark_of m i)) 8 bad_here in
        neither (fit_in s M) _ ∙ (λ i. run i || rest i)

    module _ (i : ℕ) where
      abbrev set_found : Bool → Bool → Result ⊤ Refusal
      set_found a b = pick a (pick b (Ok tt) (Err (refusal 45 0))) (Err (refusal 32 0))

      set_found_lem : try_at (set_checks m i) 0 ≡ set_found (fit_marked s M K) (ltb i 8)
      unfolding try_at
      set_found_lem =
          ap (λ (q : Bool). pick q (Err (refusal 32 0)) (pick (not (ltb i 8)) (Err (refusal 45 0)) (Ok tt))) (sym bad_same) ∙ go (fit_marked s M K) (ltb i 8)
        where
          go : (a b : Bool) → pick (not a) (Err (refusal 32 0)) (pick (not b) (Err (refusal 45 0)) (Ok tt)) ≡ set_found a b
          go true true = refl
          go true false = refl
          go false b = refl

      abbrev set_number : Bool → Bool → ℕ
      set_number a b = pick a (pick b 0 45) 32

      pub mark_values_lem : numbered (lent_mark s i M K).number ≡ set_values m i
      unfolding lent_mark mark_fault set_values
      mark_values_lem = go (fit_marked s M K) (ltb i 8) ∙ ap mark_values (sym set_found_lem)
        where
          go : (a b : Bool)
              → numbered (pick (eqb (set_number a b) 0) (setting 0 (marks (set K.set i 1) (set K.kept i M))) (setting (set_number a b) K)).number ≡ mark_values (set_found a b)
          go true true = refl
          go true false = refl
          go false b = refl

      abbrev back_found : Bool → Bool → Bool → Result ⊤ Refusal
      back_found a b c = pick a (pick b (pick c (Ok tt) (Err (refusal 46 0))) (Err (refusal 45 0))) (Err (refusal 32 0))

      set_here : i < 8 → pick {A = Result ⊤ Refusal} (not (is_set (mark_of m i))) (Err (refusal 46 0)) (Ok tt) ≡ pick {A = Result ⊤ Refusal} (is_set_in K i) (Ok tt) (Err (refusal 46 0))
      set_here l = ap (λ (x : Mark). pick {A = Result ⊤ Refusal} (not (is_set x)) (Err (refusal 46 0)) (Ok tt)) (mark_here i l) ∙ go (is_set_in K i)
        where
          go : (c : Bool) → pick {A = Result ⊤ Refusal} (not (is_set (pick c (kept (record_in s (mark_in K i))) unset))) (Err (refusal 46 0)) (Ok tt) ≡ pick {A = Result ⊤ Refusal} c (Ok tt) (Err (refusal 46 0))
          go true = refl
          go false = refl

      back_found_lem : try_at (back_checks m i) 0 ≡ back_found (fit_marked s M K) (ltb i 8) (is_set_in K i)
      unfolding try_at
      back_found_lem =
          ap (λ (q : Bool). pick q (Err (refusal 32 0)) (pick (not (ltb i 8)) (Err (refusal 45 0)) (pick (not (is_set (mark_of m i))) (Err (refusal 46 0)) (Ok tt)))) (sym bad_same)
          ∙ go (fit_marked s M K) (ltb i 8) refl
        where
          go : (a b : Bool) → ltb i 8 ≡ b
              → pick (not a) (Err (refusal 32 0)) (pick (not b) (Err (refusal 45 0)) (pick (not (is_set (mark_of m i))) (Err (refusal 46 0)) (Ok tt))) ≡ back_found a b (is_set_in K i)
          go true true e = set_here (ltb-true i 8 e)
          go true false e = refl
          go false b e = refl

      abbrev back_number : Bool → Bool → Bool → ℕ
      back_number a b c = pick a (pick b (pick c 0 46) 45) 32

      pub back_values_lem : numbered (lent_back s i M K).number ≡ back_values m i
      unfolding lent_back back_fault back_values
      back_values_lem = go (fit_marked s M K) (ltb i 8) (is_set_in K i) ∙ ap mark_values (sym back_found_lem)
        where
          go : (a b c : Bool)
              → numbered (pick (eqb (back_number a b c) 0) (going 0 (lent_open s (mark_in K i)).memory) (going (back_number a b c) M)).number ≡ mark_values (back_found a b c)
          go true true true = refl
          go true true false = refl
          go true false c = refl
          go false b c = refl

      -- "going back restores exactly that run, turns and peak too, while the marks themselves remain"
      gone : i < 8 → is_set_in K i ≡ true → record_in s (lent_open s (mark_in K i)).memory ≡ run_at (mark_of m i) m.run
      gone l e =
          opened_record s (mark_in K i)
          ∙ sym (ap (λ (x : Mark). run_at x m.run) (mark_here i l) ∙ ap (λ (c : Bool). run_at (pick c (kept (record_in s (mark_in K i))) unset) m.run) e)

      pub back_refines : marked_in s (lent_back s i M K).memory K ≡ back_as (try_at (back_checks m i) 0) i m
      unfolding lent_back back_fault
      back_refines = go (fit_marked s M K) (ltb i 8) refl (is_set_in K i) refl ∙ ap (λ (f : Result ⊤ Refusal). back_as f i m) (sym back_found_lem)
        where
          go : (a b : Bool) → ltb i 8 ≡ b → (c : Bool) → is_set_in K i ≡ c
              → marked_in s (pick (eqb (back_number a b c) 0) (going 0 (lent_open s (mark_in K i)).memory) (going (back_number a b c) M)).memory K ≡ back_as (back_found a b c) i m
          go true true e true d = λ k. marked (gone (ltb-true i 8 e) d k) (marks_in s K)
          go true true e false d = refl
          go true false e c d = refl
          go false b e c d = refl

      -- the run's truth values stay so
      pub back_truths : truths (lent_back s i M K).memory.holds ≡ true
      unfolding lent_back back_fault
      back_truths = go (eqb (back_fault s M K i) 0)
        where
          go : (b : Bool) → truths (pick b (going 0 (lent_open s (mark_in K i)).memory) (going (back_fault s M K i) M)).memory.holds ≡ true
          go true = ap truths (opened_holds s (mark_in K i)) ∙ mark_truths i
          go false = h

    -- ---- a mark that is set

    module _ (i : ℕ) (y : length K.kept ≡ 8) where
      abbrev after : Marks
      after = marks (set K.set i 1) (set K.kept i M)

      same : length K.set ≡ 8 → i < 8 → mark_at s after i ≡ kept (record_in s M)
      same z l =
          let a : get_or (set K.set i 1) i 0 ≡ 1 = get_or-set_same K.set i 1 0 (omega (arith, l, z)) in
          let b : get_or (set K.kept i M) i blank_memory ≡ M = get_or-set_same K.kept i M blank_memory (omega (arith, l, y)) in
          (λ k. pick (not (eqb (a k) 0)) (kept (record_in s (mended (b k)))) unset) ∙ ap kept (mended_record s M)

      other : (j : ℕ) → j ≢ i → mark_at s after j ≡ mark_at s K j
      other j d =
          let a : get_or (set K.set i 1) j 0 ≡ get_or K.set j 0 = get_or-set_other K.set i j 1 0 d in
          let b : get_or (set K.kept i M) j blank_memory ≡ get_or K.kept j blank_memory = get_or-set_other K.kept i j M blank_memory d in
          λ k. pick (not (eqb (a k) 0)) (kept (record_in s (mended (b k)))) unset

      laid : length K.set ≡ 8 → i < 8 → marks_in s after ≡ set (marks_in s K) i (kept (record_in s M))
      laid z l = row_set (mark_at s K) (mark_at s after) (kept (record_in s M)) 0 8 i (λ j. at j (ℕ_discrete j i))
        where
          here : i ≡ 0 + i
          here = omega arith

          at : (j : ℕ) → Dec (j ≡ i) → mark_at s after j ≡ pick (eqb j (0 + i)) (kept (record_in s M)) (mark_at s K j)
          at j (yes q) =
              ap (mark_at s after) q ∙ same z l ∙ sym (ap (λ (b : Bool). pick b (kept (record_in s M)) (mark_at s K j)) (eq-eqb j (0 + i) (q ∙ here)))
          at j (no d) = other j d ∙ sym (ap (λ (b : Bool). pick b (kept (record_in s M)) (mark_at s K j)) (ne_eqb j (0 + i) (λ e. d (e ∙ sym here))))

      -- "Setting one stores the run as it is"; "Setting again replaces"
      pub mark_refines : ((lent_mark s i M K).number ≡ 0 → length K.set ≡ 8) → marked_in s M (lent_mark s i M K).marks ≡ set_as (try_at (set_checks m i) 0) i m
      unfolding lent_mark mark_fault
      mark_refines n = go (fit_marked s M K) (ltb i 8) refl n ∙ ap (λ (f : Result ⊤ Refusal). set_as f i m) (sym (set_found_lem i))
        where
          go : (a b : Bool) → ltb i 8 ≡ b → ((pick (eqb (set_number i a b) 0) (setting 0 after) (setting (set_number i a b) K)).number ≡ 0 → length K.set ≡ 8)
              → marked_in s M (pick (eqb (set_number i a b) 0) (setting 0 after) (setting (set_number i a b) K)).marks ≡ set_as (set_found i a b) i m
          go true true e n = λ k. marked (record_in s M) (laid (n refl) (ltb-true i 8 e) k)
          go true false e n = refl
          go false b e n = refl

-- the marks in lent blocks are eight
pub kept_size : (flags bytes words numbers sums : List ℕ) → length (marks_of flags bytes words numbers sums).kept ≡ 8
unfolding row_from
kept_size flags bytes words numbers sums = refl

-- "none set at the beginning"
pub unmark_refines : (s : List ℕ) (M : Memory) (K : Marks) → marked_in s M (lent_unmark K) ≡ unmarked (record_in s M)
unfolding row_from
unmark_refines s M K = refl

-- ---- the numbers are those of the checks

pub mark_small : (s : List ℕ) (i : ℕ) (M : Memory) (K : Marks) → (lent_mark s i M K).number < 256
unfolding lent_mark mark_fault
mark_small s i M K = go (fit_marked s M K) (ltb i 8)
  where
    go : (a b : Bool) → (pick (eqb (pick a (pick b 0 45) 32) 0) (setting 0 (marks (set K.set i 1) (set K.kept i M))) (setting (pick a (pick b 0 45) 32) K)).number < 256
    go true true = omega arith
    go true false = omega arith
    go false b = omega arith

pub back_small : (s : List ℕ) (i : ℕ) (M : Memory) (K : Marks) → (lent_back s i M K).number < 256
unfolding lent_back back_fault
back_small s i M K = go (fit_marked s M K) (ltb i 8) (is_set_in K i)
  where
    go : (a b c : Bool)
        → (pick (eqb (pick a (pick b (pick c 0 46) 45) 32) 0) (going 0 (lent_open s (mark_in K i)).memory) (going (pick a (pick b (pick c 0 46) 45) 32) M)).number < 256
    go true true true = omega arith
    go true true false = omega arith
    go true false c = omega arith
    go false b c = omega arith

-- ---- going back leaves a run that can go on

module _ (s : List ℕ) (i : ℕ) (M : Memory) (K : Marks) where
  fits_mark : fit_marked s M K ≡ true → i < 8 → is_set_in K i ≡ true → fit_in s (mark_in K i) ≡ true
  unfolding fit_marked fit_marks
  fits_mark e l d =
      let all : all_below (λ j. not (is_set_in K j) || fit_in s (mark_in K j)) 8 ≡ true = second_of (fit_in s M) _ e in
      ap (λ (c : Bool). not c || fit_in s (mark_in K i)) (sym d) ∙ (all_below_exactly _ 8).0 all i l

  -- the memory that is opened has a sound record, or the blank one
  pub back_fits : (lent_back s i M K).number ≡ 0 → (fit_in s (mark_in K i) ≡ true) × ((lent_back s i M K).memory ≡ (lent_open s (mark_in K i)).memory)
  unfolding lent_back back_fault
  back_fits e = go (fit_marked s M K) refl (ltb i 8) refl (is_set_in K i) refl e
    where
      go : (a : Bool) → fit_marked s M K ≡ a → (b : Bool) → ltb i 8 ≡ b → (c : Bool) → is_set_in K i ≡ c
          → (pick (eqb (pick a (pick b (pick c 0 46) 45) 32) 0) (going 0 (lent_open s (mark_in K i)).memory) (going (pick a (pick b (pick c 0 46) 45) 32) M)).number ≡ 0
          → (fit_in s (mark_in K i) ≡ true)
          × ((pick (eqb (pick a (pick b (pick c 0 46) 45) 32) 0) (going 0 (lent_open s (mark_in K i)).memory) (going (pick a (pick b (pick c 0 46) 45) 32) M)).memory
          ≡ (lent_open s (mark_in K i)).memory)
      go true p true q true r e = (fits_mark p (ltb-true i 8 q) r, refl)
      go true p true q false r e = absurd (omega (arith, e))
      go true p false q c r e = absurd (omega (arith, e))
      go false p b q c r e = absurd (omega (arith, e))

  -- refused: the run as it was
  pub back_kept : ((lent_back s i M K).number ≡ 0 → ⊥) → (lent_back s i M K).memory ≡ M
  unfolding lent_back
  back_kept d = go (eqb (back_fault s M K i) 0) d
    where
      go : (b : Bool) → ((pick b (going 0 (lent_open s (mark_in K i)).memory) (going (back_fault s M K i) M)).number ≡ 0 → ⊥)
          → (pick b (going 0 (lent_open s (mark_in K i)).memory) (going (back_fault s M K i) M)).memory ≡ M
      go true d = absurd (d refl)
      go false d = refl

  abbrev mark : Memory
  mark = get_or K.kept i blank_memory

  opened_stands : sound_in s (mark_in K i) ≡ true → Stands s (lent_open s (mark_in K i)).memory
  unfolding lent_open
  opened_stands e =
      let n : length (workers_in mark) ≡ 16 = workers_length mark.holds mark.threads mark.quotas 0 16 in
      rw e (open_stands s (mark_in K i) (of_length _ (workers_in mark) ∙ n) (of_length _ (workers_in mark) ∙ n) (of_length _ (workers_in mark) ∙ n) e)

  sound_mark : fit_in s (mark_in K i) ≡ true → blank_in (mark_in K i) ≡ false → sound_in s (mark_in K i) ≡ true
  unfolding fit_in
  sound_mark e n = sym (off (sound_in s (mark_in K i)) ∙ twice (sound_in s (mark_in K i))) ∙ ap (λ (b : Bool). sound_in s (mark_in K i) || b) (sym n) ∙ e

  -- a mark with a sound record: the run stands as after an opening
  pub back_stands : Stands s M → blank_in (mark_in K i) ≡ false → Stands s (lent_back s i M K).memory
  unfolding lent_back back_fault
  back_stands h n = go (fit_marked s M K) refl (ltb i 8) refl (is_set_in K i) refl
    where
      go : (a : Bool) → fit_marked s M K ≡ a → (b : Bool) → ltb i 8 ≡ b → (c : Bool) → is_set_in K i ≡ c
          → Stands s (pick (eqb (pick a (pick b (pick c 0 46) 45) 32) 0) (going 0 (lent_open s (mark_in K i)).memory) (going (pick a (pick b (pick c 0 46) 45) 32) M)).memory
      go true p true q true r = opened_stands (sound_mark (fits_mark p (ltb-true i 8 q) r) n)
      go true p true q false r = h
      go true p false q c r = h
      go false p b q c r = h
