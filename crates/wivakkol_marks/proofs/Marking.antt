-- The calls' answers, from what their tests say.
use mathlib.Core.Path.{◌≡◌, sym, ap, ◌∙◌}
use Prim.Native.Nat.{ℕ, ◌≤◌, ◌<◌}
use mathlib.Core.List.{List}
use mathlib.Core.Bool.{Bool, true, false, not, ◌||◌}
use lib.ListN.{get_or, set}
use borrow.Author.Tests.{lt-ltb, le-ltb, eq-eqb, ne_eqb}
use Rattle.run_memory.specs.Memory.{Memory}
use Rattle.wivakkol.specs.Lent.{blank_memory}
use Rattle.wivakkol.specs.Opened.{lent_open}
use Rattle.wivakkol_marks.proofs.Stretches.{row_here}
use Rattle.wivakkol_marks.specs.LentMarks.{Marks, marks, memory_at, marks_of, mended, is_set_in, mark_in, fit_in, fit_marks, fit_marked, mark_fault, back_fault, setting, lent_mark, going, lent_back}

-- ---- one mark

module _ (set b w n z : List ℕ) (i : ℕ) (h : i < 8) where
  abbrev K : Marks
  K = marks_of set b w n z

  pub mark_at_lem : {M : Memory} → M ≡ mended (memory_at b w n z i) → M ≡ mark_in K i
  mark_at_lem e = e ∙ ap mended (sym (row_here (memory_at b w n z) blank_memory 8 i h))

  pub mark_fits : (s : List ℕ) {M : Memory} {r : Bool} → (get_or set i 0 ≡ 0 → ⊥) → M ≡ mended (memory_at b w n z i) → r ≡ fit_in s M → r ≡ (not (is_set_in K i) || fit_in s (mark_in K i))
  mark_fits s d e f = rw (ne_eqb (get_or set i 0) 0 d) (f ∙ ap (fit_in s) (mark_at_lem e))

pub unset_fits : (set b w n z : List ℕ) (i : ℕ) (s : List ℕ) → get_or set i 0 ≡ 0 → true ≡ (not (is_set_in (marks_of set b w n z) i) || fit_in s (mark_in (marks_of set b w n z) i))
unset_fits set b w n z i s e = rw (eq-eqb (get_or set i 0) 0 e)

-- ---- the run and the marks

module _ (s : List ℕ) (M : Memory) (K : Marks) where
  pub run_unfit : {r : Bool} → r ≡ fit_in s M → r ≡ false → false ≡ fit_marked s M K
  unfolding fit_marked
  run_unfit e d = rw (sym e ∙ d)

  pub run_fit : {r q : Bool} → r ≡ fit_in s M → r ≡ true → q ≡ fit_marks s K → q ≡ fit_marked s M K
  unfolding fit_marked
  run_fit e d f = rw (sym e ∙ d) f

  -- ---- the answers

  module _ (i : ℕ) {r : Bool} (e : r ≡ fit_marked s M K) where
    pub set_unsound : r ≡ false → setting 32 K ≡ lent_mark s i M K
    unfolding lent_mark mark_fault
    set_unsound d = rw (sym e ∙ d)

    pub back_unsound : r ≡ false → going 32 M ≡ lent_back s i M K
    unfolding lent_back back_fault
    back_unsound d = rw (sym e ∙ d)

    module _ (d : r ≡ true) where
      pub set_above : 8 ≤ i → setting 45 K ≡ lent_mark s i M K
      unfolding lent_mark mark_fault
      set_above h = rw (sym e ∙ d, le-ltb i 8 h)

      pub back_above : 8 ≤ i → going 45 M ≡ lent_back s i M K
      unfolding lent_back back_fault
      back_above h = rw (sym e ∙ d, le-ltb i 8 h)

      module _ (h : i < 8) where
        pub set_done : {l : List ℕ} {k : List Memory} → l ≡ set K.set i 1 → k ≡ set K.kept i M → setting 0 (marks l k) ≡ lent_mark s i M K
        unfolding lent_mark mark_fault
        set_done p q = rw (sym e ∙ d, lt-ltb i 8 h, p, q)

        pub back_unset : get_or K.set i 0 ≡ 0 → going 46 M ≡ lent_back s i M K
        unfolding lent_back back_fault
        back_unset z = rw (sym e ∙ d, lt-ltb i 8 h, eq-eqb (get_or K.set i 0) 0 z)

        pub back_done : (get_or K.set i 0 ≡ 0 → ⊥) → {N : Memory} → N ≡ (lent_open s (mark_in K i)).memory → going 0 N ≡ lent_back s i M K
        unfolding lent_back back_fault
        back_done z p = rw (sym e ∙ d, lt-ltb i 8 h, ne_eqb (get_or K.set i 0) 0 z, p)
