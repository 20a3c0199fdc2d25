-- What a beginning in lent memory leaves: more workers than there may be are refused as 17 are; the memory of each case; and when there is room.
use Rattle.std.specs.Prelude.{Err, Ok, Result, ⊤}
use mathlib.Core.Path.{◌≡◌, refl, sym, ap, ◌∙◌}
use Prim.Native.Nat.{ℕ, min, ◌≤◌, ◌<◌}
use native.Mathlib.Decide.{dec_lt}
use native.Mathlib.Nat.{min-eq_left, min-eq_right}
use native.Mathlib.Omega.{arith}
use mathlib.Core.Logic.{by_cases}
use mathlib.Core.List.{List, [], ◌∷◌}
use mathlib.Core.Bool.{Bool, true, false, ◌&&◌}
use borrow.Author.Tests.{lt-ltb, le-ltb, le-leb, lt-leb}
use lib.ListN.{replicate, set}
use lib.Dec.{leb}
use Rattle.table.specs.Format.{table_of}
use Rattle.table.specs.Pass.{refusal, first_found, try_at, try_from, try_pass}
use Rattle.table.specs.Checks.{passes}
use Rattle.table.specs.declared.Refusal.{Refusal}
use Rattle.table.proofs.Passes.{first_found_append}
use Rattle.table.proofs.Tests.{no_way}
use Rattle.schedule.specs.Machine.{ready}
use Rattle.schedule.specs.Links.{no_thread}
use Rattle.schedule.specs.Begin.{setting_passes, begin_passes}
use Rattle.filling.specs.Filled.{filled_out, fill_pass}
use Rattle.filling.specs.Filling.{answer_as}
use Rattle.order.specs.Words.{is_nothing}
use Rattle.soundness.specs.Tested.{Filling, parents_if, next_if, begin_found, begin_filling, begin_answer, begins, begun_into}
use Rattle.array_machine.specs.Arrays.{arrays}
use Rattle.run_memory.specs.Memory.{memory, answer}
use Rattle.wivakkol.specs.Lent.{blank_memory, no_room, lent_begin}

module _ (s : List ℕ) (K : ℕ) where
  pub too_many : (p : ℕ) → 17 ≤ p → first_found (setting_passes p K) ≡ Err (refusal 20 0)
  unfolding first_found try_pass try_from try_at
  too_many p h = rw (le-ltb p 1 (omega arith), lt-ltb 16 p (omega arith))

  too_many_begun : (p : ℕ) → 17 ≤ p → first_found (begin_passes (table_of s) p K) ≡ Err (refusal 20 0)
  too_many_begun p h = rw (first_found_append (setting_passes p K) (fill_pass (table_of s) K ∷ []), too_many p h)

  as_17 : (p : ℕ) → 17 ≤ p → begin_found s 17 K ≡ begin_found s p K
  as_17 p h =
      rw (first_found_append (passes s) (begin_passes (table_of s) p K), first_found_append (passes s) (begin_passes (table_of s) 17 K), too_many_begun p h, too_many_begun 17 (omega arith))

  -- what the call hands on in place of p
  as_handed : (p : ℕ) → begin_found s (min p 17) K ≡ begin_found s p K
  as_handed p =
      by_cases (dec_lt p 17)
      (λ (h : p < 17). let e : min p 17 ≡ p = min-eq_left (omega arith) in ap (λ (w : ℕ). begin_found s w K) e)
      (λ (h : p < 17 → ⊥). let l : 17 ≤ p = omega arith in rw (min-eq_right l) (as_17 p l))

-- what `put_nobody` leaves
abbrev Cleared : List ℕ → List ℕ → List ℕ → List ℕ → List ℕ → Type 0
Cleared holds threads quotas heads totals =
    ((holds ≡ replicate 16 0) × (threads ≡ replicate 16 0) × (quotas ≡ replicate 16 0)) × ((heads ≡ 0 ∷ 0 ∷ 0 ∷ []) × (totals ≡ 0 ∷ 0 ∷ 0 ∷ []))

-- what `put_links` leaves
abbrev Linked : ℕ → List ℕ → List ℕ → List ℕ → List ℕ → Type 0
Linked x left right under over = ((left ≡ replicate 1024 x) × (right ≡ replicate 1024 x)) × ((under ≡ replicate 1024 x) × (over ≡ replicate 1024 x))

module _ (s : List ℕ) (p K : ℕ) {w : ℕ} (h : w ≡ min p 17) where
  handed : begin_found s w K ≡ begin_found s p K
  handed = ap (λ (v : ℕ). begin_found s v K) h ∙ as_handed s K p

  handed_filling : begin_filling s w K ≡ begin_filling s p K
  unfolding begin_filling
  handed_filling = rw handed

  pub handed_into : (out : List ℕ) → begun_into s w K out ≡ begun_into s p K out
  handed_into out = rw handed

  module _ (room : ℕ) {r : Result ℕ Refusal} (d : r ≡ begin_answer s w K) where
    abbrev f : Filling
    f = begin_filling s p K

    answer_is : r ≡ answer_as f.found f.bytes
    answer_is = d ∙ ap (λ (x : Filling). answer_as x.found x.bytes) handed_filling

    failed : {x : Refusal} → r ≡ Err x → f.found ≡ Err x
    failed {x} e = go f.found (sym e ∙ answer_is)
      where
        go : (y : Result ⊤ Refusal) → Err x ≡ answer_as y f.bytes → y ≡ Err x
        go (Ok _) q = no_way (cc (q))
        go (Err z) q = cc (q)

    passed : {k : ℕ} → r ≡ Ok k → (f.found ≡ Ok tt) × (k ≡ f.bytes)
    passed {k} e = go f.found (sym e ∙ answer_is)
      where
        go : (y : Result ⊤ Refusal) → Ok k ≡ answer_as y f.bytes → (y ≡ Ok tt) × (k ≡ f.bytes)
        go (Ok _) q = (refl, cc (q))
        go (Err z) q = no_way (cc (q))

    found_is : f.found ≡ begin_found s p K
    unfolding begin_filling
    found_is = refl

    begins_is : begins s w K room ≡ is_nothing f.found && leb f.bytes room
    begins_is = rw (handed, handed_filling, found_is)

    module _ {next parents holds threads quotas heads totals : List ℕ}
        (n : next ≡ next_if (begins s w K room) (table_of (filled_out s K))) (q : parents ≡ parents_if (begins s w K room) (table_of (filled_out s K))) (z : Cleared holds threads quotas heads totals) where
      -- the memory of a refused beginning
      nothing_there : {number : ℕ} {row left right under over : List ℕ} → begins s w K room ≡ false → Linked 0 left right under over
          → answer number row (memory (0 ∷ 0 ∷ []) parents (arrays next (replicate 1024 0) (replicate 1024 0) left right under over) holds threads quotas heads totals) ≡ answer number row blank_memory
      nothing_there {number} {row} b l =
          let n' : next ≡ replicate 1024 0 = n ∙ ap (λ (x : Bool). next_if x (table_of (filled_out s K))) b in
          let q' : parents ≡ replicate 1024 0 = q ∙ ap (λ (x : Bool). parents_if x (table_of (filled_out s K))) b in
          λ i. answer number row (memory (0 ∷ 0 ∷ []) (q' i) (arrays (n' i) (replicate 1024 0) (replicate 1024 0) (l.0.0 i) (l.0.1 i) (l.1.0 i) (l.1.1 i))
          (z.0.0 i) (z.0.1 i) (z.0.2 i) (z.1.0 i) (z.1.1 i))

      pub refuses : {x : Refusal} {left right under over : List ℕ} → r ≡ Err x → Linked 0 left right under over
          → answer x.number (x.place ∷ 0 ∷ []) (memory (0 ∷ 0 ∷ []) parents (arrays next (replicate 1024 0) (replicate 1024 0) left right under over) holds threads quotas heads totals)
          ≡ lent_begin s p K room
      unfolding lent_begin
      refuses {x} e l =
          let g : f.found ≡ Err x = failed e in
          nothing_there (begins_is ∙ rw g) l ∙ rw g

      pub lacks : {k : ℕ} {left right under over : List ℕ} → r ≡ Ok k → room < k → Linked 0 left right under over
          → answer no_room (0 ∷ k ∷ []) (memory (0 ∷ 0 ∷ []) parents (arrays next (replicate 1024 0) (replicate 1024 0) left right under over) holds threads quotas heads totals)
          ≡ lent_begin s p K room
      unfolding lent_begin
      lacks {k} e m l =
          let g = passed e in
          let h : room < f.bytes = omega (arith, g.1, m) in
          nothing_there (begins_is ∙ rw (g.0, lt-leb f.bytes room h)) l ∙ rw (g.0, lt-ltb room f.bytes h, g.1)

      pub starts : {k : ℕ} {left right under over : List ℕ} → r ≡ Ok k → k ≤ room → Linked no_thread left right under over
          → answer 0 (0 ∷ k ∷ []) (memory (p ∷ K ∷ []) parents (arrays next (set (replicate 1024 0) 0 ready) (replicate 1024 0) left right under over) holds threads quotas heads totals)
          ≡ lent_begin s p K room
      unfolding lent_begin
      starts {k} e m l =
          let g = passed e in
          let h : f.bytes ≤ room = omega (arith, g.1, m) in
          let b : begins s w K room ≡ true = begins_is ∙ rw (g.0, le-leb f.bytes room h) in
          let n' = n ∙ ap (λ (x : Bool). next_if x (table_of (filled_out s K))) b in
          let q' = q ∙ ap (λ (x : Bool). parents_if x (table_of (filled_out s K))) b in
          (λ i. answer 0 (0 ∷ k ∷ []) (memory (p ∷ K ∷ []) (q' i) (arrays (n' i) (set (replicate 1024 0) 0 ready) (replicate 1024 0) (l.0.0 i) (l.0.1 i) (l.1.0 i) (l.1.1 i))
          (z.0.0 i) (z.0.1 i) (z.0.2 i) (z.1.0 i) (z.1.1 i)))
          ∙ rw (g.0, le-ltb room f.bytes h, g.1)
