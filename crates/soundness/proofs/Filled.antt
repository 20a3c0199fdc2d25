-- A list that is 0 from a place on is its front part filled up with 0.
use Rattle.std.specs.Prelude.{◌↔◌, IsTrue, EachIndex, slice_index}
use mathlib.Core.Path.{◌≡◌, sym, ap, ◌∙◌}
use mathlib.Core.Logic.{inl, inr, ⊎_elim}
use Prim.Native.Nat.{ℕ, ◌+◌, ◌-◌, ◌≤◌, ◌<◌}
use mathlib.Core.List.{List}
use mathlib.Core.Bool.{Bool, true, false}
use native.Mathlib.Decide.{dec_lt}
use native.Mathlib.Omega.{arith}
use lib.Dec.{ltb, eqb}
use lib.ListN.{length, get_or, take, replicate, length-take, length-append, length-replicate, get_or-replicate, get_or-append}
use lib.Seq.{ext_get_or, get_or-take, get_or-append-add, length-take-le}
use borrow.Author.Tests.{lt-ltb, ltb-true, eqb-true, eq-eqb, ne_eqb}
use Rattle.order.specs.Words.{filled, all_below, same_list}
use Rattle.order.proofs.Words.{all_below_exactly, or_exactly, same_list_exactly}
use Rattle.order.proofs.Every.{same_truth, from_on, PassedFrom, from_more, from_fails, from_all}

abbrev pub is_zero : List ℕ → ℕ → Bool
is_zero l i = eqb (get_or l i 0) 0

module _ (l : List ℕ) (used size : ℕ) (s : length l ≡ size) where
  filled_size : length (filled size (take used l)) ≡ size
  filled_size = simp (length-append, length-replicate, length-take) (omega arith)

  filled_front : (i : ℕ) → i < used → i < size → get_or (filled size (take used l)) i 0 ≡ get_or l i 0
  filled_front i h k =
      let m : i < length (take used l) = simp length-take (omega arith) in
      rw (get_or-append (take used l) (replicate (size - length (take used l)) 0) 0 i m, get_or-take used l i 0 h)

  filled_rest : (i : ℕ) → used ≤ i → i < size → get_or (filled size (take used l)) i 0 ≡ 0
  filled_rest i h k =
      let f : length (take used l) ≡ used = length-take-le used l (omega arith) in
      let e : i ≡ length (take used l) + (i - used) = omega arith in
      ap (λ (j : ℕ). get_or (filled size (take used l)) j 0) e
      ∙ get_or-append-add (take used l) (replicate (size - length (take used l)) 0) (i - used) 0
      ∙ get_or-replicate (size - length (take used l)) (i - used) 0 0 (omega arith)

  zero_same : (i : ℕ) → i < size → from_on used (is_zero l) i ≡ true → Dec (i < used) → get_or l i 0 ≡ get_or (filled size (take used l)) i 0
  zero_same i h e (yes k) = sym (filled_front i k h)
  zero_same i h e (no k) =
      let m : i < used → ⊥ = k in
      ⊎_elim (λ q. absurd (m (ltb-true i used q))) (λ q. eqb-true (get_or l i 0) 0 q ∙ sym (filled_rest i (omega (arith, m)) h))
      ((or_exactly (ltb i used) (is_zero l i)).0 e)

  same_zero : (i : ℕ) → i < size → l ≡ filled size (take used l) → Dec (i < used) → from_on used (is_zero l) i ≡ true
  same_zero i h e (yes k) = (or_exactly (ltb i used) (is_zero l i)).1 (inl (lt-ltb i used k))
  same_zero i h e (no k) =
      let m : i < used → ⊥ = k in
      (or_exactly (ltb i used) (is_zero l i)).1 (inr (eq-eqb (get_or l i 0) 0 (ap (λ (k : List ℕ). get_or k i 0) e ∙ filled_rest i (omega (arith, m)) h)))

  rest_right : all_below (from_on used (is_zero l)) size ≡ same_list l (filled size (take used l))
  rest_right =
      same_truth _ _
      (λ e. (same_list_exactly l (filled size (take used l))).1 (ext_get_or 0 l (filled size (take used l)) (s ∙ sym filled_size)
      (λ i h. zero_same i (omega arith) ((all_below_exactly (from_on used (is_zero l)) size).0 e i (omega arith)) (dec_lt i used))))
      (λ e. (all_below_exactly (from_on used (is_zero l)) size).1 (λ i h. same_zero i h ((same_list_exactly l (filled size (take used l))).0 e) (dec_lt i used)))

  -- a loop that looks at each place from `used` on
  module _ (i : ℕ) (p : PassedFrom used (is_zero l) i) where
    pub rest_fails : i < size → (get_or l i 0 ≡ 0 → ⊥) → false ≡ same_list l (filled size (take used l))
    rest_fails h e = from_fails p h (ne_eqb (get_or l i 0) 0 e) ∙ rest_right

    pub rest_pass : size ≤ i → true ≡ same_list l (filled size (take used l))
    rest_pass h = from_all p h ∙ rest_right

pub rest_more : (l : List ℕ) (used i : ℕ) → PassedFrom used (is_zero l) i → get_or l i 0 ≡ 0 → PassedFrom used (is_zero l) (i + 1)
rest_more l used i p e = from_more p (eq-eqb (get_or l i 0) 0 e)

-- nothing of a list, filled up, is all 0
pub none_filled : (size : ℕ) (l : List ℕ) → filled size (take 0 l) ≡ replicate size 0
none_filled size l =
    let e : size - 0 ≡ size = omega arith in
    rw e

-- a test of each element
pub zeros_same : (l : List ℕ) (b : Bool) → length l ≡ 1024 → IsTrue b ↔ EachIndex l (λ k. slice_index l k ≡ 0) → b ≡ same_list l (replicate 1024 0)
zeros_same l b z e =
    same_truth b (same_list l (replicate 1024 0))
    (λ t. (same_list_exactly l (replicate 1024 0)).1 (ext_get_or 0 l (replicate 1024 0) (z ∙ sym (length-replicate {A = ℕ} 1024 0))
    (λ i h. e.0 t i h ∙ sym (get_or-replicate 1024 i 0 0 (omega (arith, z, h))))))
    (λ t.
    let d : l ≡ replicate 1024 0 = (same_list_exactly l (replicate 1024 0)).0 t in
    e.1 (λ i h. ap (λ (k : List ℕ). get_or k i 0) d ∙ get_or-replicate 1024 i 0 0 (omega (arith, z, h))))
