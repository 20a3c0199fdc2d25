-- Reads and writes of the words: a row and each number in it, the workers' threads, the heads.
use mathlib.Core.Path.{◌≡◌, refl, sym, ap, ◌∙◌}
use Prim.Native.Nat.{ℕ, ◌+◌, ◌*◌, ◌≤◌, ◌<◌}
use native.Mathlib.Omega.{arith}
use mathlib.Core.List.{List, []}
use mathlib.Core.Bool.{Bool, true, false}
use lib.ListN.{length, get_or, set}
use lib.Seq.{get_or-set_other}
use lib.Dec.{ltb, eqb}
use borrow.Author.Tests.{ltb-true, ltb-false, lt-ltb, le-ltb, eqb-true, eqb-false}
use Rattle.table.specs.Sum.{pick}
use Rattle.run_memory.specs.Blocks.{part, row_in, Words, words_in}
use Rattle.run_memory.specs.Places.{rowed, threaded, head_at, headed}
use Rattle.run_memory.proofs.Parts.{part_get, part_past, part_set, part_set_past, part_left, part_right, cell_set, three_get, three_past, other_kept}

-- ---- reads

module _ (l : List ℕ) (k t : ℕ) where
  pub row_get : k < 6 → t < 1024 → get_or (row_in l k) t 0 ≡ get_or l (1024 * k + t) 0
  unfolding row_in
  row_get a b = rw (lt-ltb k 6 a) (part_get (1024 * k) 1024 l t 0 b)

  pub row_past : 1024 ≤ t → get_or (row_in l k) t 0 ≡ 0
  unfolding row_in
  row_past b = go (ltb k 6)
    where
      go : (s : Bool) → get_or (pick s (part (1024 * k) 1024 l) []) t 0 ≡ 0
      go true = part_past (1024 * k) 1024 l t 0 b
      go false = refl

  pub row_none : 6 ≤ k → get_or (row_in l k) t 0 ≡ 0
  unfolding row_in
  row_none a = rw (le-ltb k 6 a)

-- ---- writes

module _ (l : List ℕ) (k t x : ℕ) where
  -- of the row itself
  own_row : k < 6 → t < 1024 → row_in (set l (1024 * k + t) x) k ≡ set (row_in l k) t x
  unfolding row_in
  own_row a b = rw (lt-ltb k 6 a) (part_set (1024 * k) 1024 l t x b)

  -- of another
  other_row : (j : ℕ) → t < 1024 → (j ≡ k → ⊥) → row_in (set l (1024 * k + t) x) j ≡ row_in l j
  unfolding row_in
  other_row j b n = ap (λ (p : List ℕ). pick (ltb j 6) p []) (go (ltb j k) refl)
    where
      go : (s : Bool) → ltb j k ≡ s → part (1024 * j) 1024 (set l (1024 * k + t) x) ≡ part (1024 * j) 1024 l
      go true e =
          let h : j < k = ltb-true j k e in
          part_left (1024 * j) 1024 l (1024 * k + t) x (omega arith)
      go false e =
          let h : k ≤ j = ltb-false j k e in
          let m : k < j = omega (arith, n) in
          part_right (1024 * j) 1024 l (1024 * k + t) x (omega arith)

  pub row_set : k < 6 → t < 1024 → words_in (set l (1024 * k + t) x) ≡ rowed k t x (words_in l)
  row_set a b =
      λ i.
      record {
        rows = λ j. rows j (eqb j k) refl i;
        threads = part_right 6144 16 l (1024 * k + t) x (omega arith) i;
        leftmost = get_or-set_other l (1024 * k + t) 6160 x 0 (λ e. omega arith) i;
        first = get_or-set_other l (1024 * k + t) 6161 x 0 (λ e. omega arith) i;
        busy = get_or-set_other l (1024 * k + t) 6162 x 0 (λ e. omega arith) i;
      }
    where
      rows : (j : ℕ) (s : Bool) → eqb j k ≡ s → row_in (set l (1024 * k + t) x) j ≡ pick s (set (row_in l k) t x) (row_in l j)
      rows j true e = rw (eqb-true j k e) (own_row a b)
      rows j false e = other_row j b (eqb-false j k e)

  -- a write that leaves the row as it is
  pub row_same : (W : Words) → set (W.rows k) t x ≡ W.rows k → W ≡ rowed k t x W
  row_same W e = λ i. record { rows = λ j. rows j (eqb j k) refl i; threads = W.threads; leftmost = W.leftmost; first = W.first; busy = W.busy }
    where
      rows : (j : ℕ) (s : Bool) → eqb j k ≡ s → W.rows j ≡ pick s (set (W.rows k) t x) (W.rows j)
      rows j true q = ap W.rows (eqb-true j k q) ∙ sym e
      rows j false q = refl

  past_row : 1024 ≤ t → set (row_in l k) t x ≡ row_in l k
  unfolding row_in
  past_row b = go (ltb k 6)
    where
      go : (s : Bool) → set (pick s (part (1024 * k) 1024 l) []) t x ≡ pick s (part (1024 * k) 1024 l) []
      go true = part_set_past (1024 * k) 1024 l t x b
      go false = refl

  pub row_set_past : 1024 ≤ t → words_in l ≡ rowed k t x (words_in l)
  row_set_past b = row_same (words_in l) (past_row b)

  empty_row : 6 ≤ k → set (row_in l k) t x ≡ row_in l k
  unfolding row_in
  empty_row a = rw (le-ltb k 6 a)

  pub row_set_none : 6 ≤ k → words_in l ≡ rowed k t x (words_in l)
  row_set_none a = row_same (words_in l) (empty_row a)

-- past the rows
rows_kept : (l : List ℕ) (p x : ℕ) → 6144 ≤ p → (j : ℕ) → row_in (set l p x) j ≡ row_in l j
unfolding row_in
rows_kept l p x h j = go (ltb j 6) refl
  where
    go : (s : Bool) → ltb j 6 ≡ s → pick s (part (1024 * j) 1024 (set l p x)) [] ≡ pick s (part (1024 * j) 1024 l) []
    go true e =
        let b : j < 6 = ltb-true j 6 e in
        part_left (1024 * j) 1024 l p x (omega arith)
    go false e = refl

module _ (l : List ℕ) (w x : ℕ) where
  pub thread_set : w < 16 → words_in (set l (6144 + w) x) ≡ threaded w x (words_in l)
  thread_set h =
      λ i.
      record {
        rows = λ j. rows_kept l (6144 + w) x (omega arith) j i;
        threads = part_set 6144 16 l w x h i;
        leftmost = get_or-set_other l (6144 + w) 6160 x 0 (λ e. omega arith) i;
        first = get_or-set_other l (6144 + w) 6161 x 0 (λ e. omega arith) i;
        busy = get_or-set_other l (6144 + w) 6162 x 0 (λ e. omega arith) i;
      }

  pub thread_set_past : 16 ≤ w → words_in l ≡ threaded w x (words_in l)
  thread_set_past h = λ i. record { rows = row_in l; threads = sym (part_set_past 6144 16 l w x h) i; leftmost = get_or l 6160 0; first = get_or l 6161 0; busy = get_or l 6162 0 }

-- ---- the heads

pub head_get : (l : List ℕ) (h : ℕ) → h < 3 → get_or l (6160 + h) 0 ≡ head_at h (words_in l)
head_get l h b = three_get l 6160 h b

pub head_past : (W : Words) (h : ℕ) → 3 ≤ h → 0 ≡ head_at h W
head_past W h b = sym (three_past W.leftmost W.first W.busy h b)

pub head_set : (l : List ℕ) (h x : ℕ) → length l ≡ 6163 → h < 3 → words_in (set l (6160 + h) x) ≡ headed h x (words_in l)
head_set l h x n b =
    λ i.
    record {
      rows = λ j. rows_kept l (6160 + h) x (omega arith) j i;
      threads = part_left 6144 16 l (6160 + h) x (omega arith) i;
      leftmost = cell_set l 6160 0 h x (omega arith) i;
      first = cell_set l 6160 1 h x (omega arith) i;
      busy = cell_set l 6160 2 h x (omega arith) i;
    }

pub head_set_past : (W : Words) (h x : ℕ) → 3 ≤ h → W ≡ headed h x W
head_set_past W h x b =
    λ i.
    record {
      rows = W.rows;
      threads = W.threads;
      leftmost = sym (other_kept x W.leftmost h 0 b (omega arith)) i;
      first = sym (other_kept x W.first h 1 b (omega arith)) i;
      busy = sym (other_kept x W.busy h 2 b (omega arith)) i;
    }
