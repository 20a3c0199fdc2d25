-- The stretches of a block, one for each mark: a copy into the i-th leaves the others as they were, and one out of it is that stretch.
use mathlib.Core.Path.{◌≡◌, refl, ap, ◌∙◌}
use mathlib.Core.Logic.{◌⊎◌, inl, inr, ◌≢◌}
use Prim.Native.Nat.{ℕ, zero, suc, ◌+◌, ◌-◌, ◌*◌, ◌≤◌, ◌<◌}
use native.Mathlib.Nat.{mul-suc, mul-le-mul_left}
use native.Mathlib.Omega.{arith}
use native.Mathlib.Decide.{dec_lt}
use mathlib.Core.List.{List, ◌∷◌}
use mathlib.Core.Bool.{Bool, true, false}
use lib.ListN.{length, get_or, set, take, drop}
use lib.Seq.{paste, take_all}
use lib.Dec.{eqb}
use borrow.Author.Tests.{eqb-true, eqb-false, eq-eqb, ne_eqb}
use Rattle.table.specs.Sum.{pick}
use Rattle.schedule.specs.declared.Worker.{Worker}
use Rattle.run_memory.specs.Memory.{Memory}
use Rattle.run_memory.specs.Blocks.{part, Bytes, Words, Numbers, Sums, gathered, memory_of}
use Rattle.run_memory.specs.Places.{worker_bytes, worker_words, worker_numbers}
use Rattle.run_memory.specs.Stands.{workers_from}
use Rattle.run_memory.proofs.Copied.{part_paste, part_apart}
use Rattle.std.specs.List.{between}
use Rattle.wivakkol_marks.specs.LentMarks.{memory_at, row_from, mended}

-- a stretch of n ends where the next begins, or before
pub stretch_end : (n : ℕ) {i j : ℕ} → i < j → n * i + n ≤ n * j
stretch_end n {i} {j} h = rw (← (mul-suc n i)) (mul-le-mul_left n h)

-- out of the i-th
pub stretch_out : (n i : ℕ) (l : List ℕ) → between (n * i) (n * i + n) l ≡ part (n * i) n l
unfolding part
stretch_out n i l = let e : n * i + n - n * i ≡ n = omega arith in ap (λ (k : ℕ). take k (drop (n * i) l)) e

-- into the i-th of eight
module _ (n i : ℕ) (l x : List ℕ) (h : i < 8) (z : n * 8 ≤ length l) (y : length x ≡ n) where
  room : n * i + n ≤ length l
  room = omega (arith, stretch_end n h, z)

  enough : n ≤ length x
  enough = omega (arith, y)

  stretch_other : (j : ℕ) → j ≢ i → part (n * j) n (paste l (n * i) x n) ≡ part (n * j) n l
  stretch_other j d = part_apart l (n * i) x (n * j) n n room enough (sides (dec_lt j i))
    where
      sides : Dec (j < i) → (n * j + n ≤ n * i) ⊎ (n * i + n ≤ n * j)
      sides (yes q) = inl (stretch_end n q)
      sides (no q) = inr (stretch_end n (omega (arith, q, d)))

  pub stretch_in : (j : ℕ) → part (n * j) n (paste l (n * i) x n) ≡ pick (eqb j i) x (part (n * j) n l)
  stretch_in j = go (eqb j i) refl
    where
      go : (t : Bool) → eqb j i ≡ t → part (n * j) n (paste l (n * i) x n) ≡ pick t x (part (n * j) n l)
      go true e = rw (eqb-true j i e) (part_paste l (n * i) x n room enough ∙ take_all n x (omega (arith, y)))
      go false e = stretch_other j (eqb-false j i e)

-- ---- a row, one of its values anew

module _ {A : Type 0} where
  row_same : (f g : ℕ → A) (k n : ℕ) → ((j : ℕ) → k ≤ j → g j ≡ f j) → row_from g k n ≡ row_from f k n
  unfolding row_from
  row_same f g k zero h = refl
  row_same f g k (suc n) h =
      let e : g k ≡ f k = h k (omega arith) in
      let r : row_from g (suc k) n ≡ row_from f (suc k) n = row_same f g (suc k) n (λ j l. h j (omega (arith, l))) in
      λ i. e i ∷ r i

  pub row_set : (f g : ℕ → A) (x : A) (k n d : ℕ) → ((j : ℕ) → g j ≡ pick (eqb j (k + d)) x (f j)) → row_from g k n ≡ set (row_from f k n) d x
  unfolding row_from
  row_set f g x k zero d h = refl
  row_set f g x k (suc n) zero h =
      let e : g k ≡ x = h k ∙ rw (eq-eqb k (k + 0) (omega arith)) in
      let r : row_from g (suc k) n ≡ row_from f (suc k) n = row_same f g (suc k) n (λ j l. h j ∙ rw (ne_eqb j (k + 0) (λ q. omega (arith, q, l)))) in
      λ i. e i ∷ r i
  row_set f g x k (suc n) (suc d) h =
      let e : g k ≡ f k = h k ∙ rw (ne_eqb k (k + suc d) (λ q. omega (arith, q))) in
      let p : k + suc d ≡ suc k + d = omega arith in
      let r : row_from g (suc k) n ≡ set (row_from f (suc k) n) d x = row_set f g x (suc k) n d (λ j. h j ∙ ap (λ (m : ℕ). pick (eqb j m) x (f j)) p) in
      λ i. e i ∷ r i

  pub row_at : (f : ℕ → A) (d : A) (k n i : ℕ) → i < n → get_or (row_from f k n) i d ≡ f (k + i)
  unfolding row_from
  row_at f d k zero i h = absurd (omega (arith, h))
  row_at f d k (suc n) zero h = let e : k ≡ k + 0 = omega arith in ap f e
  row_at f d k (suc n) (suc i) h = let e : suc k + i ≡ k + suc i = omega arith in row_at f d (suc k) n i (omega (arith, h)) ∙ ap f e

  -- from 0 on
  pub row_here : (f : ℕ → A) (d : A) (n i : ℕ) → i < n → get_or (row_from f 0 n) i d ≡ f i
  row_here f d n i h = let e : 0 + i ≡ i = omega arith in row_at f d 0 n i h ∙ ap f e

module _ (i : ℕ) (h : i < 8) (bytes words numbers sums b w n s : List ℕ) (yb : length bytes ≡ 1040) (yw : length words ≡ 6163) (yn : length numbers ≡ 18) (ys : length sums ≡ 1027)
    (zb : length b ≡ 8320) (zw : length w ≡ 49304) (zn : length n ≡ 144) (zs : length s ≡ 8216) where
  abbrev after : ℕ → Memory
  after = memory_at (paste b (1040 * i) bytes 1040) (paste w (6163 * i) words 6163) (paste n (18 * i) numbers 18) (paste s (1027 * i) sums 1027)

  at : (j : ℕ) → after j ≡ pick (eqb j i) (memory_of bytes words numbers sums) (memory_at b w n s j)
  at j =
      let eb = stretch_in 1040 i b bytes h (omega (arith, zb)) yb j in
      let ew = stretch_in 6163 i w words h (omega (arith, zw)) yw j in
      let en = stretch_in 18 i n numbers h (omega (arith, zn)) yn j in
      let es = stretch_in 1027 i s sums h (omega (arith, zs)) ys j in
      (λ k. memory_of (eb k) (ew k) (en k) (es k)) ∙ go (eqb j i)
    where
      go : (t : Bool)
          → memory_of (pick t bytes (part (1040 * j) 1040 b)) (pick t words (part (6163 * j) 6163 w)) (pick t numbers (part (18 * j) 18 n)) (pick t sums (part (1027 * j) 1027 s))
          ≡ pick t (memory_of bytes words numbers sums) (memory_at b w n s j)
      go true = refl
      go false = refl

  pub stored_in : row_from after 0 8 ≡ set (row_from (memory_at b w n s) 0 8) i (memory_of bytes words numbers sums)
  stored_in =
      let z : i ≡ 0 + i = omega arith in
      row_set (memory_at b w n s) after (memory_of bytes words numbers sums) 0 8 i
      (λ j. at j ∙ ap (λ (m : ℕ). pick (eqb j m) (memory_of bytes words numbers sums) (memory_at b w n s j)) z)

  pub stores : {b' w' n' s' : List ℕ} → b' ≡ paste b (1040 * i) bytes 1040 → w' ≡ paste w (6163 * i) words 6163 → n' ≡ paste n (18 * i) numbers 18
      → s' ≡ paste s (1027 * i) sums 1027 → row_from (memory_at b' w' n' s') 0 8 ≡ set (row_from (memory_at b w n s) 0 8) i (memory_of bytes words numbers sums)
  stores eb ew en es = (λ k. row_from (memory_at (eb k) (ew k) (en k) (es k)) 0 8) ∙ stored_in

pub loads : (i : ℕ) (b w n s : List ℕ) {b' w' n' s' : List ℕ} → b' ≡ part (1040 * i) 1040 b → w' ≡ part (6163 * i) 6163 w → n' ≡ part (18 * i) 18 n → s' ≡ part (1027 * i) 1027 s → {M : Memory}
    → M ≡ mended (memory_of b' w' n' s') → M ≡ mended (memory_at b w n s i)
loads i b w n s eb ew en es e = e ∙ (λ k. mended (memory_of (eb k) (ew k) (en k) (es k)))

-- ---- the workers' records, written anew

pub mends : (B : Bytes) (W : Words) (N : Numbers) (S : Sums) {ws : List Worker} {B' : Bytes} {W' : Words} {N' : Numbers} → ws ≡ workers_from B.holds W.threads N.quotas 0 16
    → B' ≡ worker_bytes ws B → W' ≡ worker_words ws W → N' ≡ worker_numbers ws N → gathered B' W' N' S ≡ mended (gathered B W N S)
mends B W N S {ws} e b w n =
    (λ i. gathered (b i) (w i) (n i) S) ∙ ap (λ (l : List Worker). gathered (worker_bytes l B) (worker_words l W) (worker_numbers l N) S) e
