-- A copy of n numbers to a place of a block: how a loop goes on with it, and what stands in the block afterwards.
use mathlib.Core.Path.{◌≡◌, refl, sym, ap, ◌∙◌}
use mathlib.Core.Logic.{◌⊎◌, inl, inr, ◌≢◌}
use Prim.Native.Nat.{ℕ, zero, suc, ◌+◌, ◌*◌, ◌≤◌, ◌<◌, min}
use native.Mathlib.Nat.{add-zero}
use native.Mathlib.Omega.{arith}
use native.Mathlib.Decide.{dec_lt}
use mathlib.Core.List.{List, [], ◌∷◌, ◌++◌, append_assoc, append-nil}
use mathlib.Core.Bool.{Bool, true, false, ◌&&◌}
use lib.ListN.{length, get_or, set, take, drop, drop_of_length-le}
use lib.Seq.{paste, paste-zero, paste-suc, length-paste, take_at, drop_at, take_all, length-take-le}
use lib.Dec.{ltb, eqb}
use borrow.Author.Tests.{lt-ltb, le-ltb, ltb-true, eqb-true, eqb-false}
use Rattle.table.specs.Sum.{pick}
use Rattle.schedule.specs.declared.Worker.{Worker}
use Rattle.schedule.specs.Machine.{nobody}
use Rattle.run_memory.specs.Blocks.{part, row_in, bytes_in, words_in, numbers_in, sums_in}
use Rattle.run_memory.specs.Places.{of_workers, laid_row, statuses, amounts_are, worker_bytes, worker_words, worker_numbers}
use Rattle.run_memory.proofs.Parts.{part_get, part_right, part_left}

-- ---- a loop that copies s's first n into d from a place on, when i of them are copied

pub record Copying (d : List ℕ) (at : ℕ) (s : List ℕ) (n : ℕ) (e : List ℕ) (i : ℕ) : Type 0 where
  pub room : at + n ≤ length d
  pub enough : n ≤ length s
  pub within : i ≤ n
  pub copied : e ≡ paste d at s i

pub copying_start : (d : List ℕ) (at : ℕ) (s : List ℕ) (n : ℕ) → at + n ≤ length d → n ≤ length s → Copying d at s n d 0
copying_start d at s n a b = record { room = a; enough = b; within = omega arith; copied = paste-zero d at s }

module _ {d : List ℕ} {at : ℕ} {s : List ℕ} {n : ℕ} {e : List ℕ} {i : ℕ} (h : Copying d at s n e i) where
  pub copying_size : length e ≡ length d
  copying_size = rw h.copied (length-paste d at s i (omega (arith, h.room, h.within)) (omega (arith, h.enough, h.within)))

  pub copying_inside : i < n → at + i < length e
  copying_inside b = omega (arith, copying_size, h.room, b)

  pub copying_on : {p x : ℕ} → i < n → p ≡ at + i → x ≡ get_or s i 0 → Copying d at s n (set e p x) (i + 1)
  copying_on {p} {x} b q r =
      let next : suc i ≡ i + 1 = omega arith in
      record {
        room = h.room;
        enough = h.enough;
        within = omega (arith, b);
        copied = rw (h.copied, q, r) (paste-suc d at s i 0 (omega (arith, h.room, b)) (omega (arith, h.enough, b)) ∙ ap (paste d at s) next);
      }

  pub copying_over : n ≤ i → e ≡ paste d at s n
  copying_over b = let q : i ≡ n = omega (arith, b, h.within) in h.copied ∙ ap (paste d at s) q

-- ---- what is copied stands there

-- a copy over all of a list
pub paste_whole : (d s : List ℕ) (n : ℕ) → length d ≡ n → paste d 0 s n ≡ take n s
paste_whole d s n e =
    let q : length d ≤ 0 + n = omega (arith, e) in
    ap (λ (r : List ℕ). take n s ++ r) (drop_of_length-le d q) ∙ append-nil (take n s)

-- all of a list of the same length
pub front_whole : (d s : List ℕ) → length d ≡ length s → paste d 0 s (min (length d) (length s)) ≡ s
front_whole d s e =
    let m : min (length d) (length s) ≡ length d = omega (arith, e) in
    ap (paste d 0 s) m ∙ paste_whole d s (length d) refl ∙ take_all (length d) s (omega (arith, e))

module _ (d : List ℕ) (at : ℕ) (s : List ℕ) where
  pub part_paste : (n : ℕ) → at + n ≤ length d → n ≤ length s → part at n (paste d at s n) ≡ take n s
  unfolding part
  part_paste n a b =
      ap (λ (r : List ℕ). take n (drop at r)) (append_assoc (take at d) (take n s) (drop (at + n) d))
      ∙ ap (take n) (drop_at (take at d) (take n s ++ drop (at + n) d) at (length-take-le at d (omega (arith, a))))
      ∙ take_at (take n s) (drop (at + n) d) n (length-take-le n s b)

  -- a part that ends before the place or begins past the copy
  pub part_apart : (b m n : ℕ) → at + n ≤ length d → n ≤ length s → (b + m ≤ at) ⊎ (at + n ≤ b) → part b m (paste d at s n) ≡ part b m d
  part_apart b m zero a c h = ap (part b m) (sym (paste-zero d at s))
  part_apart b m (suc n) a c h =
      ap (part b m) (sym (paste-suc d at s n 0 (omega (arith, a)) (omega (arith, c)))) ∙ kept h ∙ part_apart b m n (omega (arith, a)) (omega (arith, c)) (shorter h)
    where
      kept : (b + m ≤ at) ⊎ (at + suc n ≤ b) → part b m (set (paste d at s n) (at + n) (get_or s n 0)) ≡ part b m (paste d at s n)
      kept (inl q) = part_left b m (paste d at s n) (at + n) _ (omega (arith, q))
      kept (inr q) = part_right b m (paste d at s n) (at + n) _ (omega (arith, q))

      shorter : (b + m ≤ at) ⊎ (at + suc n ≤ b) → (b + m ≤ at) ⊎ (at + n ≤ b)
      shorter (inl q) = inl q
      shorter (inr q) = inr (omega (arith, q))

  -- and one number
  pub cell_apart : (j n : ℕ) → at + n ≤ length d → n ≤ length s → (j + 1 ≤ at) ⊎ (at + n ≤ j) → get_or (paste d at s n) j 0 ≡ get_or d j 0
  cell_apart j n a b h = sym (alone (paste d at s n)) ∙ ap (λ (l : List ℕ). get_or l 0 0) (part_apart j 1 n a b h) ∙ alone d
    where
      alone : (l : List ℕ) → get_or (part j 1 l) 0 0 ≡ get_or l j 0
      alone l = part_get j 1 l 0 0 (omega arith) ∙ ap (λ (p : ℕ). get_or l p 0) (add-zero j)

-- ---- the blocks after a copy

module _ (w s : List ℕ) (k : ℕ) (b : k < 6) (z : length w ≡ 6163) (y : length s ≡ 1024) where
  row_same : row_in (paste w (1024 * k) s 1024) k ≡ s
  unfolding row_in
  row_same = rw (lt-ltb k 6 b) (part_paste w (1024 * k) s 1024 (omega (arith, b, z)) (omega (arith, y)) ∙ take_all 1024 s (omega (arith, y)))

  row_other : (j : ℕ) → j ≢ k → row_in (paste w (1024 * k) s 1024) j ≡ row_in w j
  unfolding row_in
  row_other j d = ap (λ (l : List ℕ). pick (ltb j 6) l []) (part_apart w (1024 * k) s (1024 * j) 1024 1024 (omega (arith, b, z)) (omega (arith, y)) (sides (dec_lt j k)))
    where
      sides : Dec (j < k) → (1024 * j + 1024 ≤ 1024 * k) ⊎ (1024 * k + 1024 ≤ 1024 * j)
      sides (yes q) = inl (omega (arith, q))
      sides (no q) = inr (omega (arith, q, d))

  rows_laid_lem : (j : ℕ) (t : Bool) → eqb j k ≡ t → row_in (paste w (1024 * k) s 1024) j ≡ pick t s (row_in w j)
  rows_laid_lem j true e = rw (eqb-true j k e) row_same
  rows_laid_lem j false e = row_other j (eqb-false j k e)

  rows_all : (j : ℕ) → row_in (paste w (1024 * k) s 1024) j ≡ pick (ltb k 6 && eqb j k) s (row_in w j)
  rows_all j = rw (lt-ltb k 6 b) (rows_laid_lem j (eqb j k) refl)

  cell_past : (j : ℕ) → 6144 ≤ j → get_or (paste w (1024 * k) s 1024) j 0 ≡ get_or w j 0
  cell_past j q = cell_apart w (1024 * k) s j 1024 (omega (arith, b, z)) (omega (arith, y)) (inr (omega (arith, b, q)))

  pub row_laid : words_in (paste w (1024 * k) s 1024) ≡ laid_row k s (words_in w)
  row_laid =
      let threads : part 6144 16 (paste w (1024 * k) s 1024) ≡ part 6144 16 w =
      part_apart w (1024 * k) s 6144 16 1024 (omega (arith, b, z)) (omega (arith, y)) (inr (omega (arith, b))) in
      λ i. record {
        rows = λ j. rows_all j i;
        threads = threads i;
        leftmost = cell_past 6160 (omega arith) i;
        first = cell_past 6161 (omega arith) i;
        busy = cell_past 6162 (omega arith) i;
      }

-- there is no such row
pub row_none : (w s : List ℕ) (k : ℕ) → 6 ≤ k → words_in w ≡ laid_row k s (words_in w)
row_none w s k b = rw (le-ltb k 6 b)

module _ (d s : List ℕ) (y : length s ≡ 1024) where
  front : 1024 ≤ length d → part 0 1024 (paste d 0 s 1024) ≡ s
  front a = part_paste d 0 s 1024 (omega (arith, a)) (omega (arith, y)) ∙ take_all 1024 s (omega (arith, y))

  pub statuses_laid : length d ≡ 1040 → bytes_in (paste d 0 s 1024) ≡ statuses s (bytes_in d)
  statuses_laid z =
      let holds : part 1024 16 (paste d 0 s 1024) ≡ part 1024 16 d = part_apart d 0 s 1024 16 1024 (omega (arith, z)) (omega (arith, y)) (inr (omega arith)) in
      λ i. record { status = front (omega (arith, z)) i; holds = holds i }

  pub amounts_laid : length d ≡ 1027 → sums_in (paste d 0 s 1024) ≡ amounts_are s (sums_in d)
  amounts_laid z =
      let past : (j : ℕ) → 1024 ≤ j → get_or (paste d 0 s 1024) j 0 ≡ get_or d j 0 = λ j q. cell_apart d 0 s j 1024 (omega (arith, z)) (omega (arith, y)) (inr (omega (arith, q))) in
      λ i. record { amounts = front (omega (arith, z)) i; held = past 1024 (omega arith) i; highest = past 1025 (omega arith) i; turns = past 1026 (omega arith) i }

-- ---- and rows out of them

pub row_out : (d w : List ℕ) (k : ℕ) → k < 6 → length d ≡ 1024 → paste d 0 (drop (1024 * k) w) 1024 ≡ pick (ltb k 6) (row_in w k) d
unfolding row_in part
row_out d w k b z = paste_whole d (drop (1024 * k) w) 1024 z ∙ rw (lt-ltb k 6 b)

pub front_out : (d s : List ℕ) → length d ≡ 1024 → paste d 0 s 1024 ≡ part 0 1024 s
unfolding part
front_out d s z = paste_whole d s 1024 z

-- ---- of each worker one number

module _ (f : Worker → ℕ) where
  pub of_workers_length : (l : List Worker) → length (of_workers f l) ≡ length l
  unfolding of_workers
  of_workers_length [] = refl
  of_workers_length (x ∷ l) = ap suc (of_workers_length l)

  pub of_workers_get : (l : List Worker) (w : ℕ) → w < length l → get_or (of_workers f l) w 0 ≡ f (get_or l w nobody)
  unfolding of_workers
  of_workers_get [] w h = absurd (omega (arith, h))
  of_workers_get (x ∷ l) zero h = refl
  of_workers_get (x ∷ l) (suc w) h = of_workers_get l w (omega (arith, h))

  pub of_workers_part : (l : List Worker) (d : List ℕ) (at : ℕ) → length l ≡ 16 → at + 16 ≤ length d → part at 16 (paste d at (of_workers f l) 16) ≡ of_workers f l
  of_workers_part l d at z a =
      let y : length (of_workers f l) ≡ 16 = of_workers_length l ∙ z in
      part_paste d at (of_workers f l) 16 a (omega (arith, y)) ∙ take_all 16 (of_workers f l) (omega (arith, y))

  pub of_workers_enough : (l : List Worker) → length l ≡ 16 → 16 ≤ length (of_workers f l)
  of_workers_enough l z = let y : length (of_workers f l) ≡ 16 = of_workers_length l ∙ z in omega (arith, y)

-- the workers' records in the three blocks
module _ (l : List Worker) (z : length l ≡ 16) (d : List ℕ) where
  pub worker_bytes_laid : length d ≡ 1040 → bytes_in (paste d 1024 (of_workers (λ x. pick x.holds 1 0) l) 16) ≡ worker_bytes l (bytes_in d)
  worker_bytes_laid y =
      let s : List ℕ = of_workers (λ x. pick x.holds 1 0) l in
      let status : part 0 1024 (paste d 1024 s 16) ≡ part 0 1024 d = part_apart d 1024 s 0 1024 16 (omega (arith, y)) (of_workers_enough _ l z) (inl (omega arith)) in
      λ i. record { status = status i; holds = of_workers_part (λ x. pick x.holds 1 0) l d 1024 z (omega (arith, y)) i }

  rows_kept : (j : ℕ) → length d ≡ 6163 → row_in (paste d 6144 (of_workers (λ x. x.thread) l) 16) j ≡ row_in d j
  unfolding row_in
  rows_kept j y = go (ltb j 6) refl
    where
      go : (t : Bool) → ltb j 6 ≡ t → pick t (part (1024 * j) 1024 (paste d 6144 (of_workers (λ x. x.thread) l) 16)) [] ≡ pick t (part (1024 * j) 1024 d) []
      go true e = part_apart d 6144 (of_workers (λ x. x.thread) l) (1024 * j) 1024 16 (omega (arith, y)) (of_workers_enough _ l z) (inl (omega (arith, ltb-true j 6 e)))
      go false e = refl

  pub worker_words_laid : length d ≡ 6163 → words_in (paste d 6144 (of_workers (λ x. x.thread) l) 16) ≡ worker_words l (words_in d)
  worker_words_laid y =
      let past : (j : ℕ) → 6160 ≤ j → get_or (paste d 6144 (of_workers (λ x. x.thread) l) 16) j 0 ≡ get_or d j 0 =
      λ j q. cell_apart d 6144 (of_workers (λ x. x.thread) l) j 16 (omega (arith, y)) (of_workers_enough _ l z) (inr (omega (arith, q))) in
      λ i. record {
        rows = λ j. rows_kept j y i;
        threads = of_workers_part (λ x. x.thread) l d 6144 z (omega (arith, y)) i;
        leftmost = past 6160 (omega arith) i;
        first = past 6161 (omega arith) i;
        busy = past 6162 (omega arith) i;
      }

  pub worker_numbers_laid : length d ≡ 18 → numbers_in (paste d 2 (of_workers (λ x. x.quota) l) 16) ≡ worker_numbers l (numbers_in d)
  worker_numbers_laid y =
      let before : (j : ℕ) → j < 2 → get_or (paste d 2 (of_workers (λ x. x.quota) l) 16) j 0 ≡ get_or d j 0 =
      λ j q. cell_apart d 2 (of_workers (λ x. x.quota) l) j 16 (omega (arith, y)) (of_workers_enough _ l z) (inl (omega (arith, q))) in
      λ i. record { workers = before 0 (omega arith) i; quota = before 1 (omega arith) i; quotas = of_workers_part (λ x. x.quota) l d 2 z (omega (arith, y)) i }
