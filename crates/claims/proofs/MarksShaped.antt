-- Marks whose rows have the lengths of the parts stand in four blocks, those of each mark one after the other, as a run does (Shaped).
use mathlib.Core.Path.{◌≡◌, refl, sym, ap, ap₂, subst, ◌∙◌}
use Prim.Native.Nat.{ℕ, zero, suc, ◌+◌, ◌*◌, ◌<◌}
use native.Mathlib.Omega.{arith}
use mathlib.Core.List.{List, [], ◌∷◌, ◌++◌}
use lib.ListN.{length, get_or, take, drop, replicate, length-append}
use lib.Seq.{drop-append-add, take_at}
use Rattle.run_memory.specs.Memory.{Memory}
use Rattle.run_memory.specs.Blocks.{part, memory_of}
use Rattle.wivakkol.specs.Lent.{blank_memory}
use Rattle.wivakkol_marks.specs.LentMarks.{Marks, marks, memory_at, row_from, marks_of}
use Rattle.wivakkol_marks.proofs.MarkRefines.{kept_size}
use Rattle.claims.proofs.Shaped.{Shaped, byte_block, words_of, numbers_of, sums_of, in_blocks_lem, blocks_shaped}
use Rattle.run_memory.proofs.Parts.{part_length}

pub record MarksShaped (K : Marks) : Type 0 where
  pub flags : length K.set ≡ 8
  pub kept : length K.kept ≡ 8
  pub each : (j : ℕ) → j < 8 → Shaped (get_or K.kept j blank_memory)

-- a row of each memory, one after the other
unfoldable pub flat : (Memory → List ℕ) → List Memory → List ℕ
flat f [] = []
flat f (M ∷ l) = f M ++ flat f l

flat_part : (f : Memory → List ℕ) (n : ℕ) (l : List Memory) → ((j : ℕ) → j < length l → length (f (get_or l j blank_memory)) ≡ n)
    → (i : ℕ) → i < length l → part (n * i) n (flat f l) ≡ f (get_or l i blank_memory)
unfolding flat part
flat_part f n [] h i w = absurd (omega (arith, w))
flat_part f n (M ∷ l) h zero w =
    let z : n * 0 ≡ 0 = omega arith in
    ap (λ (k : ℕ). take n (drop k (f M ++ flat f l))) z ∙ take_at (f M) (flat f l) n (h 0 (omega arith))
flat_part f n (M ∷ l) h (suc i) w =
    let e : length (f M) ≡ n = h 0 (omega arith) in
    let z : n * suc i ≡ length (f M) + n * i = omega arith in
    ap (λ (k : ℕ). take n (drop k (f M ++ flat f l))) z ∙ ap (take n) (drop-append-add (f M) (flat f l) (n * i))
    ∙ flat_part f n l (λ j b. h (suc j) (omega (arith, b))) i (omega (arith, w))

row_back : (f : ℕ → Memory) (l : List Memory) (i : ℕ) → ((j : ℕ) → j < length l → f (i + j) ≡ get_or l j blank_memory) → row_from f i (length l) ≡ l
unfolding row_from
row_back f [] i h = refl
row_back f (M ∷ l) i h =
    let z : i + 0 ≡ i = omega arith in
    ap₂ ◌∷◌ (ap f (sym z) ∙ h 0 (omega arith)) (row_back f l (suc i) (λ j b. let y : suc i + j ≡ i + suc j = omega arith in ap f y ∙ h (suc j) (omega (arith, b))))

module _ (M : Memory) (h : Shaped M) where
  bytes_size : length (byte_block M) ≡ 1040
  bytes_size = omega (arith, length-append M.arrays.status M.holds, h.arrays.status, h.holds)

  words_size : length (words_of M) ≡ 6163
  words_size = simp length-append (omega (arith, h.parents, h.arrays.next, h.arrays.left, h.arrays.right, h.arrays.under, h.arrays.over, h.threads, h.heads))

  numbers_size : length (numbers_of M) ≡ 18
  numbers_size = omega (arith, length-append M.settings M.quotas, h.settings, h.quotas)

  sums_size : length (sums_of M) ≡ 1027
  sums_size = omega (arith, length-append M.arrays.amounts M.totals, h.arrays.amounts, h.totals)

abbrev pub in_blocks : Marks → Marks
in_blocks K = marks_of K.set (flat byte_block K.kept) (flat words_of K.kept) (flat numbers_of K.kept) (flat sums_of K.kept)

pub marks_in_blocks : (K : Marks) → MarksShaped K → in_blocks K ≡ K
marks_in_blocks K h =
    ap (λ (n : ℕ). marks K.set (row_from (memory_at (flat byte_block l) (flat words_of l) (flat numbers_of l) (flat sums_of l)) 0 n)) (sym h.kept)
    ∙ ap (marks K.set) (row_back (memory_at (flat byte_block l) (flat words_of l) (flat numbers_of l) (flat sums_of l)) l 0 here)
  where
    l : List Memory
    l = K.kept

    shaped : (j : ℕ) → j < length l → Shaped (get_or l j blank_memory)
    shaped j b = h.each j (omega (arith, b, h.kept))

    here : (j : ℕ) → j < length l → memory_at (flat byte_block l) (flat words_of l) (flat numbers_of l) (flat sums_of l) (0 + j) ≡ get_or l j blank_memory
    here j b =
        let z : 0 + j ≡ j = omega arith in
        ap (memory_at (flat byte_block l) (flat words_of l) (flat numbers_of l) (flat sums_of l)) z
        ∙ (λ e. memory_of (flat_part byte_block 1040 l (λ k c. bytes_size (get_or l k blank_memory) (shaped k c)) j b e) (flat_part words_of 6163 l (λ k c. words_size (get_or l k blank_memory) (shaped k c)) j b e)
        (flat_part numbers_of 18 l (λ k c. numbers_size (get_or l k blank_memory) (shaped k c)) j b e) (flat_part sums_of 1027 l (λ k c. sums_size (get_or l k blank_memory) (shaped k c)) j b e))
        ∙ in_blocks_lem (get_or l j blank_memory) (shaped j b)

-- ---- and marks that stand in blocks of their sizes have such rows, whatever the blocks hold, once they are cleared

row_at : (f : ℕ → Memory) (n k i : ℕ) → i < n → get_or (row_from f k n) i blank_memory ≡ f (k + i)
unfolding row_from
row_at f zero k i h = absurd (omega arith)
row_at f (suc n) k zero h = let z : k ≡ k + 0 = omega arith in ap f z
row_at f (suc n) k (suc i) h = let z : suc k + i ≡ k + suc i = omega arith in row_at f n (suc k) i (omega arith) ∙ ap f z

pub blocks_marks_shaped : (b w n z : List ℕ) → length b ≡ 8320 → length w ≡ 49304 → length n ≡ 144 → length z ≡ 8216 → MarksShaped (marks_of (replicate 8 0) b w n z)
blocks_marks_shaped b w n z hb hw hn hz =
    record {
      flags = refl;
      kept = kept_size (replicate 8 0) b w n z;
      each = λ j i.
          let y : 0 + j ≡ j = omega arith in
          subst Shaped (sym (row_at (memory_at b w n z) 8 0 j i ∙ ap (memory_at b w n z) y))
          (blocks_shaped (part (1040 * j) 1040 b) (part (6163 * j) 6163 w) (part (18 * j) 18 n) (part (1027 * j) 1027 z)
          (part_length (1040 * j) 1040 b (omega (arith, hb, i))) (part_length (6163 * j) 6163 w (omega (arith, hw, i))) (part_length (18 * j) 18 n (omega (arith, hn, i))) (part_length (1027 * j) 1027 z (omega (arith, hz, i))));
    }
