-- A promise on the memory that stands in four blocks fixes every number of the blocks: blocks of their sizes in which the same memory stands are the same.
use mathlib.Core.Path.{◌≡◌, sym, ap, ◌∙◌}
use Prim.Native.Nat.{ℕ, ◌+◌, ◌-◌, ◌*◌, ◌≤◌, ◌<◌}
use native.Mathlib.Omega.{arith}
use native.Mathlib.Decide.{dec_lt}
use borrow.Author.Tests.{lt-ltb}
use mathlib.Core.List.{List, []}
use lib.ListN.{length, get_or}
use lib.Seq.{ext_get_or}
use Rattle.run_memory.specs.Memory.{Memory}
use Rattle.run_memory.specs.Blocks.{part, Bytes, Words, Numbers, Sums, row_in, bytes_in, words_in, numbers_in, sums_in, gathered, memory_of}
use Rattle.run_memory.proofs.Parts.{part_get}

module _ (l k : List ℕ) where
  abbrev Same : ℕ → Type 0
  Same i = get_or l i 0 ≡ get_or k i 0

  -- inside a part that is the same
  there : (at n i : ℕ) → part at n l ≡ part at n k → at ≤ i → i < at + n → Same i
  there at n i e a b =
      let p : i ≡ at + (i - at) = omega arith in
      let q : i - at < n = omega arith in
      ap (λ (j : ℕ). get_or l j 0) p ∙ sym (part_get at n l (i - at) 0 q) ∙ ap (λ (x : List ℕ). get_or x (i - at) 0) e ∙ part_get at n k (i - at) 0 q ∙ ap (λ (j : ℕ). get_or k j 0) (sym p)

  in_row : (j i : ℕ) → j < 6 → row_in l j ≡ row_in k j → 1024 * j ≤ i → i < 1024 * j + 1024 → Same i
  unfolding row_in
  in_row j i s e = there (1024 * j) 1024 i (rw (lt-ltb j 6 s) at e)

  same_list : (n : ℕ) → length l ≡ n → length k ≡ n → ((i : ℕ) → i < n → Same i) → l ≡ k
  same_list n e d h = ext_get_or 0 l k (e ∙ sym d) (λ i b. h i (omega (arith, b, e)))

-- one of two, where a number is below a bound
below : {Q : Type 0} (n i : ℕ) → (i < n → Q) → (n ≤ i → Q) → Q
below {Q} n i a b = go (dec_lt i n)
  where
    go : Dec (i < n) → Q
    go (yes h) = a h
    go (no h) = b (omega arith)

module _ (b w n s b' w' n' s' : List ℕ) (e : memory_of b w n s ≡ memory_of b' w' n' s') where
  pub bytes_fixed : length b ≡ 1040 → length b' ≡ 1040 → b ≡ b'
  bytes_fixed x y =
      same_list b b' 1040 x y
      (λ i h. below 1024 i (λ l. there b b' 0 1024 i (ap (λ (M : Memory). M.arrays.status) e) (omega arith) (omega arith))
      (λ l. there b b' 1024 16 i (ap (λ (M : Memory). M.holds) e) l (omega arith)))

  pub sums_fixed : length s ≡ 1027 → length s' ≡ 1027 → s ≡ s'
  sums_fixed x y =
      same_list s s' 1027 x y
      (λ i h. below 1024 i (λ l. there s s' 0 1024 i (ap (λ (M : Memory). M.arrays.amounts) e) (omega arith) (omega arith))
      (λ l. total i l h))
    where
      one : (j : ℕ) → get_or (memory_of b w n s).totals j 0 ≡ get_or (memory_of b' w' n' s').totals j 0
      one j = ap (λ (M : Memory). get_or M.totals j 0) e

      total : (i : ℕ) → 1024 ≤ i → i < 1027 → get_or s i 0 ≡ get_or s' i 0
      total i l h =
          below 1025 i (λ a. let q : i ≡ 1024 = omega arith in rw q (one 0))
          (λ a. below 1026 i (λ c. let q : i ≡ 1025 = omega arith in rw q (one 1)) (λ c. let q : i ≡ 1026 = omega arith in rw q (one 2)))

  pub numbers_fixed : length n ≡ 18 → length n' ≡ 18 → n ≡ n'
  numbers_fixed x y =
      same_list n n' 18 x y
      (λ i h. below 1 i (λ a. let q : i ≡ 0 = omega arith in rw q (one 0))
      (λ a. below 2 i (λ c. let q : i ≡ 1 = omega arith in rw q (one 1)) (λ c. there n n' 2 16 i (ap (λ (M : Memory). M.quotas) e) c (omega arith))))
    where
      one : (j : ℕ) → get_or (memory_of b w n s).settings j 0 ≡ get_or (memory_of b' w' n' s').settings j 0
      one j = ap (λ (M : Memory). get_or M.settings j 0) e

  pub words_fixed : length w ≡ 6163 → length w' ≡ 6163 → w ≡ w'
  words_fixed x y = same_list w w' 6163 x y at
    where
      one : (j : ℕ) → get_or (memory_of b w n s).heads j 0 ≡ get_or (memory_of b' w' n' s').heads j 0
      one j = ap (λ (M : Memory). get_or M.heads j 0) e

      head : (i : ℕ) → 6160 ≤ i → i < 6163 → get_or w i 0 ≡ get_or w' i 0
      head i l h =
          below 6161 i (λ a. let q : i ≡ 6160 = omega arith in rw q (one 0))
          (λ a. below 6162 i (λ c. let q : i ≡ 6161 = omega arith in rw q (one 1)) (λ c. let q : i ≡ 6162 = omega arith in rw q (one 2)))

      rest : (i : ℕ) → 6144 ≤ i → i < 6163 → get_or w i 0 ≡ get_or w' i 0
      rest i l h = below 6160 i (λ a. there w w' 6144 16 i (ap (λ (M : Memory). M.threads) e) l (omega arith)) (λ a. head i a h)

      row : (j i : ℕ) → j < 6 → row_in w j ≡ row_in w' j → 1024 * j ≤ i → i < 1024 * j + 1024 → get_or w i 0 ≡ get_or w' i 0
      row = in_row w w'

      at : (i : ℕ) → i < 6163 → get_or w i 0 ≡ get_or w' i 0
      at i h =
          below 1024 i (λ u. row 0 i (omega arith) (ap (λ (M : Memory). M.parents) e) (omega arith) (omega arith))
          (λ a. below 2048 i (λ u. row 1 i (omega arith) (ap (λ (M : Memory). M.arrays.next) e) (omega arith) (omega arith))
          (λ b. below 3072 i (λ u. row 2 i (omega arith) (ap (λ (M : Memory). M.arrays.left) e) (omega arith) (omega arith))
          (λ c. below 4096 i (λ u. row 3 i (omega arith) (ap (λ (M : Memory). M.arrays.right) e) (omega arith) (omega arith))
          (λ d. below 5120 i (λ u. row 4 i (omega arith) (ap (λ (M : Memory). M.arrays.under) e) (omega arith) (omega arith))
          (λ f. below 6144 i (λ u. row 5 i (omega arith) (ap (λ (M : Memory). M.arrays.over) e) (omega arith) (omega arith)) (λ g. rest i g h))))))

-- ---- so is a promise on what stands in one block: beside it any other three will do

pub bytes_alone : (b b' : List ℕ) → bytes_in b ≡ bytes_in b' → length b ≡ 1040 → length b' ≡ 1040 → b ≡ b'
bytes_alone b b' e = bytes_fixed b [] [] [] b' [] [] [] (ap (λ (B : Bytes). gathered B (words_in []) (numbers_in []) (sums_in [])) e)

pub words_alone : (w w' : List ℕ) → words_in w ≡ words_in w' → length w ≡ 6163 → length w' ≡ 6163 → w ≡ w'
words_alone w w' e = words_fixed [] w [] [] [] w' [] [] (ap (λ (W : Words). gathered (bytes_in []) W (numbers_in []) (sums_in [])) e)

pub numbers_alone : (n n' : List ℕ) → numbers_in n ≡ numbers_in n' → length n ≡ 18 → length n' ≡ 18 → n ≡ n'
numbers_alone n n' e = numbers_fixed [] [] n [] [] [] n' [] (ap (λ (N : Numbers). gathered (bytes_in []) (words_in []) N (sums_in [])) e)

pub sums_alone : (s s' : List ℕ) → sums_in s ≡ sums_in s' → length s ≡ 1027 → length s' ≡ 1027 → s ≡ s'
sums_alone s s' e = sums_fixed [] [] [] s [] [] [] s' (ap (λ (S : Sums). gathered (bytes_in []) (words_in []) (numbers_in []) S) e)
