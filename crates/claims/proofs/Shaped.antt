-- Memory whose rows have the lengths of the blocks' parts stands in four blocks: its rows one after the other.
use mathlib.Core.Path.{◌≡◌, refl, sym, ap, subst, ◌∙◌}
use Prim.Native.Nat.{ℕ, zero, suc, ◌+◌, ◌*◌, ◌≤◌, ◌<◌, min}
use native.Mathlib.Nat.{min-eq_left}
use native.Mathlib.Omega.{arith}
use mathlib.Core.List.{List, [], ◌∷◌, ◌++◌}
use borrow.Author.Tests.{lt-ltb}
use lib.ListN.{length, get_or, take, drop, length-take, length-drop, get_or-append}
use lib.Seq.{drop-append-add, get_or-append-add, get_or-drop, take_all, take_at, drop_at}
use Rattle.table.specs.Checks.{max_threads}
use Rattle.schedule.specs.Record.{max_workers}
use Rattle.array_machine.specs.Arrays.{Arrays, arrays}
use Rattle.run_memory.specs.Memory.{Memory, memory}
use Rattle.run_memory.specs.Blocks.{part, row_in, memory_of}
use Rattle.run_memory.proofs.Parts.{part_length}

-- a number for each thread
abbrev pub Full : List ℕ → Type 0
Full l = length l ≡ max_threads

pub record Sized (A : Arrays) : Type 0 where
  pub next : Full A.next
  pub status : Full A.status
  pub amounts : Full A.amounts
  pub left : Full A.left
  pub right : Full A.right
  pub under : Full A.under
  pub over : Full A.over

pub record Shaped (M : Memory) : Type 0 where
  pub settings : length M.settings ≡ 2
  pub parents : Full M.parents
  pub arrays : Sized M.arrays
  pub holds : length M.holds ≡ max_workers
  pub threads : length M.threads ≡ max_workers
  pub quotas : length M.quotas ≡ max_workers
  pub heads : length M.heads ≡ 3
  pub totals : length M.totals ≡ 3

-- ---- rows one after the other

abbrev pub laid : List (List ℕ) → List ℕ → List ℕ
laid [] rest = rest
laid (a ∷ l) rest = a ++ laid l rest

data Rows : List (List ℕ) → Type 0 where
  none : Rows []
  row : {a : List ℕ} {l : List (List ℕ)} → Full a → Rows l → Rows (a ∷ l)

part_first : (a b : List ℕ) (n : ℕ) → length a ≡ n → part 0 n (a ++ b) ≡ a
unfolding part
part_first a b n e = take_at a b n e

part_last : (a b : List ℕ) (n m : ℕ) → length a ≡ n → length b ≡ m → part n m (a ++ b) ≡ b
unfolding part
part_last a b n m e f = ap (take m) (drop_at a b n e) ∙ take_all m b (omega (arith, f))

past_row : (a b : List ℕ) (k : ℕ) → Full a → drop (1024 * suc k) (a ++ b) ≡ drop (1024 * k) b
past_row a b k e =
    let n : 1024 * suc k ≡ length a + 1024 * k = omega (arith, e) in
    ap (λ (j : ℕ). drop j (a ++ b)) n ∙ drop-append-add a b (1024 * k)

row_at : (l : List (List ℕ)) → Rows l → (rest : List ℕ) (k : ℕ) → k < length l → part (1024 * k) 1024 (laid l rest) ≡ get_or l k []
unfolding part
row_at [] none rest k h = absurd (omega (arith, h))
row_at (a ∷ l) (row e t) rest zero h = take_at a (laid l rest) 1024 e
row_at (a ∷ l) (row e t) rest (suc k) h = ap (take 1024) (past_row a (laid l rest) k e) ∙ row_at l t rest k (omega (arith, h))

rest_at : (l : List (List ℕ)) → Rows l → (rest : List ℕ) → drop (1024 * length l) (laid l rest) ≡ rest
rest_at [] none rest = refl
rest_at (a ∷ l) (row e t) rest = past_row a (laid l rest) (length l) e ∙ rest_at l t rest

two : (l : List ℕ) → length l ≡ 2 → get_or l 0 0 ∷ get_or l 1 0 ∷ [] ≡ l
two [] e = absurd (omega (arith, e))
two (x ∷ []) e = absurd (omega (arith, e))
two (x ∷ y ∷ []) e = refl
two (x ∷ y ∷ z ∷ l) e = absurd (omega (arith, e))

three : (l : List ℕ) → length l ≡ 3 → get_or l 0 0 ∷ get_or l 1 0 ∷ get_or l 2 0 ∷ [] ≡ l
three [] e = absurd (omega (arith, e))
three (x ∷ []) e = absurd (omega (arith, e))
three (x ∷ y ∷ []) e = absurd (omega (arith, e))
three (x ∷ y ∷ z ∷ []) e = refl
three (x ∷ y ∷ z ∷ u ∷ l) e = absurd (omega (arith, e))

past : (a b : List ℕ) (n i : ℕ) → length a ≡ n → get_or (a ++ b) (n + i) 0 ≡ get_or b i 0
past a b n i e = subst (λ (k : ℕ). get_or (a ++ b) (k + i) 0 ≡ get_or b i 0) e (get_or-append-add a b i 0)

-- ---- the blocks

abbrev rows_of : Memory → List (List ℕ)
rows_of M = M.parents ∷ M.arrays.next ∷ M.arrays.left ∷ M.arrays.right ∷ M.arrays.under ∷ M.arrays.over ∷ []

abbrev pub byte_block : Memory → List ℕ
byte_block M = M.arrays.status ++ M.holds

abbrev pub words_of : Memory → List ℕ
words_of M = laid (rows_of M) (M.threads ++ M.heads)

abbrev pub numbers_of : Memory → List ℕ
numbers_of M = M.settings ++ M.quotas

abbrev pub sums_of : Memory → List ℕ
sums_of M = M.arrays.amounts ++ M.totals

module _ (M : Memory) (h : Shaped M) where
  rows : Rows (rows_of M)
  rows =
      row h.parents (row h.arrays.next (row h.arrays.left (row h.arrays.right (row h.arrays.under (row h.arrays.over none)))))

  words_row : (k : ℕ) → k < 6 → part (1024 * k) 1024 (words_of M) ≡ get_or (rows_of M) k []
  words_row k = row_at (rows_of M) rows (M.threads ++ M.heads) k

  words_rest : drop 6144 (words_of M) ≡ M.threads ++ M.heads
  words_rest = rest_at (rows_of M) rows (M.threads ++ M.heads)

  threads_there : part 6144 16 (words_of M) ≡ M.threads
  unfolding part
  threads_there = ap (take 16) words_rest ∙ take_at M.threads M.heads 16 h.threads

  head_there : (i : ℕ) → get_or (words_of M) (6144 + (16 + i)) 0 ≡ get_or M.heads i 0
  head_there i =
      sym (get_or-drop 6144 (words_of M) (16 + i) 0) ∙ ap (λ (l : List ℕ). get_or l (16 + i) 0) words_rest ∙ past M.threads M.heads 16 i h.threads

  setting_there : (i : ℕ) → i < 2 → get_or (numbers_of M) i 0 ≡ get_or M.settings i 0
  setting_there i l = get_or-append M.settings M.quotas 0 i (omega (arith, l, h.settings))

  total_there : (i : ℕ) → get_or (sums_of M) (1024 + i) 0 ≡ get_or M.totals i 0
  total_there i = past M.arrays.amounts M.totals 1024 i h.arrays.amounts

  pub in_blocks_lem : memory_of (byte_block M) (words_of M) (numbers_of M) (sums_of M) ≡ M
  unfolding row_in
  in_blocks_lem =
      let s = two M.settings h.settings in
      let k = three M.heads h.heads in
      let t = three M.totals h.totals in
      (λ i.
      memory (setting_there 0 (omega arith) i ∷ setting_there 1 (omega arith) i ∷ []) (words_row 0 (omega arith) i)
      (arrays (words_row 1 (omega arith) i) (part_first M.arrays.status M.holds 1024 h.arrays.status i) (part_first M.arrays.amounts M.totals 1024 h.arrays.amounts i)
      (words_row 2 (omega arith) i) (words_row 3 (omega arith) i) (words_row 4 (omega arith) i) (words_row 5 (omega arith) i))
      (part_last M.arrays.status M.holds 1024 16 h.arrays.status h.holds i) (threads_there i) (part_last M.settings M.quotas 2 16 h.settings h.quotas i)
      (head_there 0 i ∷ head_there 1 i ∷ head_there 2 i ∷ []) (total_there 0 i ∷ total_there 1 i ∷ total_there 2 i ∷ []))
      ∙ (λ i. memory (s i) M.parents M.arrays M.holds M.threads M.quotas (k i) (t i))

-- ---- and memory that stands in blocks of their sizes has such rows

module _ (b w n s : List ℕ) (p : length b ≡ 1040) (q : length w ≡ 6163) (r : length n ≡ 18) (t : length s ≡ 1027) where
  row_full : (k : ℕ) → k < 6 → Full (row_in w k)
  unfolding row_in
  row_full k h = rw (lt-ltb k 6 h) (part_length (1024 * k) 1024 w (omega (arith, q, h)))

  pub blocks_shaped : Shaped (memory_of b w n s)
  blocks_shaped =
      record {
        settings = refl;
        parents = row_full 0 (omega arith);
        arrays =
            record {
              next = row_full 1 (omega arith);
              status = part_length 0 1024 b (omega (arith, p));
              amounts = part_length 0 1024 s (omega (arith, t));
              left = row_full 2 (omega arith);
              right = row_full 3 (omega arith);
              under = row_full 4 (omega arith);
              over = row_full 5 (omega arith);
            };
        holds = part_length 1024 16 b (omega (arith, p));
        threads = part_length 6144 16 w (omega (arith, q));
        quotas = part_length 2 16 n (omega (arith, r));
        heads = refl;
        totals = refl;
      }
