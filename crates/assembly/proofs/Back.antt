-- What the text of an accepted table says, and that these are the table's bytes again.
use Prim.Native.Nat.{ℕ, zero, suc, ◌+◌, ◌*◌, ◌/◌, ◌%◌, ◌≤◌, ◌<◌}
use native.Mathlib.Omega.{arith}
use native.Mathlib.Numerals.{towards_suc}
use mathlib.Core.Path.{◌≡◌, refl, sym, ap, ◌∙◌}
use mathlib.Core.List.{List, [], ◌∷◌, ◌++◌, append_assoc}
use mathlib.Core.Bool.{Bool, true, false}
use borrow.Author.Tests.{eq-eqb, ne_eqb}
use lib.Dec.{eqb}
use lib.ListN.{length, get_or, take, drop}
use lib.Seq.{drop-cons}
use Rattle.table.specs.Sum.{pick, sum_to}
use Rattle.table.specs.Format.{Table, u16_at, u24_at}
use Rattle.assembly.specs.Assembly.{checked_from, is_thread, is_action, how_many, body_count, pair_row, action_row, entries_from, action_rows, actions_in}
use Rattle.assembly.proofs.Counts.{no_fault, same_counts}
use Rattle.assembly.specs.declared.Said.{Said}
use Rattle.assembly.specs.declared.Said.TheVariants.{Nothing, Thread, Action, Expects}
use Rattle.std.specs.Prelude.{Ok}
use Rattle.assembly.specs.Assembly.{counts_of}

-- ---- what a table says, thread by thread

-- k actions from a on
unfoldable pub body_saids : Table → ℕ → ℕ → List Said
body_saids T a zero = []
body_saids T a (suc k) = body_saids T a k ++ (Action (T.code (a + k)) (T.argument (a + k)) ∷ [])

abbrev pub thread_saids : Table → ℕ → List Said
thread_saids T t = Thread t ∷ body_saids T (T.first t) (T.count t)

-- the threads below k
unfoldable pub table_saids : Table → ℕ → List Said
table_saids T zero = []
table_saids T (suc k) = table_saids T k ++ thread_saids T k

-- ---- it is well-formed

checked_append : (l r : List Said) (line n m a b : ℕ) → checked_from line n m l ≡ Ok (counts_of a b) → checked_from line n m (l ++ r) ≡ checked_from (line + length l) a b r
unfolding checked_from
checked_append [] r line n m a b q =
    let p = same_counts q in
    let z : line + 0 ≡ line = omega arith in
    rw (p.0, p.1, z)
checked_append (Nothing ∷ l) r line n m a b q = let z : line + suc (length l) ≡ suc line + length l = omega arith in rw z (checked_append l r (suc line) n m a b q)
checked_append (Thread t ∷ l) r line n m a b q = go (eqb t n) refl (checked_append l r (suc line) (n + 1) m a b)
  where
    go : (u : Bool) → eqb t n ≡ u → (checked_from (suc line) (n + 1) m l ≡ Ok (counts_of a b) → checked_from (suc line) (n + 1) m (l ++ r) ≡ checked_from (suc line + length l) a b r)
        → checked_from line n m (Thread t ∷ (l ++ r)) ≡ checked_from (line + suc (length l)) a b r
    go true e ih = let z : line + suc (length l) ≡ suc line + length l = omega arith in rw (e, z) (ih (rw e at q))
    go false e ih = absurd (no_fault line (rw e at q))
checked_append (Action k x ∷ l) r line n m a b q = go (eqb n 0) refl (checked_append l r (suc line) n (m + 1) a b)
  where
    go : (u : Bool) → eqb n 0 ≡ u → (checked_from (suc line) n (m + 1) l ≡ Ok (counts_of a b) → checked_from (suc line) n (m + 1) (l ++ r) ≡ checked_from (suc line + length l) a b r)
        → checked_from line n m (Action k x ∷ (l ++ r)) ≡ checked_from (line + suc (length l)) a b r
    go true e ih = absurd (no_fault line (rw e at q))
    go false e ih = let z : line + suc (length l) ≡ suc line + length l = omega arith in rw (e, z) (ih (rw e at q))
checked_append (Expects e ∷ l) r line n m a b q = absurd (no_fault line q)

module _ (T : Table) where
  body_checked : (k a line n m : ℕ) → 0 < n → checked_from line n m (body_saids T a k) ≡ Ok (counts_of n (m + k))
  unfolding body_saids checked_from
  body_checked zero a line n m h = ap (λ (x : ℕ). Ok (counts_of n x)) (omega arith)
  body_checked (suc k) a line n m h =
      let z : eqb n 0 ≡ false = ne_eqb n 0 (λ e. omega (arith, e)) in
      checked_append (body_saids T a k) (Action (T.code (a + k)) (T.argument (a + k)) ∷ []) line n m n (m + k) (body_checked k a line n m h)
      ∙ rw z (ap (λ (x : ℕ). Ok (counts_of n x)) (omega arith))

  pub table_checked : (k line : ℕ) → checked_from line 0 0 (table_saids T k) ≡ Ok (counts_of k (sum_to T.count k))
  unfolding table_saids checked_from sum_to
  table_checked zero line = refl
  table_checked (suc k) line =
      let z : k + 1 ≡ suc k = omega arith in
      checked_append (table_saids T k) (thread_saids T k) line 0 0 k (sum_to T.count k) (table_checked k line)
      ∙ rw (eq-eqb k k refl, z) (body_checked (T.count k) (T.first k) (suc (line + length (table_saids T k))) (suc k) (sum_to T.count k) (omega arith))

-- ---- its rows

many_append : (p : Said → Bool) (l r : List Said) → how_many p (l ++ r) ≡ how_many p l + how_many p r
unfolding how_many
many_append p [] r = omega arith
many_append p (x ∷ l) r = go (p x) (many_append p l r)
  where
    go : (u : Bool) → how_many p (l ++ r) ≡ how_many p l + how_many p r → pick u (suc (how_many p (l ++ r))) (how_many p (l ++ r)) ≡ pick u (suc (how_many p l)) (how_many p l) + how_many p r
    go true e = omega arith
    go false e = e

pub actions_append : (l r : List Said) → actions_in (l ++ r) ≡ actions_in l ++ actions_in r
unfolding actions_in
actions_append [] r = refl
actions_append (x ∷ l) r = rw (actions_append l r) (sym (append_assoc (action_rows x) (actions_in l) (actions_in r)))

-- a thread ends the body before it
count_append : (l : List Said) (t : ℕ) (r : List Said) → body_count (l ++ (Thread t ∷ r)) ≡ body_count l
unfolding body_count
count_append [] t r = refl
count_append (Nothing ∷ l) t r = count_append l t r
count_append (Thread u ∷ l) t r = refl
count_append (Action k x ∷ l) t r = ap suc (count_append l t r)
count_append (Expects e ∷ l) t r = count_append l t r

entries_append : (l : List Said) (a t : ℕ) (r : List Said) → entries_from a (l ++ (Thread t ∷ r)) ≡ entries_from a l ++ entries_from (a + how_many is_action l) (Thread t ∷ r)
unfolding entries_from how_many
entries_append [] a t r = let z : a + 0 ≡ a = omega arith in rw z
entries_append (Nothing ∷ l) a t r = entries_append l a t r
entries_append (Thread u ∷ l) a t r = rw (count_append l t r) (ap (λ (x : List (List ℕ)). pair_row a (body_count l) ∷ x) (entries_append l a t r))
entries_append (Action k x ∷ l) a t r = let z : a + suc (how_many is_action l) ≡ a + 1 + how_many is_action l = omega arith in rw z (entries_append l (a + 1) t r)
entries_append (Expects e ∷ l) a t r = entries_append l a t r

-- a body has no entry, and as many actions as it is long
only_actions : (l : List Said) (k x : ℕ) → how_many is_thread l ≡ 0 → (body_count (l ++ (Action k x ∷ [])) ≡ suc (body_count l))
unfolding body_count how_many
only_actions [] k x h = refl
only_actions (Nothing ∷ l) k x h = only_actions l k x h
only_actions (Thread t ∷ l) k x h = absurd (omega arith)
only_actions (Action j y ∷ l) k x h = ap suc (only_actions l k x h)
only_actions (Expects e ∷ l) k x h = only_actions l k x h

no_entries : (l : List Said) (a : ℕ) → how_many is_thread l ≡ 0 → entries_from a l ≡ []
unfolding entries_from how_many
no_entries [] a h = refl
no_entries (Nothing ∷ l) a h = no_entries l a h
no_entries (Thread t ∷ l) a h = absurd (omega arith)
no_entries (Action k x ∷ l) a h = no_entries l (a + 1) h
no_entries (Expects e ∷ l) a h = no_entries l a h

module _ (T : Table) where
  body_threads : (a k : ℕ) → how_many is_thread (body_saids T a k) ≡ 0
  unfolding body_saids how_many
  body_threads a zero = refl
  body_threads a (suc k) = many_append is_thread (body_saids T a k) (Action (T.code (a + k)) (T.argument (a + k)) ∷ []) ∙ omega (arith, body_threads a k)

  body_actions : (a k : ℕ) → how_many is_action (body_saids T a k) ≡ k
  unfolding body_saids how_many
  body_actions a zero = refl
  body_actions a (suc k) = many_append is_action (body_saids T a k) (Action (T.code (a + k)) (T.argument (a + k)) ∷ []) ∙ omega (arith, body_actions a k)

  body_counted : (a k : ℕ) → body_count (body_saids T a k) ≡ k
  unfolding body_saids body_count
  body_counted a zero = refl
  body_counted a (suc k) = only_actions (body_saids T a k) (T.code (a + k)) (T.argument (a + k)) (body_threads a k) ∙ ap suc (body_counted a k)

  pub table_threads : (k : ℕ) → how_many is_thread (table_saids T k) ≡ k
  unfolding table_saids how_many
  table_threads zero = refl
  table_threads (suc k) = many_append is_thread (table_saids T k) (thread_saids T k) ∙ omega (arith, table_threads k, body_threads (T.first k) (T.count k))

  pub table_actions : (k : ℕ) → how_many is_action (table_saids T k) ≡ sum_to T.count k
  unfolding table_saids how_many sum_to
  table_actions zero = refl
  table_actions (suc k) = many_append is_action (table_saids T k) (thread_saids T k) ∙ omega (arith, table_actions k, body_actions (T.first k) (T.count k))

  -- one thread's entry after those before it
  pub entries_next : (k : ℕ) → entries_from 0 (table_saids T (suc k)) ≡ entries_from 0 (table_saids T k) ++ (pair_row (sum_to T.count k) (T.count k) ∷ [])
  unfolding table_saids entries_from
  entries_next k =
      let z : 0 + how_many is_action (table_saids T k) ≡ sum_to T.count k = omega (arith, table_actions k) in
      entries_append (table_saids T k) 0 k (body_saids T (T.first k) (T.count k))
      ∙ rw (z, body_counted (T.first k) (T.count k), no_entries (body_saids T (T.first k) (T.count k)) (sum_to T.count k) (body_threads (T.first k) (T.count k)))

-- ---- four bytes at a time

-- each byte is below 256
abbrev pub Bytes : List ℕ → Type 0
Bytes s = (i : ℕ) → get_or s i 0 < 256

module _ (s : List ℕ) (bytes : Bytes s) where
  four : (i : ℕ) → i + 4 ≤ length s → take 4 (drop i s) ≡ get_or s i 0 ∷ get_or s (i + 1) 0 ∷ get_or s (i + 2) 0 ∷ get_or s (i + 3) 0 ∷ []
  four i h =
      simp towards_suc
      (rw (drop-cons s i 0 (omega arith), drop-cons s (suc i) 0 (omega arith), drop-cons s (suc (suc i)) 0 (omega arith), drop-cons s (suc (suc (suc i))) 0 (omega arith)))

  pub pair_four : (i : ℕ) → i + 4 ≤ length s → pair_row (u16_at s i) (u16_at s (i + 2)) ≡ take 4 (drop i s)
  pair_four i h =
      let a : ℕ = get_or s i 0 in
      let b : ℕ = get_or s (i + 1) 0 in
      let c : ℕ = get_or s (i + 2) 0 in
      let d : ℕ = get_or s (i + 3) 0 in
      let n : i + 2 + 1 ≡ i + 3 = omega arith in
      let p : (a + 256 * b) % 256 ≡ a = omega (arith, bytes i) in
      let q : (a + 256 * b) / 256 ≡ b = omega (arith, bytes i) in
      let second : b % 256 ≡ b = omega (arith, bytes (i + 1)) in
      let r : (c + 256 * d) % 256 ≡ c = omega (arith, bytes (i + 2)) in
      let t : (c + 256 * d) / 256 ≡ d = omega (arith, bytes (i + 2)) in
      let top : d % 256 ≡ d = omega (arith, bytes (i + 3)) in
      rw (four i h, n, p, q, second, r, t, top)

  pub action_four : (i : ℕ) → i + 4 ≤ length s → action_row (get_or s i 0) (u24_at s (i + 1)) ≡ take 4 (drop i s)
  action_four i h =
      let b : ℕ = get_or s (i + 1) 0 in
      let c : ℕ = get_or s (i + 2) 0 in
      let d : ℕ = get_or s (i + 3) 0 in
      let n : i + 1 + 1 ≡ i + 2 = omega arith in
      let o : i + 1 + 2 ≡ i + 3 = omega arith in
      let p : (b + 256 * c + 65536 * d) % 256 ≡ b = omega (arith, bytes (i + 1)) in
      let q : (b + 256 * c + 65536 * d) / 256 ≡ c + 256 * d = omega (arith, bytes (i + 1)) in
      let second : (c + 256 * d) % 256 ≡ c = omega (arith, bytes (i + 2)) in
      let r : (b + 256 * c + 65536 * d) / 65536 ≡ d = omega (arith, bytes (i + 1), bytes (i + 2)) in
      let third : d % 256 ≡ d = omega (arith, bytes (i + 3)) in
      rw (four i h, n, o, p, q, second, r, third)
