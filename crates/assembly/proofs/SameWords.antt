-- Texts that differ only in comments, blank lines and blanks assemble to the same table.
use Rattle.std.specs.Prelude.{Err, Ok, Result}
use Rattle.table.specs.declared.Refusal.{Refusal}
use Prim.Native.Nat.{ℕ, suc, ◌+◌, ◌≤◌}
use native.Mathlib.Omega.{arith}
use mathlib.Core.Path.{◌≡◌, refl, sym, ap, ◌∙◌}
use mathlib.Core.List.{List, [], ◌∷◌, ◌++◌, map}
use mathlib.Core.Bool.{Bool, true, false}
use borrow.Author.Tests.{ltb-false, le-ltb}
use lib.Dec.{eqb, ltb}
use lib.ListN.{length}
use Rattle.table.specs.Sum.{pick}
use Rattle.table.specs.Pass.{refusal}
use Rattle.table.specs.Load.{loaded}
use Rattle.table.specs.declared.Facts.{Facts}
use Rattle.assembly.specs.Words.{no_number, number_in, lines_of, words_of}
use Rattle.assembly.specs.Said.{is_bare, thread_code, no_code, code_of_word, said_last, said_after, said_by, meaning_of, saids, with_words, word_lines}
use Rattle.assembly.specs.Assembly.{checked_from, checked, is_thread, is_action, how_many, body_count, pair_row, entries_from, action_rows, actions_in, table_bytes, longest_text, sizes_outside, judged, answered, assembled, assembled_in}
use Rattle.assembly.specs.declared.Expected.{Expected}
use Rattle.assembly.specs.declared.Said.{Said}
use Rattle.assembly.specs.declared.Said.TheVariants.{Nothing, Thread, Action, Expects}
use Rattle.assembly.proofs.Counts.{no_fault}
use Rattle.assembly.specs.declared.AssemblyError.TheVariants.{TooLong, Refused}
use Rattle.assembly.specs.declared.check.Counts.{Counts}
use Rattle.assembly.specs.declared.check.Fault.{Fault}
use Rattle.assembly.specs.Assembly.{counts_of}

-- ---- the lines that say something

unfoldable pub spoken : List Said → List Said
spoken [] = []
spoken (Nothing ∷ l) = spoken l
spoken (Thread t ∷ l) = Thread t ∷ spoken l
spoken (Action k x ∷ l) = Action k x ∷ spoken l
spoken (Expects e ∷ l) = Expects e ∷ spoken l

-- a line with a word says something
pub data Speaks : Said → Type 0 where
  speaks_thread : (t : ℕ) → Speaks (Thread t)
  speaks_action : (k x : ℕ) → Speaks (Action k x)
  speaks_expects : (e : Expected) → Speaks (Expects e)

pub speaks_kept : {x : Said} → Speaks x → (l : List Said) → spoken (x ∷ l) ≡ x ∷ spoken l
unfolding spoken
speaks_kept (speaks_thread t) l = refl
speaks_kept (speaks_action k x) l = refl
speaks_kept (speaks_expects e) l = refl

speaks_pick : (b : Bool) {x y : Said} → Speaks x → Speaks y → Speaks (pick b x y)
speaks_pick true p q = p
speaks_pick false p q = q

speaks_last : (k x : ℕ) (ws : List (List ℕ)) → Speaks (said_last k x ws)
speaks_last k x [] = speaks_pick (eqb k thread_code) (speaks_thread x) (speaks_action k x)
speaks_last k x (w ∷ ws) = speaks_expects _

speaks_after : (k : ℕ) (ws : List (List ℕ)) → Speaks (said_after k ws)
speaks_after k [] = speaks_pick (is_bare k) (speaks_action k 0) (speaks_expects _)
speaks_after k (w ∷ ws) = speaks_pick (is_bare k) (speaks_expects _) (speaks_pick (eqb (number_in w) no_number) (speaks_expects _) (speaks_last k (number_in w) ws))

pub speaks : (w : List ℕ) (ws : List (List ℕ)) → Speaks (meaning_of (w ∷ ws))
unfolding meaning_of said_by
speaks w ws = speaks_pick (eqb (code_of_word w) no_code) (speaks_expects _) (speaks_after (code_of_word w) ws)

-- they are the meanings of the lines that have words
spoken_words : (ls : List (List ℕ)) → spoken (map (λ (l : List ℕ). meaning_of (words_of l)) ls) ≡ map meaning_of (with_words (map words_of ls))
unfolding spoken with_words meaning_of
spoken_words [] = refl
spoken_words (l ∷ ls) = go (words_of l) (spoken_words ls)
  where
    go : (ws : List (List ℕ)) → spoken (map (λ (x : List ℕ). meaning_of (words_of x)) ls) ≡ map meaning_of (with_words (map words_of ls))
        → spoken (meaning_of ws ∷ map (λ (x : List ℕ). meaning_of (words_of x)) ls) ≡ map meaning_of (with_words (ws ∷ map words_of ls))
    go [] e = e
    go (w ∷ ws) e = speaks_kept (speaks w ws) (map (λ (x : List ℕ). meaning_of (words_of x)) ls) ∙ ap (λ (z : List Said). meaning_of (w ∷ ws) ∷ z) e

-- ---- silent lines change nothing

many_spoken : (p : Said → Bool) (l : List Said) → p Nothing ≡ false → how_many p (spoken l) ≡ how_many p l
unfolding spoken how_many
many_spoken p [] h = refl
many_spoken p (Nothing ∷ l) h = rw h (many_spoken p l h)
many_spoken p (Thread t ∷ l) h = rw (many_spoken p l h)
many_spoken p (Action k x ∷ l) h = rw (many_spoken p l h)
many_spoken p (Expects e ∷ l) h = rw (many_spoken p l h)

count_spoken : (l : List Said) → body_count (spoken l) ≡ body_count l
unfolding spoken body_count
count_spoken [] = refl
count_spoken (Nothing ∷ l) = count_spoken l
count_spoken (Thread t ∷ l) = refl
count_spoken (Action k x ∷ l) = ap suc (count_spoken l)
count_spoken (Expects e ∷ l) = count_spoken l

entries_spoken : (l : List Said) (a : ℕ) → entries_from a (spoken l) ≡ entries_from a l
unfolding spoken entries_from
entries_spoken [] a = refl
entries_spoken (Nothing ∷ l) a = entries_spoken l a
entries_spoken (Thread t ∷ l) a = rw (count_spoken l) (ap (λ (x : List (List ℕ)). pair_row a (body_count l) ∷ x) (entries_spoken l a))
entries_spoken (Action k x ∷ l) a = entries_spoken l (a + 1)
entries_spoken (Expects e ∷ l) a = entries_spoken l a

actions_spoken : (l : List Said) → actions_in (spoken l) ≡ actions_in l
unfolding spoken actions_in
actions_spoken [] = refl
actions_spoken (Nothing ∷ l) = actions_spoken l
actions_spoken (Thread t ∷ l) = actions_spoken l
actions_spoken (Action k x ∷ l) = ap (λ (z : List (List ℕ)). action_rows (Action k x) ++ z) (actions_spoken l)
actions_spoken (Expects e ∷ l) = actions_spoken l

pub table_spoken : (l : List Said) → table_bytes (spoken l) ≡ table_bytes l
unfolding table_bytes
table_spoken l = rw (many_spoken is_thread l refl, many_spoken is_action l refl, entries_spoken l 0, actions_spoken l)

-- a well-formed text stays so without them, whatever its lines' numbers
pub checked_spoken : (l : List Said) (line line' n m a b : ℕ) → checked_from line n m l ≡ Ok (counts_of a b) → checked_from line' n m (spoken l) ≡ Ok (counts_of a b)
unfolding spoken checked_from
checked_spoken [] line line' n m a b q = q
checked_spoken (Nothing ∷ l) line line' n m a b q = checked_spoken l (suc line) line' n m a b q
checked_spoken (Thread t ∷ l) line line' n m a b q = go (eqb t n) refl (checked_spoken l (suc line) (suc line') (n + 1) m a b)
  where
    go : (u : Bool) → eqb t n ≡ u → (checked_from (suc line) (n + 1) m l ≡ Ok (counts_of a b) → checked_from (suc line') (n + 1) m (spoken l) ≡ Ok (counts_of a b))
        → checked_from line' n m (Thread t ∷ spoken l) ≡ Ok (counts_of a b)
    go true e ih = rw e (ih (rw e at q))
    go false e ih = absurd (no_fault line (rw e at q))
checked_spoken (Action k x ∷ l) line line' n m a b q = go (eqb n 0) refl (checked_spoken l (suc line) (suc line') n (m + 1) a b)
  where
    go : (u : Bool) → eqb n 0 ≡ u → (checked_from (suc line) n (m + 1) l ≡ Ok (counts_of a b) → checked_from (suc line') n (m + 1) (spoken l) ≡ Ok (counts_of a b))
        → checked_from line' n m (Action k x ∷ spoken l) ≡ Ok (counts_of a b)
    go true e ih = absurd (no_fault line (rw e at q))
    go false e ih = rw e (ih (rw e at q))
checked_spoken (Expects e ∷ l) line line' n m a b q = absurd (no_fault line q)

pub spoken_checked : (l : List Said) (line line' n m a b : ℕ) → checked_from line' n m (spoken l) ≡ Ok (counts_of a b) → checked_from line n m l ≡ Ok (counts_of a b)
unfolding spoken checked_from
spoken_checked [] line line' n m a b q = q
spoken_checked (Nothing ∷ l) line line' n m a b q = spoken_checked l (suc line) line' n m a b q
spoken_checked (Thread t ∷ l) line line' n m a b q = go (eqb t n) refl (spoken_checked l (suc line) (suc line') (n + 1) m a b)
  where
    go : (u : Bool) → eqb t n ≡ u → (checked_from (suc line') (n + 1) m (spoken l) ≡ Ok (counts_of a b) → checked_from (suc line) (n + 1) m l ≡ Ok (counts_of a b))
        → checked_from line n m (Thread t ∷ l) ≡ Ok (counts_of a b)
    go true e ih = rw e (ih (rw e at q))
    go false e ih = absurd (no_fault line' (rw e at q))
spoken_checked (Action k x ∷ l) line line' n m a b q = go (eqb n 0) refl (spoken_checked l (suc line) (suc line') n (m + 1) a b)
  where
    go : (u : Bool) → eqb n 0 ≡ u → (checked_from (suc line') n (m + 1) (spoken l) ≡ Ok (counts_of a b) → checked_from (suc line) n (m + 1) l ≡ Ok (counts_of a b))
        → checked_from line n m (Action k x ∷ l) ≡ Ok (counts_of a b)
    go true e ih = absurd (no_fault line' (rw e at q))
    go false e ih = rw e (ih (rw e at q))
spoken_checked (Expects e ∷ l) line line' n m a b q = absurd (no_fault line' q)

-- ---- what an assembled text has

pub record Assembles (s : List ℕ) (k : ℕ) : Type 0 where
  pub threads : ℕ
  pub actions : ℕ
  pub facts : Facts
  pub short : length s ≤ longest_text
  pub well_formed : checked (saids s) ≡ Ok (counts_of threads actions)
  pub sized : sizes_outside threads actions ≡ false
  pub accepted : loaded (table_bytes (saids s)) ≡ Ok facts
  pub long : k ≡ length (table_bytes (saids s))

pub assembles : (s : List ℕ) (k : ℕ) → assembled s ≡ Ok k → Assembles s k
unfolding assembled
assembles s k q = by_length (ltb longest_text (length s)) refl
  where
    by_loaded : (n m : ℕ) (y : Result Facts Refusal) → length s ≤ longest_text → checked (saids s) ≡ Ok (counts_of n m) → sizes_outside n m ≡ false → loaded (table_bytes (saids s)) ≡ y → judged y (saids s) ≡ Ok k → Assembles s k
    by_loaded n m (Ok f) h c i e r = record { threads = n; actions = m; facts = f; short = h; well_formed = c; sized = i; accepted = e; long = cc }
    by_loaded n m (Err x) h c i e r = absurd (let z : ◌≡◌ {A = ℕ} 0 1 = cc in omega arith)

    by_size : (n m : ℕ) (b : Bool) → length s ≤ longest_text → checked (saids s) ≡ Ok (counts_of n m) → sizes_outside n m ≡ b
        → pick b (Err (Refused (refusal 2 0) 0)) (judged (loaded (table_bytes (saids s))) (saids s)) ≡ Ok k → Assembles s k
    by_size n m true h c i r = absurd (let z : ◌≡◌ {A = ℕ} 0 1 = cc in omega arith)
    by_size n m false h c i r = by_loaded n m (loaded (table_bytes (saids s))) h c i refl r

    by_check : (y : Result Counts Fault) → length s ≤ longest_text → checked (saids s) ≡ y → answered y (saids s) ≡ Ok k → Assembles s k
    by_check (Err e) h c r = absurd (let z : ◌≡◌ {A = ℕ} 0 1 = cc in omega arith)
    by_check (Ok n) h c r = by_size n.threads n.actions (sizes_outside n.threads n.actions) h c refl r

    by_length : (b : Bool) → ltb longest_text (length s) ≡ b → Assembles s k
    by_length true e = absurd (let r : (Err TooLong) ≡ Ok k = rw e at q in let z : ◌≡◌ {A = ℕ} 0 1 = cc in omega arith)
    by_length false e = by_check (checked (saids s)) (ltb-false longest_text (length s) e) refl (rw e at q)

-- ---- the theorem

pub record SameTable (s t : List ℕ) (k : ℕ) : Type 0 where
  pub answer : assembled t ≡ Ok k
  pub buffer : (out : List ℕ) → assembled_in s out ≡ assembled_in t out

-- the same words on the lines that have any
pub same_words : (s t : List ℕ) (k : ℕ) → word_lines s ≡ word_lines t → length t ≤ longest_text → assembled s ≡ Ok k → SameTable s t k
unfolding assembled assembled_in
same_words s t k e h q =
    let a = assembles s k q in
    let n = a.threads in
    let m = a.actions in
    let spoke : spoken (saids s) ≡ spoken (saids t) = spoken_words (lines_of s) ∙ ap (λ (l : List (List (List ℕ))). map meaning_of l) e ∙ sym (spoken_words (lines_of t)) in
    let same : table_bytes (saids s) ≡ table_bytes (saids t) = sym (table_spoken (saids s)) ∙ ap table_bytes spoke ∙ table_spoken (saids t) in
    let counts : checked_from 1 0 0 (saids t) ≡ Ok (counts_of n m) =
    spoken_checked (saids t) 1 1 0 0 n m (rw spoke at (checked_spoken (saids s) 1 1 0 0 n m a.well_formed)) in
    let long = le-ltb longest_text (length s) a.short in
    let short = le-ltb longest_text (length t) h in
    record {
      answer = rw (short, counts, a.sized, ← same, a.accepted) (ap Ok (ap length (sym same) ∙ sym a.long));
      buffer = λ out. rw (long, short, counts, a.well_formed, a.sized, same);
    }
