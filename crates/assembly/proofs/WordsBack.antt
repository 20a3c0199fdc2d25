-- Disassembling an assembled text gives its words back, one action to a line.
use Prim.Native.Nat.{ℕ, zero, suc, ◌+◌, ◌*◌, ◌/◌, ◌%◌, ◌≤◌, ◌<◌}
use native.Mathlib.Omega.{arith}
use mathlib.Core.Path.{◌≡◌, refl, sym, ap, ◌∙◌}
use mathlib.Core.List.{List, [], ◌∷◌, ◌++◌, map, flatten}
use mathlib.Core.Bool.{Bool, true, false}
use borrow.Author.Tests.{eqb-true}
use lib.Dec.{eqb}
use lib.ListN.{length, take, drop}
use lib.Seq.{take_at, drop_at}
use Rattle.table.specs.Format.{threads_of, table_of}
use Rattle.text.proofs.Putting.{flatten_append}
use Rattle.assembly.specs.Words.{parts, is_blank, uncommented, no_number, lines_of, words_of}
use Rattle.assembly.specs.Said.{thread_code, meaning_of, line_said, saids, with_words, word_lines}
use Rattle.assembly.specs.Assembly.{checked_from, is_thread, is_action, how_many, body_count, entries_from, actions_in, table_bytes, assembled}
use Rattle.assembly.specs.Disassembly.{text_of}
use Rattle.assembly.specs.declared.Said.{Said}
use Rattle.assembly.specs.declared.Said.TheVariants.{Nothing, Thread, Action, Expects}
use Rattle.assembly.proofs.Counts.{no_fault, totals}
use Rattle.assembly.proofs.TableRows.{entries_length, in_range}
use Rattle.assembly.proofs.Accepted.{shape}
use Rattle.assembly.proofs.Back.{Bytes, table_saids, table_checked}
use Rattle.assembly.proofs.RoundTrip.{text_says, table_back}
use Rattle.assembly.proofs.SameWords.{spoken, Speaks, speaks_thread, speaks_action, speaks_expects, speaks_kept, speaks, table_spoken, checked_spoken, assembles}
use Rattle.assembly.proofs.Exact.{Exact, SomeBytes, words_for, meaning_exact, nonempty_some}
use Rattle.std.specs.Prelude.{Ok}
use Rattle.assembly.specs.Assembly.{counts_of}

-- ---- lines without a fault

abbrev NotExpects : Said → Type 0
NotExpects Nothing = Unit {0}
NotExpects (Thread t) = Unit {0}
NotExpects (Action k x) = Unit {0}
NotExpects (Expects e) = ⊥

abbrev NoExpects : List Said → Type 0
NoExpects [] = Unit {0}
NoExpects (x ∷ l) = NotExpects x × NoExpects l

no_expects : (l : List Said) (line n m a b : ℕ) → checked_from line n m l ≡ Ok (counts_of a b) → NoExpects l
unfolding checked_from
no_expects [] line n m a b q = tt
no_expects (Nothing ∷ l) line n m a b q = (tt, no_expects l (suc line) n m a b q)
no_expects (Thread t ∷ l) line n m a b q = go (eqb t n) refl (no_expects l (suc line) (n + 1) m a b)
  where
    go : (u : Bool) → eqb t n ≡ u → (checked_from (suc line) (n + 1) m l ≡ Ok (counts_of a b) → NoExpects l) → Unit {0} × NoExpects l
    go true e ih = (tt, ih (rw e at q))
    go false e ih = absurd (no_fault line (rw e at q))
no_expects (Action k x ∷ l) line n m a b q = go (eqb n 0) refl (no_expects l (suc line) n (m + 1) a b)
  where
    go : (u : Bool) → eqb n 0 ≡ u → (checked_from (suc line) n (m + 1) l ≡ Ok (counts_of a b) → NoExpects l) → Unit {0} × NoExpects l
    go true e ih = absurd (no_fault line (rw e at q))
    go false e ih = (tt, ih (rw e at q))
no_expects (Expects e ∷ l) line n m a b q = absurd (no_fault line q)

-- threads and actions with numbers of 24 bits, and nothing else
abbrev Clear : Said → Type 0
Clear Nothing = ⊥
Clear (Thread t) = Unit {0}
Clear (Action k x) = (k < thread_code) × (x < no_number)
Clear (Expects e) = ⊥

abbrev AllClear : List Said → Type 0
AllClear [] = Unit {0}
AllClear (x ∷ l) = Clear x × AllClear l

exact_words : {x : Said} → Speaks x → (ws : List (List ℕ)) → NotExpects x → Exact ws x → (ws ≡ words_for x) × Clear x
exact_words (speaks_thread t) ws n e = (e.0, tt)
exact_words (speaks_action k x) ws n e = (e.0, (e.1, e.2))
exact_words (speaks_expects e) ws n d = absurd n

-- the lines that have words are those that say something, and each has the words for what it says
record Told (ws : List (List (List ℕ))) (l : List Said) : Type 0 where
  words : with_words ws ≡ map words_for (spoken l)
  clear : AllClear (spoken l)

told_line : (ws : List (List ℕ)) → SomeBytes ws → (r : List (List (List ℕ))) (l : List Said) → NotExpects (meaning_of ws) → Told r l → Told (ws ∷ r) (meaning_of ws ∷ l)
unfolding with_words spoken meaning_of
told_line [] p r l n t = record { words = t.words; clear = t.clear }
told_line (w ∷ ws) p r l n t =
    let s = speaks w ws in
    let e = exact_words s (w ∷ ws) n (meaning_exact w ws p.1) in
    let k : spoken (meaning_of (w ∷ ws) ∷ l) ≡ meaning_of (w ∷ ws) ∷ spoken l = speaks_kept s l in
    record {
      words = (λ i. e.0 i ∷ t.words i) ∙ ap (λ (z : List Said). map words_for z) (sym k);
      clear = rw k (e.1, t.clear);
    }

told_lines : (ls : List (List ℕ)) → NoExpects (map line_said ls) → Told (map words_of ls) (map line_said ls)
unfolding with_words spoken
told_lines [] h = record { words = refl; clear = tt }
told_lines (l ∷ ls) h = told_line (words_of l) (nonempty_some (parts is_blank (uncommented l))) (map words_of ls) (map line_said ls) h.0 (told_lines ls h.1)

-- ---- the table tells what was said

pair_same : (a b : ℕ) → a < 65536 → b < 65536 → a % 256 ≡ b % 256 → a / 256 % 256 ≡ b / 256 % 256 → a ≡ b
pair_same a b h k p q =
    let x : a / 256 % 256 ≡ a / 256 = omega arith in
    let y : b / 256 % 256 ≡ b / 256 = omega arith in
    omega (arith, p, q, x, y)

argument_same : (x y : ℕ) → x < no_number → y < no_number → x % 256 ≡ y % 256 → x / 256 % 256 ≡ y / 256 % 256 → x / 65536 % 256 ≡ y / 65536 % 256 → x ≡ y
argument_same x y h k p q r =
    let u : x / 65536 % 256 ≡ x / 65536 = omega arith in
    let v : y / 65536 % 256 ≡ y / 65536 = omega arith in
    let d : x / 256 / 256 ≡ x / 65536 = omega arith in
    let e : y / 256 / 256 ≡ y / 65536 = omega arith in
    omega (arith, p, q, r, u, v, d, e)

count_many : (l : List Said) → body_count l ≤ how_many is_action l
unfolding body_count how_many
count_many [] = omega arith
count_many (Nothing ∷ l) = count_many l
count_many (Thread t ∷ l) = omega arith
count_many (Action k x ∷ l) = omega (arith, count_many l)
count_many (Expects e ∷ l) = count_many l

thread_checked : (line n m t : ℕ) (l : List Said) (x y : ℕ) → checked_from line n m (Thread t ∷ l) ≡ Ok (counts_of x y) → (t ≡ n) × (checked_from (suc line) (n + 1) m l ≡ Ok (counts_of x y))
unfolding checked_from
thread_checked line n m t l x y q = go (eqb t n) refl
  where
    go : (u : Bool) → eqb t n ≡ u → (t ≡ n) × (checked_from (suc line) (n + 1) m l ≡ Ok (counts_of x y))
    go true e = (eqb-true t n e, rw e at q)
    go false e = absurd (no_fault line (rw e at q))

action_checked : (line n m k z : ℕ) (l : List Said) (x y : ℕ) → checked_from line n m (Action k z ∷ l) ≡ Ok (counts_of x y) → checked_from (suc line) n (m + 1) l ≡ Ok (counts_of x y)
unfolding checked_from
action_checked line n m k z l x y q = go (eqb n 0) refl
  where
    go : (u : Bool) → eqb n 0 ≡ u → checked_from (suc line) n (m + 1) l ≡ Ok (counts_of x y)
    go true e = absurd (no_fault line (rw e at q))
    go false e = rw e at q

-- a text begins with a thread
starts : (l : List Said) (line m x y : ℕ) → AllClear l → checked_from line 0 m l ≡ Ok (counts_of x y) → body_count l ≡ 0
unfolding checked_from body_count
starts [] line m x y h q = refl
starts (Nothing ∷ l) line m x y h q = absurd h.0
starts (Thread t ∷ l) line m x y h q = refl
starts (Action k z ∷ l) line m x y h q = absurd (no_fault line q)
starts (Expects e ∷ l) line m x y h q = absurd h.0

nil_cons : {b : ℕ} {s : List ℕ} → [] ≡ b ∷ s → ⊥
nil_cons e = let z : ◌≡◌ {A = ℕ} 0 1 = cc in omega arith

-- one text of a table
record Rows (a n : ℕ) (l r : List Said) : Type 0 where
  clear : AllClear l
  clear' : AllClear r
  few : how_many is_action l < 65536
  few' : how_many is_action r < 65536
  count : body_count l ≡ body_count r
  entries : flatten (entries_from a l) ≡ flatten (entries_from a r)
  actions : flatten (actions_in l) ≡ flatten (actions_in r)

thread_rows : (a n t u : ℕ) (l r : List Said) → Rows a n (Thread t ∷ l) (Thread u ∷ r) → Rows a (n + 1) l r
unfolding how_many entries_from actions_in flatten
thread_rows a n t u l r v =
    let e = v.entries in
    let p : body_count l % 256 ≡ body_count r % 256 = cc in
    let q : body_count l / 256 % 256 ≡ body_count r / 256 % 256 = cc in
    let d : flatten (entries_from a l) ≡ flatten (entries_from a r) = cc in
    record {
      clear = v.clear.1;
      clear' = v.clear'.1;
      few = v.few;
      few' = v.few';
      count = pair_same (body_count l) (body_count r) (omega (arith, v.few, count_many l)) (omega (arith, v.few', count_many r)) p q;
      entries = d;
      actions = v.actions;
    }

record ActionRows (a n k x j y : ℕ) (l r : List Said) : Type 0 where
  kind : k ≡ j
  argument : x ≡ y
  rest : Rows (a + 1) n l r

action_rows_lem : (a n k x j y : ℕ) (l r : List Said) → Rows a n (Action k x ∷ l) (Action j y ∷ r) → ActionRows a n k x j y l r
unfolding how_many body_count entries_from actions_in flatten
action_rows_lem a n k x j y l r v =
    let e = v.actions in
    let d : k ≡ j = cc in
    let p : x % 256 ≡ y % 256 = cc in
    let q : x / 256 % 256 ≡ y / 256 % 256 = cc in
    let w : x / 65536 % 256 ≡ y / 65536 % 256 = cc in
    let f : flatten (actions_in l) ≡ flatten (actions_in r) = cc in
    record {
      kind = d;
      argument = argument_same x y v.clear.0.1 v.clear'.0.1 p q w;
      rest = record {
        clear = v.clear.1;
        clear' = v.clear'.1;
        few = omega (arith, v.few);
        few' = omega (arith, v.few');
        count = omega (arith, v.count);
        entries = v.entries;
        actions = f;
      };
    }

same_said : (l r : List Said) (a n line line' m m' x y x' y' : ℕ) → Rows a n l r → checked_from line n m l ≡ Ok (counts_of x y) → checked_from line' n m' r ≡ Ok (counts_of x' y') → l ≡ r
unfolding body_count entries_from actions_in flatten
same_said [] [] a n line line' m m' x y x' y' v p q = refl
same_said [] (Nothing ∷ r) a n line line' m m' x y x' y' v p q = absurd v.clear'.0
same_said [] (Thread t ∷ r) a n line line' m m' x y x' y' v p q = absurd (nil_cons v.entries)
same_said [] (Action k z ∷ r) a n line line' m m' x y x' y' v p q = absurd (nil_cons v.actions)
same_said [] (Expects e ∷ r) a n line line' m m' x y x' y' v p q = absurd v.clear'.0
same_said (Nothing ∷ l) r a n line line' m m' x y x' y' v p q = absurd v.clear.0
same_said (Expects e ∷ l) r a n line line' m m' x y x' y' v p q = absurd v.clear.0
same_said (Thread t ∷ l) [] a n line line' m m' x y x' y' v p q = absurd (nil_cons (sym v.entries))
same_said (Thread t ∷ l) (Nothing ∷ r) a n line line' m m' x y x' y' v p q = absurd v.clear'.0
same_said (Thread t ∷ l) (Thread u ∷ r) a n line line' m m' x y x' y' v p q =
    let c = thread_checked line n m t l x y p in
    let d = thread_checked line' n m' u r x' y' q in
    let ih = same_said l r a (n + 1) (suc line) (suc line') m m' x y x' y' (thread_rows a n t u l r v) c.1 d.1 in
    (λ i. Thread ((c.0 ∙ sym d.0) i) ∷ ih i)
same_said (Thread t ∷ l) (Action k z ∷ r) a n line line' m m' x y x' y' v p q = absurd (omega (arith, v.count))
same_said (Thread t ∷ l) (Expects e ∷ r) a n line line' m m' x y x' y' v p q = absurd v.clear'.0
same_said (Action k z ∷ l) [] a n line line' m m' x y x' y' v p q = absurd (nil_cons (sym v.actions))
same_said (Action k z ∷ l) (Nothing ∷ r) a n line line' m m' x y x' y' v p q = absurd v.clear'.0
same_said (Action k z ∷ l) (Thread u ∷ r) a n line line' m m' x y x' y' v p q = absurd (omega (arith, v.count))
same_said (Action k z ∷ l) (Action j w ∷ r) a n line line' m m' x y x' y' v p q =
    let c = action_rows_lem a n k z j w l r v in
    let ih = same_said l r (a + 1) n (suc line) (suc line') (m + 1) (m' + 1) x y x' y' c.rest (action_checked line n m k z l x y p) (action_checked line' n m' j w r x' y' q) in
    (λ i. Action (c.kind i) (c.argument i) ∷ ih i)
same_said (Action k z ∷ l) (Expects e ∷ r) a n line line' m m' x y x' y' v p q = absurd v.clear'.0

-- ---- its bytes

abbrev Small : List ℕ → Type 0
Small [] = Unit {0}
Small (b ∷ s) = (b < 256) × Small s

small_get_d : (s : List ℕ) → Small s → Bytes s
small_get_d [] h i = omega arith
small_get_d (b ∷ s) h zero = h.0
small_get_d (b ∷ s) h (suc i) = small_get_d s h.1 i

small_append : (s t : List ℕ) → Small s → Small t → Small (s ++ t)
small_append [] t h k = k
small_append (b ∷ s) t h k = (h.0, small_append s t h.1 k)

entries_small : (l : List Said) (a : ℕ) → Small (flatten (entries_from a l))
unfolding entries_from flatten
entries_small [] a = tt
entries_small (Nothing ∷ l) a = entries_small l a
entries_small (Thread t ∷ l) a = (omega arith, (omega arith, (omega arith, (omega arith, entries_small l a))))
entries_small (Action k x ∷ l) a = entries_small l (a + 1)
entries_small (Expects e ∷ l) a = entries_small l a

actions_small : (l : List Said) → AllClear l → Small (flatten (actions_in l))
unfolding actions_in flatten
actions_small [] h = tt
actions_small (Nothing ∷ l) h = actions_small l h.1
actions_small (Thread t ∷ l) h = actions_small l h.1
actions_small (Action k x ∷ l) h = (omega (arith, h.0.0), (omega arith, (omega arith, (omega arith, actions_small l h.1))))
actions_small (Expects e ∷ l) h = actions_small l h.1

table_small : (l : List Said) → AllClear l → Bytes (table_bytes l)
unfolding table_bytes flatten
table_small l h =
    small_get_d (table_bytes l) (
      omega arith,
      (
        omega arith,
        (
          omega arith,
          (
            omega arith,
            rw (flatten_append (entries_from 0 l) (actions_in l)) (small_append (flatten (entries_from 0 l)) (flatten (actions_in l)) (entries_small l 0) (actions_small l h)),
          ),
        ),
      ),
    )

-- two texts of the same table say the same
record Parts (l r : List Said) : Type 0 where
  entries : flatten (entries_from 0 l) ≡ flatten (entries_from 0 r)
  actions : flatten (actions_in l) ≡ flatten (actions_in r)

table_parts : (l r : List Said) → how_many is_thread l < 65536 → how_many is_thread r < 65536 → table_bytes l ≡ table_bytes r → Parts l r
unfolding table_bytes flatten
table_parts l r h k e =
    let p : how_many is_thread l % 256 ≡ how_many is_thread r % 256 = cc in
    let q : how_many is_thread l / 256 % 256 ≡ how_many is_thread r / 256 % 256 = cc in
    let n : how_many is_thread l ≡ how_many is_thread r = pair_same (how_many is_thread l) (how_many is_thread r) h k p q in
    let f : flatten (entries_from 0 l ++ actions_in l) ≡ flatten (entries_from 0 r ++ actions_in r) = cc in
    let g : flatten (entries_from 0 l) ++ flatten (actions_in l) ≡ flatten (entries_from 0 r) ++ flatten (actions_in r) =
    sym (flatten_append (entries_from 0 l) (actions_in l)) ∙ f ∙ flatten_append (entries_from 0 r) (actions_in r) in
    let j : ℕ = 4 * how_many is_thread l in
    let x : length (flatten (entries_from 0 r)) ≡ j = entries_length r 0 ∙ ap (λ (i : ℕ). 4 * i) (sym n) in
    record {
      entries = sym (take_at (flatten (entries_from 0 l)) (flatten (actions_in l)) j (entries_length l 0)) ∙ ap (take j) g ∙ take_at (flatten (entries_from 0 r)) (flatten (actions_in r)) j x;
      actions = sym (drop_at (flatten (entries_from 0 l)) (flatten (actions_in l)) j (entries_length l 0)) ∙ ap (drop j) g ∙ drop_at (flatten (entries_from 0 r)) (flatten (actions_in r)) j x;
    }

record Reading (l : List Said) (n m : ℕ) : Type 0 where
  clear : AllClear l
  checks : checked_from 1 0 0 l ≡ Ok (counts_of n m)
  threads : n ≤ 1024
  actions : m ≤ 8192

one_reading : (l r : List Said) (n m n' m' : ℕ) → Reading l n m → Reading r n' m' → table_bytes l ≡ table_bytes r → l ≡ r
one_reading l r n m n' m' a b e =
    let c = totals l 1 0 0 n m a.checks in
    let d = totals r 1 0 0 n' m' b.checks in
    let p = table_parts l r (omega (arith, c.threads, a.threads)) (omega (arith, d.threads, b.threads)) e in
    same_said l r 0 0 1 1 0 0 n m n' m'
    (record {
      clear = a.clear;
      clear' = b.clear;
      few = omega (arith, c.actions, a.actions);
      few' = omega (arith, d.actions, b.actions);
      count = starts l 1 0 n m a.clear a.checks ∙ sym (starts r 1 0 n' m' b.clear b.checks);
      entries = p.entries;
      actions = p.actions;
    })
    a.checks
    b.checks

-- ---- the theorem

-- the text of an assembled table has the words of the text that was assembled
pub words_back : (s : List ℕ) (k : ℕ) → assembled s ≡ Ok k → word_lines (text_of (table_of (table_bytes (saids s)))) ≡ word_lines s
words_back s k q =
    let a = assembles s k q in
    let n = a.threads in
    let m = a.actions in
    let range = in_range n m a.sized in
    let told = told_lines (lines_of s) (no_expects (saids s) 1 0 0 n m a.well_formed) in
    let b : List ℕ = table_bytes (saids s) in
    let z = shape b a.facts a.accepted in
    let l : List Said = spoken (saids s) in
    let same : table_bytes l ≡ b = table_spoken (saids s) in
    let bytes : Bytes b = rw same at (table_small l told.clear) in
    let t : ℕ = threads_of b in
    let r : List Said = table_saids (table_of b) t in
    let says : saids (text_of (table_of b)) ≡ r = text_says b bytes z in
    let well : checked_from 1 0 0 r ≡ Ok (counts_of t _) = table_checked (table_of b) t 1 in
    let told' = told_lines (lines_of (text_of (table_of b))) (rw says (no_expects r 1 0 0 t _ well)) in
    let clear' : Told _ r = rw says at told' in
    let mine : Reading l n m = record { clear = told.clear; checks = checked_spoken (saids s) 1 1 0 0 n m a.well_formed; threads = range.0; actions = range.1 } in
    let its : Reading (spoken r) t _ = record { clear = clear'.clear; checks = checked_spoken r 1 1 0 0 t _ well; threads = z.threads; actions = rw z.counts z.actions } in
    let one : spoken r ≡ l = one_reading (spoken r) l t _ n m its mine (table_spoken r ∙ table_back b bytes z ∙ sym same) in
    told'.words ∙ ap (λ (x : List Said). map words_for (spoken x)) says ∙ ap (λ (x : List Said). map words_for x) one ∙ sym told.words
