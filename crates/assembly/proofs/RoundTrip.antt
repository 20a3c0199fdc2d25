-- Assembling what was disassembled gives the table back, for every accepted table.
use Rattle.std.specs.Prelude.{Ok}
use Prim.Native.Nat.{ℕ, zero, suc, ◌+◌, ◌*◌, ◌%◌, ◌≤◌, ◌<◌}
use native.Mathlib.Nat.{add_assoc, mod-eq_of_lt}
use native.Mathlib.Omega.{arith}
use mathlib.Core.Path.{◌≡◌, refl, sym, ap, ◌∙◌}
use mathlib.Core.List.{List, [], ◌∷◌, ◌++◌, append-nil, flatten}
use mathlib.Core.Bool.{true}
use borrow.Author.Tests.{eqb-true, not-false, le-ltb}
use lib.ListN.{length, take, drop, length-drop, length-append, take-append-drop}
use lib.Seq.{drop-drop, take-add, take_all, get_or-drop}
use Rattle.table.specs.Sum.{sum_to}
use Rattle.table.specs.Format.{kind_of, kind, Table, u24_at, threads_of, actions_of, table_of}
use Rattle.table.specs.declared.kinds.Kind.{Kind}
use Rattle.table.specs.declared.kinds.Kind.TheVariants.{End as end, Work as work, Alloc as alloc, Free as free, Fork as fork, Join as join, Unknown as unknown}
use Rattle.table.specs.Checks.{argument_fits, argument_wrong, owner}
use Rattle.table.specs.Load.{loaded}
use Rattle.table.specs.declared.Facts.{Facts}
use Rattle.table.proofs.Parts.{code_in_table}
use Rattle.table.proofs.Bodies.{first_is, body_within, kind_known}
use Rattle.text.specs.Text.{ascii, decimal, newline}
use Rattle.text.proofs.Decimal.{decimal_length}
use Rattle.text.proofs.Putting.{flatten_append}
use Rattle.assembly.specs.Words.{parts, no_number}
use Rattle.assembly.specs.Said.{saids}
use Rattle.assembly.specs.Assembly.{checked_from, pair_row, action_row, entries_from, actions_in, table_bytes, over, longest_text, assembled, assembled_in}
use Rattle.assembly.specs.Disassembly.{thread_texts, operand_texts, action_texts, number_texts, line_texts, body_texts, threads_texts, text_of}
use Rattle.assembly.specs.declared.Said.TheVariants.{Thread, Action}
use Rattle.assembly.proofs.Accepted.{Shape, shape}
use Rattle.assembly.proofs.Says.{SaysAs, says_none, says_both, thread_says, BareIsZero, action_says}
use Rattle.assembly.proofs.Back.{Bytes, body_saids, thread_saids, table_saids, table_checked, table_threads, table_actions, entries_next, actions_append, pair_four, action_four}
use Rattle.assembly.specs.Assembly.{counts_of}

-- ---- an action of an accepted table keeps the rule of its kind

bare_zero : (k : Kind) (own n x : ℕ) → argument_fits k own n x ≡ true → BareIsZero k x
bare_zero end own n x e = eqb-true x 0 e
bare_zero work own n x e = eqb-true x 0 e
bare_zero alloc own n x e = tt
bare_zero free own n x e = tt
bare_zero fork own n x e = tt
bare_zero join own n x e = tt
bare_zero unknown own n x e = tt

-- ---- how long the text is

operand_length : (w : List ℕ) (x : ℕ) → length w ≤ 6 → x < no_number → length (flatten (operand_texts w x)) ≤ 14
unfolding flatten
operand_length w x h l = omega (arith, length-append w (decimal x ++ []), length-append (decimal x) [], decimal_length 7 x (omega arith))

action_length : (k : Kind) (x : ℕ) → x < no_number → length (flatten (action_texts k x)) ≤ 14
unfolding action_texts flatten
action_length end x h = omega arith
action_length work x h = omega arith
action_length alloc x h = operand_length (ascii "alloc ") x (omega arith) h
action_length free x h = operand_length (ascii "free ") x (omega arith) h
action_length fork x h = operand_length (ascii "fork ") x (omega arith) h
action_length join x h = operand_length (ascii "join ") x (omega arith) h
action_length unknown x h = omega arith

-- a word, a number of at most 4 digits, a newline
numbered_length : (w : List ℕ) (x : ℕ) → x < 10000 → length (flatten (w ∷ decimal x ∷ newline ∷ [])) ≤ length w + 5
unfolding flatten
numbered_length w x h = omega (arith, length-append w (decimal x ++ (newline ++ [])), length-append (decimal x) (newline ++ []), decimal_length 3 x (omega arith))

-- ---- an accepted table

module _ (s : List ℕ) (bytes : Bytes s) (z : Shape s) where
  abbrev T : Table
  T = table_of s

  abbrev n : ℕ
  n = threads_of s

  abbrev m : ℕ
  m = actions_of s

  -- the table's fields by the bytes
  argument_in : (a : ℕ) → u24_at s (4 + 4 * n + 4 * a + 1) ≡ T.argument a
  unfolding table_of
  argument_in a =
      let i : ℕ = 4 + 4 * n + 4 * a + 1 in
      let small : u24_at s i < 16777216 = omega (arith, bytes i, bytes (i + 1), bytes (i + 2)) in
      sym (mod-eq_of_lt small) ∙ cut a
    where
      cut : (a : ℕ) → u24_at s (4 + 4 * n + 4 * a + 1) % 16777216 ≡ T.argument a
      cut a = simp (get_or-drop, add_assoc)

  argument_small : (a : ℕ) → T.argument a < no_number
  argument_small a =
      let i : ℕ = 4 + 4 * n + 4 * a + 1 in
      omega (arith, argument_in a, bytes i, bytes (i + 1), bytes (i + 2))

  bare : (a : ℕ) → a < m → BareIsZero (kind_of (T.code a)) (T.argument a)
  unfolding argument_wrong table_of
  bare a h = bare_zero (kind T a) (owner T a) T.threads (T.argument a) (not-false (argument_fits (kind T a) (owner T a) T.threads (T.argument a)) (z.rules.bodies.arguments a h))

  known : (a : ℕ) → a < m → kind_of (T.code a) ≡ unknown → ⊥
  unfolding table_of
  known a h = kind_known T z.rules.contents z.rules.bodies a h

  -- what the text says
  body_says : (a k : ℕ) → a + k ≤ m → SaysAs (flatten (body_texts T a k)) (body_saids T a k)
  unfolding body_texts body_saids flatten
  body_says a zero h t = says_none t
  body_says a (suc k) h t =
      rw (flatten_append (body_texts T a k) (line_texts T (a + k)))
      (says_both (flatten (body_texts T a k)) (flatten (line_texts T (a + k))) (body_saids T a k) (Action (T.code (a + k)) (T.argument (a + k)) ∷ [])
      (body_says a k (omega arith))
      (action_says (T.code (a + k)) (T.argument (a + k)) (a + k) (argument_small (a + k)) (omega (arith, z.actions)) (known (a + k) (omega arith)) (bare (a + k) (omega arith)))
      t)

  within : (t : ℕ) → t < n → T.first t + T.count t ≤ m
  unfolding table_of
  within t h = body_within T z.rules.contents t h

  table_says : (k : ℕ) → k ≤ n → SaysAs (flatten (threads_texts T k)) (table_saids T k)
  unfolding threads_texts table_saids flatten
  table_says zero h t = says_none t
  table_says (suc k) h t =
      rw (flatten_append (threads_texts T k) (thread_texts k ++ body_texts T (T.first k) (T.count k)), flatten_append (thread_texts k) (body_texts T (T.first k) (T.count k)))
      (says_both (flatten (threads_texts T k)) (flatten (thread_texts k) ++ flatten (body_texts T (T.first k) (T.count k))) (table_saids T k) (thread_saids T k)
      (table_says k (omega arith))
      (says_both (flatten (thread_texts k)) (flatten (body_texts T (T.first k) (T.count k))) (Thread k ∷ []) (body_saids T (T.first k) (T.count k))
      (thread_says k (omega (arith, z.threads)))
      (body_says (T.first k) (T.count k) (within k (omega arith))))
      t)

  pub text_says : saids (text_of T) ≡ table_saids T n
  unfolding text_of table_of parts
  text_says = ap saids (sym (append-nil (flatten (threads_texts T n)))) ∙ table_says n (omega arith) [] ∙ append-nil (table_saids T n)

  -- its length
  line_length : (a : ℕ) → a < m → length (flatten (line_texts T a)) ≤ 29
  line_length a h =
      let x : List (List ℕ) = action_texts (kind_of (T.code a)) (T.argument a) in
      rw (flatten_append x (number_texts a), length-append (flatten x) (flatten (number_texts a)))
      (omega (arith, action_length (kind_of (T.code a)) (T.argument a) (argument_small a), numbered_length (ascii " # action ") a (omega (arith, z.actions))))

  body_length : (a k : ℕ) → a + k ≤ m → length (flatten (body_texts T a k)) ≤ 29 * k
  unfolding body_texts flatten
  body_length a zero h = omega arith
  body_length a (suc k) h =
      rw (flatten_append (body_texts T a k) (line_texts T (a + k)), length-append (flatten (body_texts T a k)) (flatten (line_texts T (a + k))))
      (omega (arith, body_length a k (omega arith), line_length (a + k) (omega arith)))

  threads_length : (k : ℕ) → k ≤ n → length (flatten (threads_texts T k)) ≤ 12 * k + 29 * sum_to T.count k
  unfolding threads_texts flatten sum_to
  threads_length zero h = omega arith
  threads_length (suc k) h =
      let x : List ℕ = flatten (threads_texts T k) in
      let y : List ℕ = flatten (thread_texts k) in
      let w : List ℕ = flatten (body_texts T (T.first k) (T.count k)) in
      rw (flatten_append (threads_texts T k) (thread_texts k ++ body_texts T (T.first k) (T.count k)), flatten_append (thread_texts k) (body_texts T (T.first k) (T.count k)), length-append x (y ++ w), length-append y w)
      (omega (arith, threads_length k (omega arith), numbered_length (ascii "thread ") k (omega (arith, z.threads)), body_length (T.first k) (T.count k) (within k (omega arith))))

  pub text_length : length (text_of T) ≤ longest_text
  unfolding text_of table_of
  text_length = omega (arith, threads_length n (omega arith), z.threads, z.actions, z.counts)

  -- the bytes
  first_sum : (k : ℕ) → k < n → sum_to T.count k ≡ T.first k
  unfolding table_of
  first_sum k h = sym (first_is T z.rules.contents k h)

  entry_four : (k : ℕ) → k < n → pair_row (T.first k) (T.count k) ≡ take 4 (drop (4 + 4 * k) s)
  unfolding table_of
  entry_four k h =
      let i : 6 + 4 * k ≡ 4 + 4 * k + 2 = omega arith in
      rw i (pair_four s bytes (4 + 4 * k) (omega (arith, z.long)))

  entry_bytes : (k : ℕ) → k ≤ n → flatten (entries_from 0 (table_saids T k)) ≡ take (4 * k) (drop 4 s)
  unfolding table_saids entries_from flatten
  entry_bytes zero h = refl
  entry_bytes (suc k) h =
      let q : 4 * suc k ≡ 4 * k + 4 = omega arith in
      rw (
        entries_next T k,
        flatten_append (entries_from 0 (table_saids T k)) (pair_row (sum_to T.count k) (T.count k) ∷ []),
        entry_bytes k (omega arith),
        first_sum k (omega arith),
        entry_four k (omega arith),
        q,
        take-add (4 * k) 4 (drop 4 s),
        drop-drop (4 * k) 4 s,
      )

  row_four : (a : ℕ) → a < m → action_row (T.code a) (T.argument a) ≡ take 4 (drop (4 + 4 * n + 4 * a) s)
  row_four a h =
      rw (← argument_in a, ← code_in_table s n a refl) (action_four s bytes (4 + 4 * n + 4 * a) (omega (arith, z.long)))

  body_bytes : (a k : ℕ) → a + k ≤ m → flatten (actions_in (body_saids T a k)) ≡ take (4 * k) (drop (4 + 4 * n + 4 * a) s)
  unfolding body_saids actions_in flatten
  body_bytes a zero h = refl
  body_bytes a (suc k) h =
      let q : 4 * suc k ≡ 4 * k + 4 = omega arith in
      let p : 4 + 4 * n + 4 * a + 4 * k ≡ 4 + 4 * n + 4 * (a + k) = omega arith in
      rw (
        actions_append (body_saids T a k) (Action (T.code (a + k)) (T.argument (a + k)) ∷ []),
        flatten_append (actions_in (body_saids T a k)) (action_row (T.code (a + k)) (T.argument (a + k)) ∷ []),
        body_bytes a k (omega arith),
        row_four (a + k) (omega arith),
        q,
        take-add (4 * k) 4 (drop (4 + 4 * n + 4 * a) s),
        drop-drop (4 * k) (4 + 4 * n + 4 * a) s,
        p,
      )

  action_bytes : (k : ℕ) → k ≤ n → flatten (actions_in (table_saids T k)) ≡ take (4 * sum_to T.count k) (drop (4 + 4 * n) s)
  unfolding table_saids actions_in flatten sum_to
  action_bytes zero h = refl
  action_bytes (suc k) h =
      let q : 4 * (sum_to T.count k + T.count k) ≡ 4 * sum_to T.count k + 4 * T.count k = omega arith in
      rw (
        actions_append (table_saids T k) (thread_saids T k),
        flatten_append (actions_in (table_saids T k)) (actions_in (body_saids T (T.first k) (T.count k))),
        action_bytes k (omega arith),
        body_bytes (T.first k) (T.count k) (within k (omega arith)),
        q,
        take-add (4 * sum_to T.count k) (4 * T.count k) (drop (4 + 4 * n) s),
        drop-drop (4 * sum_to T.count k) (4 + 4 * n) s,
        first_sum k (omega arith),
      )

  pub table_back : table_bytes (table_saids T n) ≡ s
  unfolding table_bytes flatten
  table_back =
      let body : List ℕ = drop (4 + 4 * n) s in
      let all : take (4 * m) body ≡ body = take_all (4 * m) body (omega (arith, length-drop (4 + 4 * n) s, z.long)) in
      let head : pair_row n m ≡ take 4 s = pair_four s bytes 0 (omega (arith, z.long)) in
      let rest : take (4 * n) (drop 4 s) ++ body ≡ drop 4 s = ap (λ (x : List ℕ). take (4 * n) (drop 4 s) ++ x) (sym (drop-drop (4 * n) 4 s)) ∙ take-append-drop (4 * n) (drop 4 s) in
      rw (
        table_threads T n,
        table_actions T n,
        z.counts,
        flatten_append (entries_from 0 (table_saids T n)) (actions_in (table_saids T n)),
        entry_bytes n (omega arith),
        action_bytes n (omega arith),
        z.counts,
        all,
        rest,
      )
      (ap (λ (x : List ℕ). x ++ drop 4 s) head ∙ take-append-drop 4 s)

-- ---- the theorem

pub record AssemblesTo (text table : List ℕ) : Type 0 where
  pub answer : assembled text ≡ Ok (length table)
  pub buffer : (out : List ℕ) → assembled_in text out ≡ over table out

-- the text of an accepted table is assembled to that table
pub assembled_back : (s : List ℕ) → Bytes s → (f : Facts) → loaded s ≡ Ok f → AssemblesTo (text_of (table_of s)) s
unfolding assembled assembled_in
assembled_back s bytes f e =
    let z = shape s f e in
    let short = le-ltb longest_text (length (text_of (table_of s))) (text_length s bytes z) in
    let says = text_says s bytes z in
    let back = table_back s bytes z in
    let counts : checked_from 1 0 0 (table_saids (table_of s) (threads_of s)) ≡ Ok (counts_of (threads_of s) (actions_of s)) = table_checked (table_of s) (threads_of s) 1 ∙ ap (λ (x : ℕ). Ok (counts_of (threads_of s) x)) z.counts in
    record {
      answer = rw (short, says, counts, z.rules.head.ranged, back, e) (ap Ok (ap length back));
      buffer = λ out. rw (short, says, counts, z.rules.head.ranged, back);
    }
