-- A line that says a thread or an action has the words that say it, and no others.
use Prim.Native.Nat.{ℕ, zero, suc, ◌+◌, ◌-◌, ◌*◌, ◌/◌, ◌%◌, ◌≤◌, ◌<◌, min}
use native.Mathlib.Omega.{arith}
use mathlib.Core.Path.{◌≡◌, refl, sym, ap, ◌∙◌}
use mathlib.Core.List.{List, [], ◌∷◌, ◌++◌, append_assoc, append-nil}
use mathlib.Core.Bool.{Bool, true, false, true≢false}
use borrow.Author.Tests.{eqb-true, eqb-false, leb-true, ltb-true, ltb-false, lt-ltb}
use lib.Dec.{eqb, leb, ltb}
use lib.ListN.{length}
use Rattle.table.specs.Sum.{pick}
use Rattle.table.proofs.Tests.{and_both}
use Rattle.text.specs.Text.{ascii, decimal}
use Rattle.text.proofs.Decimal.{decimal_digit, decimal_more}
use Rattle.assembly.specs.Words.{nonempty, no_number, is_digit, next_value, value_from, zero_led, number_in, same}
use Rattle.assembly.specs.Said.{thread_code, no_code, code_of_word, is_bare, said_last, said_after, said_by, meaning_of}
use Rattle.assembly.specs.declared.Expected.TheVariants.{Keyword, Number, LineEnd}
use Rattle.assembly.specs.declared.Said.{Said}
use Rattle.assembly.specs.declared.Said.TheVariants.{Nothing, Thread, Action, Expects}

-- ---- numbers

-- no number stays none
pub none_stays : (w : List ℕ) → value_from no_number w ≡ no_number
unfolding value_from
none_stays [] = refl
none_stays (b ∷ w) = go (is_digit b) (none_stays w)
  where
    go : (t : Bool) → value_from no_number w ≡ no_number → value_from (pick t (min no_number (10 * no_number + (b - 48))) no_number) w ≡ no_number
    go true e = let m : min no_number (10 * no_number + (b - 48)) ≡ no_number = omega arith in rw m e
    go false e = e

-- a digit that is read on
record Digit (v b : ℕ) : Type 0 where
  low : 48 ≤ b
  high : b ≤ 57
  small : 10 * v + (b - 48) < no_number
  next : next_value v b ≡ 10 * v + (b - 48)

is_digit_lem : (v b : ℕ) (w : List ℕ) → value_from (next_value v b) w < no_number → Digit v b
is_digit_lem v b w h = go (is_digit b) refl
  where
    lost : next_value v b ≡ no_number → Digit v b
    lost e = absurd (omega (arith, none_stays w, rw e at h))

    fits : (t : Bool) → ltb (10 * v + (b - 48)) no_number ≡ t → is_digit b ≡ true → Digit v b
    fits true e d =
        let p = and_both (leb 48 b) (leb b 57) d in
        let s : 10 * v + (b - 48) < no_number = ltb-true (10 * v + (b - 48)) no_number e in
        let m : min no_number (10 * v + (b - 48)) ≡ 10 * v + (b - 48) = omega arith in
        record { low = leb-true 48 b p.0; high = leb-true b 57 p.1; small = s; next = rw (d, m) }
    fits false e d =
        let s : no_number ≤ 10 * v + (b - 48) = ltb-false (10 * v + (b - 48)) no_number e in
        let m : min no_number (10 * v + (b - 48)) ≡ no_number = omega arith in
        lost (rw (d, m))

    go : (t : Bool) → is_digit b ≡ t → Digit v b
    go true e = fits (ltb (10 * v + (b - 48)) no_number) refl e
    go false e = lost (rw e)

-- read on after a number that is not 0
read_on : (w p : List ℕ) (v : ℕ) → 0 < v → decimal v ≡ p → value_from v w < no_number → decimal (value_from v w) ≡ p ++ w
unfolding value_from
read_on [] p v h e l = e ∙ sym (append-nil p)
read_on (b ∷ w) p v h e l =
    let d = is_digit_lem v b w l in
    let q : (10 * v + (b - 48)) / 10 ≡ v = omega (arith, d.high) in
    let r : 48 + (10 * v + (b - 48)) % 10 ≡ b = omega (arith, d.low, d.high) in
    let f : decimal (10 * v + (b - 48)) ≡ p ++ (b ∷ []) = decimal_more (10 * v + (b - 48)) (omega arith) ∙ rw (q, r, e) in
    rw d.next (read_on w (p ++ (b ∷ [])) (10 * v + (b - 48)) (omega arith) f (rw d.next at l) ∙ append_assoc p (b ∷ []) w)

pub number_exact : (w : List ℕ) → 0 < length w → number_in w < no_number → decimal (number_in w) ≡ w
unfolding number_in value_from
number_exact [] h l = absurd (omega arith)
number_exact (b ∷ []) h l =
    let d = is_digit_lem 0 b [] l in
    let n : next_value 0 b ≡ b - 48 = d.next ∙ omega arith in
    let m : 48 + (b - 48) ≡ b = omega (arith, d.low) in
    rw n (decimal_digit (b - 48) (omega (arith, d.high)) ∙ rw m)
number_exact (b ∷ c ∷ w) h l = go (zero_led (b ∷ c ∷ w)) refl l
  where
    led : zero_led (b ∷ c ∷ w) ≡ eqb b 48
    led = rw (lt-ltb 1 (length (b ∷ c ∷ w)) (omega arith))

    go : (t : Bool) → zero_led (b ∷ c ∷ w) ≡ t → pick t no_number (value_from 0 (b ∷ c ∷ w)) < no_number → decimal (pick t no_number (value_from 0 (b ∷ c ∷ w))) ≡ b ∷ c ∷ w
    go true e k = absurd (omega (arith, k))
    go false e k =
        let d = is_digit_lem 0 b (c ∷ w) k in
        let n : next_value 0 b ≡ b - 48 = d.next ∙ omega arith in
        let z : b ≡ 48 → ⊥ = eqb-false b 48 (sym led ∙ e) in
        let m : 48 + (b - 48) ≡ b = omega (arith, d.low) in
        let f : decimal (b - 48) ≡ b ∷ [] = decimal_digit (b - 48) (omega (arith, d.high)) ∙ rw m in
        rw n (read_on (c ∷ w) (b ∷ []) (b - 48) (omega (arith, z, d.low)) f (rw n at k))

-- ---- keywords

same_eq : (a b : List ℕ) → same a b ≡ true → a ≡ b
unfolding same
same_eq [] [] e = refl
same_eq [] (y ∷ b) e = absurd (true≢false (sym e))
same_eq (x ∷ a) [] e = absurd (true≢false (sym e))
same_eq (x ∷ a) (y ∷ b) e = go (eqb x y) refl (same_eq a b) e
  where
    go : (t : Bool) → eqb x y ≡ t → (same a b ≡ true → a ≡ b) → pick t (same a b) false ≡ true → x ∷ a ≡ y ∷ b
    go true d f g = (λ i. eqb-true x y d i ∷ f g i)
    go false d f g = absurd (true≢false (sym g))

-- a kind's name by its code
abbrev pub keyword_of : ℕ → List ℕ
keyword_of zero = ascii "end"
keyword_of (suc zero) = ascii "work"
keyword_of (suc (suc zero)) = ascii "alloc"
keyword_of (suc (suc (suc zero))) = ascii "free"
keyword_of (suc (suc (suc (suc zero)))) = ascii "fork"
keyword_of (suc (suc (suc (suc (suc zero))))) = ascii "join"
keyword_of (suc (suc (suc (suc (suc (suc k)))))) = ascii "thread"

-- a word of a keyword's code is the keyword
pub record KeywordIs (w : List ℕ) : Type 0 where
  pub known : (code_of_word w ≡ no_code → ⊥) → w ≡ keyword_of (code_of_word w)
  pub small : code_of_word w ≤ no_code

found : (w : List ℕ) (k : ℕ) → k ≤ no_code → code_of_word w ≡ k → w ≡ keyword_of k → KeywordIs w
found w k h e d = record { known = λ _. rw e d; small = rw e h }

pub keyword_is : (w : List ℕ) → KeywordIs w
unfolding code_of_word
keyword_is w = at_end_lem (same w (ascii "end")) refl
  where
    at_thread : (t : Bool) → same w (ascii "thread") ≡ t → code_of_word w ≡ pick t thread_code no_code → KeywordIs w
    at_thread true e c = found w thread_code (omega arith) c (same_eq w (ascii "thread") e)
    at_thread false e c = record { known = λ n. absurd (n c); small = rw c (omega arith) }

    at_join : (t : Bool) → same w (ascii "join") ≡ t → code_of_word w ≡ pick t 5 (pick (same w (ascii "thread")) thread_code no_code) → KeywordIs w
    at_join true e c = found w 5 (omega arith) c (same_eq w (ascii "join") e)
    at_join false e c = at_thread (same w (ascii "thread")) refl c

    at_fork : (t : Bool) → same w (ascii "fork") ≡ t → code_of_word w ≡ pick t 4 (pick (same w (ascii "join")) 5 (pick (same w (ascii "thread")) thread_code no_code)) → KeywordIs w
    at_fork true e c = found w 4 (omega arith) c (same_eq w (ascii "fork") e)
    at_fork false e c = at_join (same w (ascii "join")) refl c

    at_free : (t : Bool) → same w (ascii "free") ≡ t
        → code_of_word w ≡ pick t 3 (pick (same w (ascii "fork")) 4 (pick (same w (ascii "join")) 5 (pick (same w (ascii "thread")) thread_code no_code))) → KeywordIs w
    at_free true e c = found w 3 (omega arith) c (same_eq w (ascii "free") e)
    at_free false e c = at_fork (same w (ascii "fork")) refl c

    at_alloc : (t : Bool) → same w (ascii "alloc") ≡ t
        → code_of_word w ≡ pick t 2 (pick (same w (ascii "free")) 3 (pick (same w (ascii "fork")) 4 (pick (same w (ascii "join")) 5 (pick (same w (ascii "thread")) thread_code no_code)))) → KeywordIs w
    at_alloc true e c = found w 2 (omega arith) c (same_eq w (ascii "alloc") e)
    at_alloc false e c = at_free (same w (ascii "free")) refl c

    at_work : (t : Bool) → same w (ascii "work") ≡ t
        → code_of_word w
        ≡ pick t 1 (pick (same w (ascii "alloc")) 2 (pick (same w (ascii "free")) 3 (pick (same w (ascii "fork")) 4 (pick (same w (ascii "join")) 5 (pick (same w (ascii "thread")) thread_code no_code)))))
        → KeywordIs w
    at_work true e c = found w 1 (omega arith) c (same_eq w (ascii "work") e)
    at_work false e c = at_alloc (same w (ascii "alloc")) refl c

    at_end_lem : (t : Bool) → same w (ascii "end") ≡ t → KeywordIs w
    at_end_lem true e = found w 0 (omega arith) (rw e) (same_eq w (ascii "end") e)
    at_end_lem false e = at_work (same w (ascii "work")) refl (rw e)

-- ---- what a line says tells its words

value_small : (w : List ℕ) (v : ℕ) → v ≤ no_number → value_from v w ≤ no_number
unfolding value_from
value_small [] v h = h
value_small (b ∷ w) v h = value_small w (next_value v b) (go (is_digit b))
  where
    go : (t : Bool) → pick t (min no_number (10 * v + (b - 48))) no_number ≤ no_number
    go true = omega arith
    go false = omega arith

number_small : (w : List ℕ) → number_in w ≤ no_number
unfolding number_in
number_small w = go (zero_led w)
  where
    go : (t : Bool) → pick t no_number (value_from 0 w) ≤ no_number
    go true = omega arith
    go false = value_small w 0 (omega arith)

abbrev pub words_for : Said → List (List ℕ)
words_for Nothing = []
words_for (Thread t) = ascii "thread" ∷ decimal t ∷ []
words_for (Action k x) = pick (is_bare k) (keyword_of k ∷ []) (keyword_of k ∷ decimal x ∷ [])
words_for (Expects e) = []

-- the words that say it, and numbers of 24 bits
abbrev pub Exact : List (List ℕ) → Said → Type 0
Exact ws Nothing = Unit {0}
Exact ws (Thread t) = (ws ≡ words_for (Thread t)) × (t < no_number)
Exact ws (Action k x) = (ws ≡ words_for (Action k x)) × (k < thread_code) × (x < no_number)
Exact ws (Expects e) = Unit {0}

pick_exact : (ws : List (List ℕ)) (b : Bool) (x y : Said) → (b ≡ true → Exact ws x) → (b ≡ false → Exact ws y) → Exact ws (pick b x y)
pick_exact ws true x y p q = p refl
pick_exact ws false x y p q = q refl

-- every word has a byte
abbrev pub SomeBytes : List (List ℕ) → Type 0
SomeBytes [] = Unit {0}
SomeBytes (w ∷ ws) = (0 < length w) × SomeBytes ws

module _ (w : List ℕ) (k : ℕ) (e : w ≡ keyword_of k) (h : k < no_code) where
  last_exact : (a : List ℕ) (ws : List (List ℕ)) → 0 < length a → number_in a < no_number → is_bare k ≡ false → Exact (w ∷ a ∷ ws) (said_last k (number_in a) ws)
  last_exact a [] p l b =
      let d : decimal (number_in a) ≡ a = number_exact a p l in
      pick_exact (w ∷ a ∷ []) (eqb k thread_code) (Thread (number_in a)) (Action k (number_in a))
      (λ t. ((λ i. (e ∙ ap keyword_of (eqb-true k thread_code t)) i ∷ sym d i ∷ []), l))
      (λ t. let z = eqb-false k thread_code t in (rw b (λ i. e i ∷ sym d i ∷ []), omega (arith, z), l))
  last_exact a (x ∷ ws) p l b = tt

  after_exact : (ws : List (List ℕ)) → SomeBytes ws → Exact (w ∷ ws) (said_after k ws)
  after_exact [] p =
      pick_exact (w ∷ []) (is_bare k) (Action k 0) (Expects Number)
      (λ b. (rw b (ap (λ (x : List ℕ). x ∷ []) e), omega (arith, ltb-true k 2 b), omega arith))
      (λ b. tt)
  after_exact (a ∷ ws) p =
      pick_exact (w ∷ a ∷ ws) (is_bare k) (Expects LineEnd) (pick (eqb (number_in a) no_number) (Expects Number) (said_last k (number_in a) ws))
      (λ b. tt)
      (λ b.
      pick_exact (w ∷ a ∷ ws) (eqb (number_in a) no_number) (Expects Number) (said_last k (number_in a) ws)
      (λ t. tt)
      (λ t. let z = eqb-false (number_in a) no_number t in last_exact a ws p.0 (omega (arith, z, number_small a)) b))

pub meaning_exact : (w : List ℕ) (ws : List (List ℕ)) → SomeBytes ws → Exact (w ∷ ws) (meaning_of (w ∷ ws))
unfolding meaning_of said_by
meaning_exact w ws p =
    let k = keyword_is w in
    pick_exact (w ∷ ws) (eqb (code_of_word w) no_code) (Expects Keyword) (said_after (code_of_word w) ws)
    (λ t. tt)
    (λ t. let z = eqb-false (code_of_word w) no_code t in after_exact w (code_of_word w) (k.known z) (omega (arith, z, k.small)) ws p)

pub nonempty_some : (ls : List (List ℕ)) → SomeBytes (nonempty ls)
unfolding nonempty
nonempty_some [] = tt
nonempty_some ([] ∷ ls) = nonempty_some ls
nonempty_some ((b ∷ l) ∷ ls) = (omega arith, nonempty_some ls)
