-- What a text says that is made of lines: each line by itself, and then the rest.
use Prim.Native.Nat.{ℕ, zero, suc, ◌^◌, ◌<◌}
use native.Mathlib.Omega.{arith}
use native.Mathlib.Numerals.{add-one}
use mathlib.Core.Path.{◌≡◌, refl, sym, ap, ◌∙◌}
use mathlib.Core.List.{List, [], ◌∷◌, ◌++◌, append_assoc, append-nil, flatten}
use mathlib.Core.Bool.{Bool, true, false, not}
use borrow.Author.Tests.{ne_eqb}
use lib.Dec.{eqb}
use lib.ListN.{length, length-append}
use lib.Seq.{take-append_seam, drop-append_seam, drop-append-add}
use Rattle.table.specs.Format.{kind_of}
use Rattle.table.specs.declared.kinds.Kind.{Kind}
use Rattle.table.specs.declared.kinds.Kind.TheVariants.{End as end, Work as work, Alloc as alloc, Free as free, Fork as fork, Join as join, Unknown as unknown}
use Rattle.text.specs.Text.{ascii, digit, decimal}
use Rattle.assembly.specs.Words.{span_of, parts, nonempty, in_class, words_in, uncommented, no_number, same}
use Rattle.assembly.specs.Said.{code_of_word, thread_code, said_with, said_by, meaning_of, line_said, saids}
use Rattle.assembly.specs.Disassembly.{thread_texts, action_texts, number_texts}
use Rattle.assembly.specs.declared.scan.Class.TheVariants.{Line, Plain, Word}
use Rattle.assembly.specs.declared.Said.{Said}
use Rattle.assembly.specs.declared.Said.TheVariants.{Thread, Action}
use Rattle.assembly.proofs.Parts.{span_here, span_stops, words_first}
use Rattle.assembly.proofs.Lines.{said_first}
use Rattle.assembly.proofs.Numbers.{Each, each_append, decimal_some, decimal_each, number_decimal}

-- ---- spans of a list whose bytes pass

span_each : (p : ℕ → Bool) (s : List ℕ) → Each p s → span_of p s ≡ length s
unfolding span_of
span_each p [] h = refl
span_each p (b ∷ s) h = span_here p b s h.0 ∙ ap suc (span_each p s h.1)

span_to : (p : ℕ → Bool) (s : List ℕ) (b : ℕ) (t : List ℕ) → Each p s → p b ≡ false → span_of p (s ++ (b ∷ t)) ≡ length s
unfolding span_of
span_to p [] b t h e = span_stops p b t e
span_to p (c ∷ s) b t h e = span_here p c (s ++ (b ∷ t)) h.0 ∙ ap suc (span_to p s b t h.1 e)

-- ---- a line and the rest

-- a text says these, whatever follows it
abbrev pub SaysAs : List ℕ → List Said → Type 0
SaysAs s xs = (t : List ℕ) → saids (s ++ t) ≡ xs ++ saids t

pub says_none : SaysAs [] []
says_none t = refl

pub says_both : (s t : List ℕ) (xs ys : List Said) → SaysAs s xs → SaysAs t ys → SaysAs (s ++ t) (xs ++ ys)
says_both s t xs ys f g u =
    ap saids (append_assoc s t u) ∙ f (t ++ u) ∙ ap (λ (z : List Said). xs ++ z) (g u) ∙ sym (append_assoc xs ys (saids u))

pub says_line : (l : List ℕ) → Each (in_class Line) l → SaysAs (l ++ (10 ∷ [])) (line_said l ∷ [])
says_line l h t =
    let k : span_of (in_class Line) (l ++ (10 ∷ t)) ≡ length l = span_to (in_class Line) l 10 t h refl in
    let some : 0 < length (l ++ (10 ∷ t)) = omega (arith, length-append l (10 ∷ t)) in
    ap saids (append_assoc l (10 ∷ []) t)
    ∙ said_first (l ++ (10 ∷ t)) some
    ∙ rw (k, take-append_seam l (10 ∷ t), ← add-one (length l), drop-append-add l (10 ∷ t) 1)

-- ---- digits

digit_not : (b d : ℕ) → b < 48 → d < 10 → not (eqb (digit d) b) ≡ true
digit_not b d l h = rw (ne_eqb (digit d) b (λ e. omega (arith, e)))

digit_word : (d : ℕ) → d < 10 → in_class Word (digit d) ≡ true
digit_word d h = rw (ne_eqb (digit d) 32 (λ e. omega (arith, e)), ne_eqb (digit d) 9 (λ e. omega (arith, e)))

-- ---- what may stand after a line's words

-- blanks, and a comment
record Tail (blanks comment : List ℕ) : Type 0 where
  ends : (d : List ℕ) → Each (in_class Word) d → span_of (in_class Word) (d ++ blanks) ≡ length d
  no_words : words_in blanks ≡ []
  in_plain : Each (in_class Plain) blanks
  stops : (s : List ℕ) → Each (in_class Plain) s → span_of (in_class Plain) (s ++ comment) ≡ length s
  in_line : Each (in_class Line) (blanks ++ comment)

tail_none : Tail [] []
unfolding parts nonempty
tail_none =
    record {
      ends = λ d h. rw (append-nil d) (span_each (in_class Word) d h);
      no_words = refl;
      in_plain = tt;
      stops = λ s h. rw (append-nil s) (span_each (in_class Plain) s h);
      in_line = tt;
    }

-- " # action 5"
tail_number : (a : ℕ) → a < 10 ^ 8 → Tail (32 ∷ []) (ascii "# action " ++ decimal a)
unfolding parts nonempty
tail_number a h =
    record {
      ends = λ d e. span_to (in_class Word) d 32 [] e refl;
      no_words = refl;
      in_plain = (refl, tt);
      stops = λ s e. span_to (in_class Plain) s 35 (ascii " action " ++ decimal a) e refl;
      in_line = (refl, each_append (in_class Line) (ascii "# action ") (decimal a) (refl, (refl, (refl, (refl, (refl, (refl, (refl, (refl, (refl, tt))))))))) (decimal_each (in_class Line) (λ d. digit_not 10 d (omega arith)) 7 a h));
    }

module _ {blanks comment : List ℕ} (t : Tail blanks comment) where
  abbrev rest : List ℕ
  rest = (blanks ++ comment) ++ (10 ∷ [])

  -- a line that begins with s
  module _ (s : List ℕ) where
    tailed_words : Each (in_class Plain) s → words_in (uncommented (s ++ (blanks ++ comment))) ≡ words_in (s ++ blanks)
    tailed_words h =
        let e : span_of (in_class Plain) ((s ++ blanks) ++ comment) ≡ length (s ++ blanks) = t.stops (s ++ blanks) (each_append (in_class Plain) s blanks h t.in_plain) in
        rw (← append_assoc s blanks comment, e, take-append_seam (s ++ blanks) comment)

    tailed_says : Each (in_class Line) s → SaysAs (s ++ rest) (line_said (s ++ (blanks ++ comment)) ∷ [])
    tailed_says h u =
        ap (λ (z : List ℕ). saids (z ++ u)) (sym (append_assoc s (blanks ++ comment) (10 ∷ [])))
        ∙ says_line (s ++ (blanks ++ comment)) (each_append (in_class Line) s (blanks ++ comment) h t.in_line) u

    last_word : Each (in_class Word) s → 0 < length s → words_in (s ++ blanks) ≡ s ∷ []
    last_word h q =
        let k = t.ends s h in
        words_first (s ++ blanks) (omega (arith, k)) ∙ rw (k, take-append_seam s blanks, drop-append_seam s blanks) (ap (λ (z : List (List ℕ)). s ∷ z) t.no_words)

  words_pair : (w d : List ℕ) → Each (in_class Word) w → Each (in_class Word) d → 0 < length w → 0 < length d → words_in (w ++ (32 ∷ (d ++ blanks))) ≡ w ∷ d ∷ []
  unfolding parts nonempty
  words_pair w d a b p q =
      let j : span_of (in_class Word) (w ++ (32 ∷ (d ++ blanks))) ≡ length w = span_to (in_class Word) w 32 (d ++ blanks) a refl in
      words_first (w ++ (32 ∷ (d ++ blanks))) (omega (arith, j)) ∙ rw (j, take-append_seam w (32 ∷ (d ++ blanks)), drop-append_seam w (32 ∷ (d ++ blanks))) (ap (λ (z : List (List ℕ)). w ∷ z) (last_word d b q))

-- ---- a keyword and a number

-- a keyword's bytes, and a number's
pub record Keyword (w : List ℕ) : Type 0 where
  pub in_line : Each (in_class Line) w
  pub in_plain : Each (in_class Plain) w
  pub in_word : Each (in_class Word) w
  pub some : 0 < length w

module _ {blanks comment : List ℕ} (t : Tail blanks comment) (w : List ℕ) (k : Keyword w) where
  -- the keyword alone
  bare_says : {y : Said} → meaning_of (w ∷ []) ≡ y → SaysAs (w ++ rest t) (y ∷ [])
  bare_says e u =
      tailed_says t w k.in_line u
      ∙ ap (λ (z : Said). z ∷ saids u) (ap meaning_of (tailed_words t w k.in_plain ∙ last_word t w k.in_word k.some) ∙ e)

  module _ (x : ℕ) (h : x < no_number) where
    abbrev operand_line : List ℕ
    operand_line = w ++ (32 ∷ decimal x)

    operand_each : (p : ℕ → Bool) → Each p w → p 32 ≡ true → ((d : ℕ) → d < 10 → p (digit d) ≡ true) → Each p operand_line
    operand_each p a b c = each_append p w (32 ∷ decimal x) a (b, decimal_each p c 7 x (omega arith))

    operand_words : words_in (uncommented (operand_line ++ (blanks ++ comment))) ≡ w ∷ decimal x ∷ []
    operand_words =
        tailed_words t operand_line (operand_each (in_class Plain) k.in_plain refl (λ d. digit_not 35 d (omega arith)))
        ∙ ap words_in (append_assoc w (32 ∷ decimal x) blanks)
        ∙ words_pair t w (decimal x) k.in_word (decimal_each (in_class Word) digit_word 7 x (omega arith)) k.some (decimal_some x)

    operand_says : {y : Said} → meaning_of (w ∷ decimal x ∷ []) ≡ y → SaysAs (operand_line ++ rest t) (y ∷ [])
    operand_says e u =
        tailed_says t operand_line (operand_each (in_class Line) k.in_line refl (λ d. digit_not 10 d (omega arith))) u
        ∙ ap (λ (z : Said). z ∷ saids u) (ap meaning_of operand_words ∙ e)

-- ---- the lines of a table's text

-- the words with a number, by their codes
data Takes : List ℕ → ℕ → Type 0 where
  takes_alloc : Takes (ascii "alloc") 2
  takes_free : Takes (ascii "free") 3
  takes_fork : Takes (ascii "fork") 4
  takes_join : Takes (ascii "join") 5
  takes_thread : Takes (ascii "thread") thread_code

takes_keyword : {w : List ℕ} {k : ℕ} → Takes w k → Keyword w
takes_keyword takes_alloc = record { in_line = (refl, (refl, (refl, (refl, (refl, tt))))); in_plain = (refl, (refl, (refl, (refl, (refl, tt))))); in_word = (refl, (refl, (refl, (refl, (refl, tt))))); some = omega arith }
takes_keyword takes_free = record { in_line = (refl, (refl, (refl, (refl, tt)))); in_plain = (refl, (refl, (refl, (refl, tt)))); in_word = (refl, (refl, (refl, (refl, tt)))); some = omega arith }
takes_keyword takes_fork = record { in_line = (refl, (refl, (refl, (refl, tt)))); in_plain = (refl, (refl, (refl, (refl, tt)))); in_word = (refl, (refl, (refl, (refl, tt)))); some = omega arith }
takes_keyword takes_join = record { in_line = (refl, (refl, (refl, (refl, tt)))); in_plain = (refl, (refl, (refl, (refl, tt)))); in_word = (refl, (refl, (refl, (refl, tt)))); some = omega arith }
takes_keyword takes_thread = record { in_line = (refl, (refl, (refl, (refl, (refl, (refl, tt)))))); in_plain = (refl, (refl, (refl, (refl, (refl, (refl, tt)))))); in_word = (refl, (refl, (refl, (refl, (refl, (refl, tt)))))); some = omega arith }

takes_said : {w : List ℕ} {k : ℕ} → Takes w k → (x : ℕ) → x < no_number → meaning_of (w ∷ decimal x ∷ []) ≡ said_with k x
unfolding meaning_of code_of_word same said_by
takes_said takes_alloc x h = rw (number_decimal x h, ne_eqb x no_number (λ e. omega (arith, e)))
takes_said takes_free x h = rw (number_decimal x h, ne_eqb x no_number (λ e. omega (arith, e)))
takes_said takes_fork x h = rw (number_decimal x h, ne_eqb x no_number (λ e. omega (arith, e)))
takes_said takes_join x h = rw (number_decimal x h, ne_eqb x no_number (λ e. omega (arith, e)))
takes_said takes_thread x h = rw (number_decimal x h, ne_eqb x no_number (λ e. omega (arith, e)))

takes_says : {w : List ℕ} {k : ℕ} → Takes w k → {blanks comment : List ℕ} (t : Tail blanks comment) (x : ℕ) → x < no_number → SaysAs ((w ++ (32 ∷ decimal x)) ++ rest t) (said_with k x ∷ [])
takes_says {w} k t x h = operand_says t w (takes_keyword k) x h (takes_said k x h)

pub thread_says : (t : ℕ) → t < no_number → SaysAs (flatten (thread_texts t)) (Thread t ∷ [])
unfolding flatten
thread_says t h = takes_says takes_thread tail_none t h

end_keyword : Keyword (ascii "end")
end_keyword = record { in_line = (refl, (refl, (refl, tt))); in_plain = (refl, (refl, (refl, tt))); in_word = (refl, (refl, (refl, tt))); some = omega arith }

work_keyword : Keyword (ascii "work")
work_keyword = record { in_line = (refl, (refl, (refl, (refl, tt)))); in_plain = (refl, (refl, (refl, (refl, tt)))); in_word = (refl, (refl, (refl, (refl, tt)))); some = omega arith }

bare_said : (meaning_of (ascii "end" ∷ []) ≡ Action 0 0) × (meaning_of (ascii "work" ∷ []) ≡ Action 1 0)
unfolding meaning_of code_of_word same said_by
bare_said = (refl, refl)

-- "end, work (both with argument 0)"
abbrev pub BareIsZero : Kind → ℕ → Type 0
BareIsZero end x = x ≡ 0
BareIsZero work x = x ≡ 0
BareIsZero alloc x = Unit {0}
BareIsZero free x = Unit {0}
BareIsZero fork x = Unit {0}
BareIsZero join x = Unit {0}
BareIsZero unknown x = Unit {0}

-- an action that keeps the rule of its kind, and its number as a comment
pub action_says : (k x a : ℕ) → x < no_number → a < 10 ^ 8 → (kind_of k ≡ unknown → ⊥) → BareIsZero (kind_of k) x → SaysAs (flatten (action_texts (kind_of k) x ++ number_texts a)) (Action k x ∷ [])
unfolding flatten action_texts kind_of
action_says zero x a h l u b t = rw b (bare_says (tail_number a l) (ascii "end") end_keyword bare_said.0 t)
action_says (suc zero) x a h l u b t = rw b (bare_says (tail_number a l) (ascii "work") work_keyword bare_said.1 t)
action_says (suc (suc zero)) x a h l u b t = takes_says takes_alloc (tail_number a l) x h t
action_says (suc (suc (suc zero))) x a h l u b t = takes_says takes_free (tail_number a l) x h t
action_says (suc (suc (suc (suc zero)))) x a h l u b t = takes_says takes_fork (tail_number a l) x h t
action_says (suc (suc (suc (suc (suc zero))))) x a h l u b t = takes_says takes_join (tail_number a l) x h t
action_says (suc (suc (suc (suc (suc (suc k)))))) x a h l u b t = absurd (u refl)
