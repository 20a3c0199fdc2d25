-- A text's lines, a line's words, and a word as a number.
use Rattle.std.specs.Prelude.{ℕ, suc, ◌+◌, ◌-◌, ◌*◌, ◌≤◌, ◌<◌, min, ◌≡◌, refl, List, [], ◌∷◌, Bool, true, false, not, ◌&&◌, ◌||◌, eqb, leb, ltb, length, get_or, take, drop}
use Rattle.table.specs.Sum.{pick}
use Rattle.text.specs.Text.{ascii}
use Rattle.assembly.specs.declared.scan.Class.{Class}
use Rattle.assembly.specs.declared.scan.Class.TheVariants.{Line, Plain, Blank, Word, Shown}

-- ---- classes of bytes

abbrev pub is_newline : ℕ → Bool
is_newline b = eqb b 10

-- '#'
abbrev pub is_mark : ℕ → Bool
is_mark b = eqb b 35

-- a space or a tab
abbrev pub is_blank : ℕ → Bool
is_blank b = eqb b 32 || eqb b 9

-- a carriage return
abbrev pub is_return : ℕ → Bool
is_return b = eqb b 13

-- what a line goes on with, what stands before a comment, what is between words, what a word goes on with, what stands before a carriage return
abbrev pub in_class : Class → ℕ → Bool
in_class Line b = not (is_newline b)
in_class Plain b = not (is_mark b)
in_class Blank b = is_blank b
in_class Word b = not (is_blank b)
in_class Shown b = not (is_return b)

-- how many bytes a list begins with that pass a test
unfoldable pub span_of : (ℕ → Bool) → List ℕ → ℕ
span_of p [] = 0
span_of p (b ∷ s) = pick (p b) (suc (span_of p s)) 0

-- ---- lines and words

abbrev pub onto : ℕ → List (List ℕ) → List (List ℕ)
onto b [] = (b ∷ []) ∷ []
onto b (l ∷ ls) = (b ∷ l) ∷ ls

-- the parts of a list that end at a byte that passes the test, or at its end; the byte belongs to none
unfoldable pub parts : (ℕ → Bool) → List ℕ → List (List ℕ)
parts p [] = []
parts p (b ∷ s) = pick (p b) ([] ∷ parts p s) (onto b (parts p s))

abbrev pub is_nil : List ℕ → Bool
is_nil [] = true
is_nil (b ∷ s) = false

-- those that are not empty
unfoldable pub nonempty : List (List ℕ) → List (List ℕ)
nonempty [] = []
nonempty (l ∷ ls) = pick (is_nil l) (nonempty ls) (l ∷ nonempty ls)

-- a text's lines; the last may lack its newline
abbrev pub lines_of : List ℕ → List (List ℕ)
lines_of s = parts is_newline s

-- a line without its comment
abbrev pub uncommented : List ℕ → List ℕ
uncommented l = take (span_of (in_class Plain) l) l

-- what stands between blanks
abbrev pub words_in : List ℕ → List (List ℕ)
words_in s = nonempty (parts is_blank s)

-- a line's words
abbrev pub words_of : List ℕ → List (List ℕ)
words_of l = words_in (uncommented l)

-- ---- numbers

-- the first that has no 24 bits
abbrev pub no_number : ℕ
no_number = 16777216

abbrev pub is_digit : ℕ → Bool
is_digit b = leb 48 b && leb b 57

-- the number of digits read so far, and one byte more; `no_number` where it is too large or the byte is no digit
abbrev pub next_value : ℕ → ℕ → ℕ
next_value v b = pick (is_digit b) (min no_number (10 * v + (b - 48))) no_number

unfoldable pub value_from : ℕ → List ℕ → ℕ
value_from v [] = v
value_from v (b ∷ w) = value_from (next_value v b) w

-- a 0 that other digits follow
abbrev pub zero_led : List ℕ → Bool
zero_led w = ltb 1 (length w) && eqb (get_or w 0 0) 48

-- a word's number of at most 24 bits, in decimal as one writes it; `no_number` where it is none
unfoldable pub number_in : List ℕ → ℕ
number_in w = pick (zero_led w) no_number (value_from 0 w)

-- ---- words that are the same

unfoldable pub same : List ℕ → List ℕ → Bool
same [] [] = true
same [] (b ∷ t) = false
same (a ∷ s) [] = false
same (a ∷ s) (b ∷ t) = pick (eqb a b) (same s t) false

-- "alloc 6" in a line with blanks and a comment
words_example : words_of (ascii "  alloc\t6 # six") ≡ ascii "alloc" ∷ ascii "6" ∷ []
unfolding span_of parts nonempty
words_example = refl

lines_example : lines_of (ascii "thread 0\n\nend") ≡ ascii "thread 0" ∷ [] ∷ ascii "end" ∷ []
unfolding parts
lines_example = refl

number_example : number_in (ascii "16777215") ≡ 16777215
unfolding number_in value_from
number_example = refl

-- ---- what the readers of lines promise

-- a front of a list whose bytes pass a test, the longest
pub record Spans (p : ℕ → Bool) (s : List ℕ) (r : ℕ) : Type 0 where
  pub value : r ≡ span_of p s
  pub within : r ≤ length s

-- a line's first word, from start to end; none where these are the same
pub record FirstWord (s : List ℕ) (start end : ℕ) : Type 0 where
  pub order : start ≤ end
  pub within : end ≤ length s
  pub starts : start ≡ span_of (in_class Blank) s
  pub ends : end ≡ start + span_of (in_class Word) (drop start s)
  pub none : start ≡ end → words_in s ≡ []
  pub some : start < end → words_in s ≡ take (end - start) (drop start s) ∷ words_in (drop end s)
