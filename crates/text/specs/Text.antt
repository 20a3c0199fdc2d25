-- Numbers and lines as text, in ASCII codes, and text that is put into a buffer.
use Rattle.std.specs.Prelude.{ℕ, zero, suc, ◌+◌, ◌/◌, ◌%◌, ◌≡◌, refl, List, [], ◌∷◌, ◌++◌, cond, leb, length, take, drop, Err, Ok, Result}
use Prim.Native.Char.{code}
use Prim.Native.String.{String}
use Prim.Native.String.{[] as none, ◌∷◌ as ◌then◌}
use Rattle.table.specs.declared.Facts.{Facts}
use Rattle.table.specs.declared.Refusal.{Refusal}

-- ---- a text

-- the codes of its characters
abbrev pub ascii : String → List ℕ
ascii none = []
ascii (c then text) = code c ∷ ascii text

-- ---- a number

-- the code of a digit below 10
abbrev pub digit : ℕ → ℕ
digit d = 48 + d

-- the digits of a number with none for 0, in at most as many steps as the first number says
unfoldable pub digits_of : ℕ → ℕ → List ℕ
digits_of zero n = []
digits_of (suc k) zero = []
digits_of (suc k) (suc m) = digits_of k (suc m / 10) ++ (digit (suc m % 10) ∷ [])

-- a number in decimal: its last digit always, and before it the digits of n / 10, for which n steps are enough
unfoldable pub decimal : ℕ → List ℕ
decimal n = digits_of n (n / 10) ++ (digit (n % 10) ∷ [])

-- ---- the lines

abbrev pub table_word : List ℕ
table_word = ascii "table "

abbrev pub serial_word : List ℕ
serial_word = ascii " serial "

abbrev pub depth_word : List ℕ
depth_word = ascii " depth "

abbrev pub nested_word : List ℕ
nested_word = ascii " nested "

abbrev pub refused_word : List ℕ
refused_word = ascii "refused "

abbrev pub space : List ℕ
space = 32 ∷ []

abbrev pub newline : List ℕ
newline = 10 ∷ []

-- an accepted table: `table n m serial S1 depth D`
abbrev pub facts_text : Facts → List ℕ
facts_text f =
    table_word ++ decimal f.threads
    ++ space ++ decimal f.actions
    ++ serial_word ++ decimal f.peak
    ++ depth_word ++ decimal f.depth

-- the header of a listing: "Header: n, m, S1, D."
unfoldable pub accepted_line : Facts → List ℕ
accepted_line f = facts_text f ++ newline

-- all facts, with the nested thread levels: `table n m serial S1 depth D nested N`
unfoldable pub nested_line : Facts → List ℕ
nested_line f = facts_text f ++ nested_word ++ decimal f.nested ++ newline

-- a refused table's line: `refused NUMBER PLACE`
unfoldable pub refused_line : Refusal → List ℕ
refused_line r = refused_word ++ decimal r.number ++ space ++ decimal r.place ++ newline

-- the line of a refusal of one of several, from 0: `refused NUMBER PLACE`, a label and which one
abbrev pub refused_of : Refusal → List ℕ → ℕ → List (List ℕ)
refused_of r label i = refused_word ∷ decimal r.number ∷ space ∷ decimal r.place ∷ label ∷ decimal i ∷ newline ∷ []

-- the only line or the header of a listing
abbrev pub line_of : Result Facts Refusal → List ℕ
line_of (Ok f) = accepted_line f
line_of (Err r) = refused_line r

-- the line that tells all that loading answered
abbrev pub facts_line_of : Result Facts Refusal → List ℕ
facts_line_of (Ok f) = nested_line f
facts_line_of (Err r) = refused_line r

accepted_example : line_of (Ok (record { threads = 3; actions = 12; peak = 6; depth = 8; nested = 2 })) ≡ ascii "table 3 12 serial 6 depth 8\n"
unfolding accepted_line decimal digits_of
accepted_example = refl

nested_example : facts_line_of (Ok (record { threads = 3; actions = 12; peak = 6; depth = 8; nested = 2 }))
    ≡ ascii "table 3 12 serial 6 depth 8 nested 2\n"
unfolding nested_line decimal digits_of
nested_example = refl

refused_example : line_of (Err (record { number = 10; place = 1 })) ≡ ascii "refused 10 1\n"
unfolding refused_line decimal digits_of
refused_example = refl

-- the largest u64
largest_example : decimal 18446744073709551615 ≡ ascii "18446744073709551615"
unfolding decimal digits_of
largest_example = refl

-- ---- text in a buffer

-- a buffer's bytes, and the position at which the next text goes
pub record Buffer : Type 0 where
  pub bytes : List ℕ
  pub next : ℕ

abbrev pub buffer_at : List ℕ → ℕ → Buffer
buffer_at bytes next = record { bytes = bytes; next = next }

-- a text put at a position over what stands there, and the position after it; where it does not fit, nothing is put
unfoldable pub placed : List ℕ → ℕ → List ℕ → Buffer
placed out at text =
    cond (leb (at + length text) (length out))
    (buffer_at (take at out ++ text ++ drop (at + length text) out) (at + length text))
    (buffer_at out at)

-- one more text, put after what was put
abbrev pub placed_next : Buffer → List ℕ → Buffer
placed_next b text = placed b.bytes b.next text
