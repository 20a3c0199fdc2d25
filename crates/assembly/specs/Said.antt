-- What a line of a text says: nothing, a thread, an action, or what should have stood there.
use Rattle.std.specs.Prelude.{ℕ, ◌≡◌, refl, List, [], ◌∷◌, map, Bool, eqb, ltb}
use Rattle.table.specs.Sum.{pick}
use Rattle.text.specs.Text.{ascii}
use Rattle.assembly.specs.Words.{span_of, parts, nonempty, lines_of, words_of, no_number, value_from, number_in, same}
use Rattle.assembly.specs.declared.Expected.TheVariants.{Keyword, Number, LineEnd}
use Rattle.assembly.specs.declared.Said.{Said}
use Rattle.assembly.specs.declared.Said.TheVariants.{Nothing, Thread, Action, Expects}

-- the word that begins a thread, after the codes of the kinds; and no keyword
abbrev pub thread_code : ℕ
thread_code = 6

abbrev pub no_code : ℕ
no_code = 7

-- a kind's code by its name
unfoldable pub code_of_word : List ℕ → ℕ
code_of_word w =
    pick (same w (ascii "end")) 0
    (pick (same w (ascii "work")) 1
    (pick (same w (ascii "alloc")) 2
    (pick (same w (ascii "free")) 3
    (pick (same w (ascii "fork")) 4
    (pick (same w (ascii "join")) 5
    (pick (same w (ascii "thread")) thread_code no_code))))))

-- "end" and "work" have no number
abbrev pub is_bare : ℕ → Bool
is_bare k = ltb k 2

-- a keyword with its number
abbrev pub said_with : ℕ → ℕ → Said
said_with k x = pick (eqb k thread_code) (Thread x) (Action k x)

-- a keyword with a number and no more words
abbrev pub said_last : ℕ → ℕ → List (List ℕ) → Said
said_last k x [] = said_with k x
said_last k x (w ∷ ws) = Expects LineEnd

-- a keyword and the words after it
abbrev pub said_after : ℕ → List (List ℕ) → Said
said_after k [] = pick (is_bare k) (Action k 0) (Expects Number)
said_after k (w ∷ ws) = pick (is_bare k) (Expects LineEnd) (pick (eqb (number_in w) no_number) (Expects Number) (said_last k (number_in w) ws))

unfoldable pub said_by : ℕ → List (List ℕ) → Said
said_by k ws = pick (eqb k no_code) (Expects Keyword) (said_after k ws)

-- a line's words
unfoldable pub meaning_of : List (List ℕ) → Said
meaning_of [] = Nothing
meaning_of (w ∷ ws) = said_by (code_of_word w) ws

abbrev pub line_said : List ℕ → Said
line_said l = meaning_of (words_of l)

-- what each line of a text says
abbrev pub saids : List ℕ → List Said
saids s = map line_said (lines_of s)

said_example : saids (ascii "thread 0 # the root\n\n alloc 6\nend 1\nfree x\n")
    ≡ Thread 0 ∷ Nothing ∷ Action 2 6 ∷ Expects LineEnd ∷ Expects Number ∷ []
unfolding span_of parts nonempty value_from number_in same code_of_word said_by meaning_of
said_example = refl

-- ---- a text's words

-- the lines that have words
unfoldable pub with_words : List (List (List ℕ)) → List (List (List ℕ))
with_words [] = []
with_words ([] ∷ ls) = with_words ls
with_words ((w ∷ ws) ∷ ls) = (w ∷ ws) ∷ with_words ls

-- a text without its comments, blank lines and blanks
abbrev pub word_lines : List ℕ → List (List (List ℕ))
word_lines s = with_words (map words_of (lines_of s))
