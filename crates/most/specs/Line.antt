-- What `maxturns` prints, from the bytes that it reads, which are those of `runrounds`: p (1 byte), K (3 bytes), a limit of turns (4 bytes, not looked at) and the table; one line out.
use Rattle.std.specs.Prelude.{◌≡◌, refl, ℕ, List, ◌++◌, length, get_or, drop, ltb, Err, Ok, Result}
use Rattle.table.specs.declared.Refusal.{Refusal}
use Rattle.table.specs.Sum.{pick}
use Rattle.table.specs.Format.{u24_at}
use Rattle.table.specs.Pass.{refusal}
use Rattle.text.specs.Text.{ascii, digits_of, decimal, newline, refused_line}
use Rattle.most.specs.Most.{most_of}

-- ---- the input

abbrev pub workers_in : List ℕ → ℕ
workers_in s = get_or s 0 0

abbrev pub quota_in : List ℕ → ℕ
quota_in s = u24_at s 1

-- under 8 bytes: 33, as in `runrounds`; then the checks of a beginning
unfoldable pub most_to : List ℕ → Result ℕ Refusal
most_to s = pick (ltb (length s) 8) (Err (refusal 33 0)) (most_of (drop 8 s) (workers_in s) (quota_in s))

-- ---- the line

abbrev pub limit_word : List ℕ
limit_word = ascii "limit "

-- the line of a limit that is given
unfoldable pub limit_line : ℕ → List ℕ
limit_line L = limit_word ++ decimal L ++ newline

abbrev pub most_line : Result ℕ Refusal → List ℕ
most_line (Ok L) = limit_line L
most_line (Err r) = refused_line r

limit_example : most_line (Ok 32) ≡ ascii "limit 32\n"
unfolding limit_line decimal digits_of
limit_example = refl
