-- What `maxquota` prints, from the bytes that it reads: p (1 byte), b (4 bytes), M (8 bytes) and the table; one line out.
use Rattle.std.specs.Prelude.{◌≡◌, refl, ℕ, ◌+◌, ◌*◌, List, ◌++◌, length, get_or, drop, ltb, Err, Ok, Result}
use Rattle.table.specs.declared.Refusal.{Refusal}
use Rattle.table.specs.Sum.{pick}
use Rattle.table.specs.Format.{u32_at}
use Rattle.table.specs.Pass.{refusal}
use Rattle.text.specs.Text.{ascii, digits_of, decimal, newline, refused_line}
use Rattle.quota.specs.Quota.{quoted}

-- ---- the input

abbrev pub workers_in : List ℕ → ℕ
workers_in s = get_or s 0 0

abbrev pub gap_in : List ℕ → ℕ
gap_in s = u32_at s 1

abbrev pub memory_in : List ℕ → ℕ
memory_in s = u32_at s 5 + 4294967296 * u32_at s 9

-- under 13 bytes: 33, as in the other programs; then the checks of the quota
unfoldable pub answer_to : List ℕ → Result ℕ Refusal
answer_to s = pick (ltb (length s) 13) (Err (refusal 33 0)) (quoted (drop 13 s) (workers_in s) (gap_in s) (memory_in s))

-- ---- the line

abbrev pub quota_word : List ℕ
quota_word = ascii "quota "

-- the line of a quota that is given
unfoldable pub given_line : ℕ → List ℕ
given_line K = quota_word ++ decimal K ++ newline

abbrev pub quota_line : Result ℕ Refusal → List ℕ
quota_line (Ok K) = given_line K
quota_line (Err r) = refused_line r

given_example : quota_line (Ok 16777215) ≡ ascii "quota 16777215\n"
unfolding given_line decimal digits_of
given_example = refl
