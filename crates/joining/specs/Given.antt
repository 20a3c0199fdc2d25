-- What `jointables` reads and writes: a count (1 byte), so many lengths (4 bytes each) and the tables; the joined table, or a line that says why there is none.
use Rattle.std.specs.Prelude.{ℕ, zero, suc, ◌+◌, ◌*◌, ◌≡◌, refl, Bool, ltb, length, get_or, drop}
use mathlib.Core.List.{List, [], ◌∷◌, ◌++◌, flatten}
use Rattle.table.specs.Sum.{pick}
use Rattle.table.specs.Format.{u32_at}
use Rattle.table.specs.Pass.{refusal}
use Rattle.text.specs.Text.{ascii, decimal, digits_of, refused_line, refused_of}
use Rattle.joining.specs.Answers.{joined, joined_in, JoinValues, join_values, refused_values}
use Rattle.joining.specs.declared.JoinError.{JoinError}
use Rattle.joining.specs.declared.JoinError.TheVariants.{Whole, InPart}
use Rattle.std.specs.Prelude.{Err, Ok, Result}
use Rattle.table.specs.declared.Facts.{Facts}

-- ---- the input

-- the count: the first byte, 0 where there is none
abbrev pub count_in : List ℕ → ℕ
count_in input = get_or input 0 0

-- length i: four bytes, the least first
abbrev pub length_in : List ℕ → ℕ → ℕ
length_in input i = u32_at input (1 + 4 * i)

-- the first k lengths
unfoldable pub lengths_to : List ℕ → ℕ → List ℕ
lengths_to input zero = []
lengths_to input (suc k) = lengths_to input k ++ (length_in input k ∷ [])

abbrev pub lengths_in : List ℕ → List ℕ
lengths_in input = lengths_to input (count_in input)

-- the rest is the tables
abbrev pub tables_in : List ℕ → List ℕ
tables_in input = drop (1 + 4 * count_in input) input

-- no count, or fewer bytes than its lengths take
abbrev pub input_short : List ℕ → Bool
input_short input = ltb (length input) (1 + 4 * count_in input)

-- ---- the answer, the buffer afterwards, and the answer's values: 47 where the input is short, else what joining its tables gives

unfoldable pub joined_given : List ℕ → Result Facts JoinError
joined_given input = pick (input_short input) (Err (Whole (refusal 47 0))) (joined (lengths_in input) (tables_in input))

unfoldable pub given_in : List ℕ → List ℕ → List ℕ
given_in input out = pick (input_short input) out (joined_in (lengths_in input) (tables_in input) out)

unfoldable pub given_values : List ℕ → JoinValues
given_values input = pick (input_short input) (refused_values (refusal 47 0) 0) (join_values (lengths_in input) (tables_in input))

-- ---- what is written

-- so many bytes of the buffer are the joined table: head, entries and actions, 4 bytes each
abbrev pub joined_size : Result Facts JoinError → ℕ
joined_size (Ok f) = 4 + 4 * f.threads + 4 * f.actions
joined_size (Err e) = 0

-- the line of a refusal, with the part that it is of; none where a table is written
unfoldable pub join_line : Result Facts JoinError → List ℕ
join_line (Ok f) = []
join_line (Err (Whole r)) = refused_line r
join_line (Err (InPart i r)) = flatten (refused_of r (ascii " part ") i)

refused_example : join_line (Err (Whole (refusal 47 0))) ≡ ascii "refused 47 0\n"
unfolding join_line refused_line decimal digits_of
refused_example = refl

part_example : join_line (Err (InPart 1 (refusal 10 1))) ≡ ascii "refused 10 1 part 1\n"
unfolding join_line decimal digits_of flatten
part_example = refl
