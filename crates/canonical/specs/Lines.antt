-- The line that tells how two tables compare.
use Rattle.std.specs.Prelude.{ℕ, ◌≡◌, refl, ltb, length, take, drop, Err, Ok, Result}
use Rattle.std.specs.declared.cmp.Ordering.{Ordering}
use Rattle.std.specs.declared.cmp.Ordering.TheVariants.{Less, Equal, Greater}
use mathlib.Core.List.{List, flatten}
use Rattle.table.specs.Sum.{pick}
use Rattle.table.specs.Format.{u32_at}
use Rattle.table.specs.Pass.{refusal}
use Rattle.text.specs.Text.{ascii, decimal, digits_of, refused_line, refused_of}
use Rattle.canonical.specs.Answers.{compared}
use Rattle.canonical.specs.declared.RefusedTable.{RefusedTable}

-- "before, equal or after", or the refusal and which table is refused
unfoldable pub compared_line : Result Ordering RefusedTable → List ℕ
compared_line (Ok Less) = ascii "before\n"
compared_line (Ok Equal) = ascii "equal\n"
compared_line (Ok Greater) = ascii "after\n"
compared_line (Err e) = flatten (refused_of e.refusal (ascii " table ") e.table)

-- the input's first 4 bytes are the first table's length; one past the end takes what is there
abbrev pub first_table : List ℕ → List ℕ
first_table input = take (u32_at input 0) (drop 4 input)

abbrev pub second_table : List ℕ → List ℕ
second_table input = drop (u32_at input 0) (drop 4 input)

-- 33: an input too short for them
unfoldable pub compare_line : List ℕ → List ℕ
compare_line input = pick (ltb (length input) 4) (refused_line (refusal 33 0)) (compared_line (compared (first_table input) (second_table input)))

refused_example : compared_line (Err (record { table = 1; refusal = refusal 10 1 })) ≡ ascii "refused 10 1 table 1\n"
unfolding compared_line decimal digits_of flatten
refused_example = refl
