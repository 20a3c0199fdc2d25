-- What the desk's calls return and leave in the rows lent to them: a refusal's number, 0 where there is none; the place, the bytes written or, with 61, needed, and where a text is at fault.
use Rattle.std.specs.Prelude.{ℕ, List, [], ◌∷◌, Err, Ok, Result}
use Rattle.table.specs.declared.Refusal.{Refusal}
use Rattle.assembly.specs.Unseen.{unseen_at}
use Rattle.assembly.specs.declared.Expected.{Expected}
use Rattle.assembly.specs.declared.Expected.TheVariants.{Keyword, Number, LineEnd, NextThread}
use Rattle.assembly.specs.declared.unseen.Unseen.{Unseen}
use Rattle.assembly.specs.declared.unseen.Unseen.TheVariants.{Nothing, Return, Mark}
use Rattle.assembly.specs.declared.AssemblyError.{AssemblyError}
use Rattle.assembly.specs.declared.AssemblyError.TheVariants.{TooLong, Malformed, Refused}
use Rattle.assembly.specs.declared.Short.{Short}

-- what should have stood on a line: a keyword, a number, the line's end or the next thread
abbrev pub expected_code : Expected → ℕ
expected_code Keyword = 1
expected_code Number = 2
expected_code LineEnd = 3
expected_code (NextThread t) = 4

-- that thread
abbrev pub expected_thread : Expected → ℕ
expected_thread Keyword = 0
expected_thread Number = 0
expected_thread LineEnd = 0
expected_thread (NextThread t) = t

-- nothing, a carriage return or a byte order mark in that line
abbrev pub unseen_code : Unseen → ℕ
unseen_code Nothing = 0
unseen_code Return = 1
unseen_code Mark = 2

-- 62: a text that is too long; 63: a line that is not as it should be
abbrev pub number_of : Result ℕ AssemblyError → ℕ
number_of (Ok k) = 0
number_of (Err TooLong) = 62
number_of (Err (Malformed line e)) = 63
number_of (Err (Refused r line)) = r.number

-- of a text s: the place, the table's bytes, the line, what was expected there, which thread, and what an editor may not show
abbrev pub row_of : List ℕ → Result ℕ AssemblyError → List ℕ
row_of s (Ok k) = 0 ∷ k ∷ 0 ∷ 0 ∷ 0 ∷ 0 ∷ []
row_of s (Err TooLong) = 0 ∷ 0 ∷ 0 ∷ 0 ∷ 0 ∷ 0 ∷ []
row_of s (Err (Malformed line e)) = 0 ∷ 0 ∷ line ∷ expected_code e ∷ expected_thread e ∷ unseen_code (unseen_at s line) ∷ []
row_of s (Err (Refused r line)) = r.place ∷ 0 ∷ line ∷ 0 ∷ 0 ∷ 0 ∷ []

-- 61: the buffer has too few bytes, and the row says how many there must be
abbrev pub assemble_number : Result (Result ℕ AssemblyError) Short → ℕ
assemble_number (Ok a) = number_of a
assemble_number (Err e) = 61

abbrev pub assemble_row : List ℕ → Result (Result ℕ AssemblyError) Short → List ℕ
assemble_row s (Ok a) = row_of s a
assemble_row s (Err e) = 0 ∷ e.needed ∷ 0 ∷ 0 ∷ 0 ∷ 0 ∷ []

-- of a table: the number, and then the place and the text's bytes
abbrev pub listed_number : Result ℕ Refusal → ℕ
listed_number (Ok k) = 0
listed_number (Err r) = r.number

abbrev pub listed_row : Result ℕ Refusal → List ℕ
listed_row (Ok k) = 0 ∷ k ∷ []
listed_row (Err r) = r.place ∷ 0 ∷ []

abbrev pub disassemble_number : Result (Result ℕ Refusal) Short → ℕ
disassemble_number (Ok a) = listed_number a
disassemble_number (Err e) = 61

abbrev pub disassemble_row : Result (Result ℕ Refusal) Short → List ℕ
disassemble_row (Ok a) = listed_row a
disassemble_row (Err e) = 0 ∷ e.needed ∷ []
