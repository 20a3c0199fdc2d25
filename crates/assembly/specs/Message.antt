-- What is said of a text that gives no table, on one line.
use Rattle.std.specs.Prelude.{ℕ, ◌≡◌, refl, eqb}
use mathlib.Core.List.{List, [], ◌∷◌, ◌++◌, flatten}
use Rattle.table.specs.Sum.{pick}
use Rattle.table.specs.Pass.{refusal}
use Rattle.table.specs.declared.Refusal.{Refusal}
use Rattle.text.specs.Text.{ascii, digits_of, decimal, newline}
use Rattle.assembly.specs.Words.{span_of, same}
use Rattle.assembly.specs.Unseen.{after_lines, unseen_in, unseen_at}
use Rattle.assembly.specs.declared.unseen.Unseen.{Unseen}
use Rattle.assembly.specs.declared.unseen.Unseen.TheVariants.{Nothing, Return, Mark}
use Rattle.assembly.specs.declared.Expected.{Expected}
use Rattle.assembly.specs.declared.Expected.TheVariants.{Keyword, Number, LineEnd, NextThread}
use Rattle.assembly.specs.declared.AssemblyError.{AssemblyError}
use Rattle.assembly.specs.declared.AssemblyError.TheVariants.{TooLong, Malformed, Refused}
use Rattle.std.specs.Prelude.{Err, Ok, Result}

unfoldable pub expected_texts : Expected → List (List ℕ)
expected_texts Keyword = ascii "thread, alloc, free, fork, join, work or end" ∷ []
expected_texts Number = ascii "a number up to 16777215" ∷ []
expected_texts LineEnd = ascii "the end of the line" ∷ []
expected_texts (NextThread t) = ascii "thread " ∷ decimal t ∷ []

-- bytes that an editor may not show, which then are what is wrong
unfoldable pub unseen_texts : Unseen → List (List ℕ)
unseen_texts Nothing = []
unseen_texts Return = ascii ": a carriage return; lines end with a newline alone" ∷ []
unseen_texts Mark = ascii ": a byte order mark; a text begins without one" ∷ []

-- what is wrong with a line: these, or what was expected in it
abbrev pub reason_texts : Unseen → List (List ℕ) → List (List ℕ)
reason_texts Nothing texts = (ascii ": expected " ∷ []) ++ texts
reason_texts Return texts = unseen_texts Return
reason_texts Mark texts = unseen_texts Mark

-- a line that is not as it should be
unfoldable pub fault_texts : ℕ → Unseen → List (List ℕ) → List (List ℕ)
fault_texts line u texts = (ascii "line " ∷ decimal line ∷ []) ++ (reason_texts u texts ++ (newline ∷ []))

-- the line of the text, where one tells
abbrev pub line_texts : ℕ → List (List ℕ)
line_texts line = pick (eqb line 0) [] (ascii " line " ∷ decimal line ∷ [])

unfoldable pub refused_texts : Refusal → ℕ → List (List ℕ)
refused_texts r line = (ascii "refused " ∷ decimal r.number ∷ []) ++ ((ascii " " ∷ decimal r.place ∷ []) ++ (line_texts line ++ (newline ∷ [])))

-- of a text s
unfoldable pub message_texts : List ℕ → Result ℕ AssemblyError → List (List ℕ)
message_texts s (Ok k) = []
message_texts s (Err TooLong) = ascii "text above 262144 bytes\n" ∷ []
message_texts s (Err (Malformed line e)) = fault_texts line (unseen_at s line) (expected_texts e)
message_texts s (Err (Refused r line)) = refused_texts r line

abbrev pub message_of : List ℕ → Result ℕ AssemblyError → List ℕ
message_of s a = flatten (message_texts s a)

malformed_example : message_of (ascii "thread 0\nend\nthread 2\n") (Err (Malformed 3 (NextThread 1))) ≡ ascii "line 3: expected thread 1\n"
unfolding message_texts fault_texts expected_texts unseen_texts unseen_in after_lines span_of same flatten decimal digits_of
malformed_example = refl

return_example : message_of (ascii "thread 0" ++ (13 ∷ 10 ∷ [])) (Err (Malformed 1 Number)) ≡ ascii "line 1: a carriage return; lines end with a newline alone\n"
unfolding message_texts fault_texts expected_texts unseen_texts unseen_in after_lines span_of same flatten decimal digits_of
return_example = refl

refused_example : message_of [] (Err (Refused (refusal 9 2) 4)) ≡ ascii "refused 9 2 line 4\n"
unfolding message_texts refused_texts flatten decimal digits_of
refused_example = refl
