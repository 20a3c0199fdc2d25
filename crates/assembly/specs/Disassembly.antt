-- The text of a table: each thread's line, and its actions one to a line, each with its number as a comment.
use Rattle.std.specs.Prelude.{ℕ, zero, suc, ◌+◌, ◌*◌, length, Err, Ok, Result}
use Rattle.table.specs.declared.Facts.{Facts}
use Rattle.table.specs.declared.Refusal.{Refusal}
use mathlib.Core.List.{List, [], ◌∷◌, ◌++◌, flatten}
use Rattle.table.specs.Format.{Table, table_of, kind_of}
use Rattle.table.specs.declared.kinds.Kind.{Kind}
use Rattle.table.specs.declared.kinds.Kind.TheVariants.{End as end, Work as work, Alloc as alloc, Free as free, Fork as fork, Join as join, Unknown as unknown}
use Rattle.table.specs.Load.{loaded}
use Rattle.text.specs.Text.{ascii, decimal, newline}
use Rattle.assembly.specs.Assembly.{over, or_short, kept_if_short}
use Rattle.assembly.specs.declared.Short.{Short}

-- "thread 0"
abbrev pub thread_texts : ℕ → List (List ℕ)
thread_texts t = ascii "thread " ∷ decimal t ∷ newline ∷ []

-- "alloc 6"
abbrev pub operand_texts : List ℕ → ℕ → List (List ℕ)
operand_texts word x = word ∷ decimal x ∷ []

-- an action's words: `end` and `work` have no number, and no kind has no text
unfoldable pub action_texts : Kind → ℕ → List (List ℕ)
action_texts end x = ascii "end" ∷ []
action_texts work x = ascii "work" ∷ []
action_texts alloc x = operand_texts (ascii "alloc ") x
action_texts free x = operand_texts (ascii "free ") x
action_texts fork x = operand_texts (ascii "fork ") x
action_texts join x = operand_texts (ascii "join ") x
action_texts unknown x = []

-- a comment with the action's number, by which refusals and replies name it, and the line's end
abbrev pub number_texts : ℕ → List (List ℕ)
number_texts a = ascii " # action " ∷ decimal a ∷ newline ∷ []

-- `alloc 6 # action 5`
abbrev pub line_texts : Table → ℕ → List (List ℕ)
line_texts T a = action_texts (kind_of (T.code a)) (T.argument a) ++ number_texts a

-- k actions from a on
unfoldable pub body_texts : Table → ℕ → ℕ → List (List ℕ)
body_texts T a zero = []
body_texts T a (suc k) = body_texts T a k ++ line_texts T (a + k)

-- a thread's line and its body
abbrev pub whole_texts : Table → ℕ → List (List ℕ)
whole_texts T t = thread_texts t ++ body_texts T (T.first t) (T.count t)

-- the threads below k
unfoldable pub threads_texts : Table → ℕ → List (List ℕ)
threads_texts T zero = []
threads_texts T (suc k) = threads_texts T k ++ whole_texts T k

unfoldable pub text_of : Table → List ℕ
text_of T = flatten (threads_texts T T.threads)

abbrev pub listed_as : Result Facts Refusal → Table → Result ℕ Refusal
listed_as (Ok f) T = Ok (length (text_of T))
listed_as (Err r) T = Err r

unfoldable pub disassembled : List ℕ → Result ℕ Refusal
disassembled s = listed_as (loaded s) (table_of s)

-- the lent buffer afterwards
abbrev pub listed_in : Result Facts Refusal → Table → List ℕ → List ℕ
listed_in (Ok f) T out = over (text_of T) out
listed_in (Err r) T out = out

unfoldable pub disassembled_in : List ℕ → List ℕ → List ℕ
disassembled_in s out = listed_in (loaded s) (table_of s) out

-- ---- in a buffer of some length

-- bytes that the text of every table of as many threads and actions fits
abbrev pub most_text : Table → ℕ
most_text T = 12 * T.threads + 31 * T.actions

-- none where the table is refused
abbrev pub most_of : Result Facts Refusal → Table → ℕ
most_of (Ok f) T = most_text T
most_of (Err r) T = 0

unfoldable pub disassembling : ℕ → List ℕ → Result (Result ℕ Refusal) Short
disassembling room s = or_short room (most_of (loaded s) (table_of s)) (disassembled s)

unfoldable pub disassembling_in : List ℕ → List ℕ → List ℕ
disassembling_in s out = kept_if_short (most_of (loaded s) (table_of s)) out (disassembled_in s out)
