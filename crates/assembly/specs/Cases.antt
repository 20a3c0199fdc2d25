-- Worked cases, computed on the definitions: table E as text and back, and a text with a thread left out.
use Rattle.std.specs.Prelude.{◌≡◌, refl, ℕ}
use mathlib.Core.List.{List, ◌++◌, flatten}
use Rattle.table.specs.Format.{code_of, kind_of, table_of}
use Rattle.table.specs.Cases.{E}
use Rattle.text.specs.Text.{ascii, digits_of, decimal}
use Rattle.assembly.specs.Words.{span_of, parts, nonempty, value_from, number_in, same}
use Rattle.assembly.specs.Said.{code_of_word, said_by, meaning_of, saids}
use Rattle.assembly.specs.Assembly.{checked_from, checked, how_many, body_count, entries_from, actions_in, table_bytes}
use Rattle.assembly.specs.Disassembly.{action_texts, body_texts, threads_texts, text_of}
use Rattle.assembly.specs.declared.Expected.TheVariants.{NextThread}
use Rattle.std.specs.Prelude.{Err}
use Rattle.assembly.specs.Assembly.{fault_at}

-- "E: thread 0 fork 1, fork 2, join 2, join 1, end; thread 1 alloc 6, work, free 6, end; thread 2 alloc 6, free 6, end"
abbrev pub text_of_e : List ℕ
text_of_e = ascii "thread 0\nfork 1\nfork 2\njoin 2\njoin 1\nend\nthread 1\nalloc 6\nwork\nfree 6\nend\nthread 2\nalloc 6\nfree 6\nend\n"

e_bytes : table_bytes (saids text_of_e) ≡ E
unfolding span_of parts nonempty value_from number_in same code_of_word said_by meaning_of how_many body_count entries_from actions_in table_bytes flatten code_of
e_bytes = refl

-- as it is written out
abbrev numbered_text_of_e : List ℕ
numbered_text_of_e =
    ascii "thread 0\nfork 1 # action 0\nfork 2 # action 1\njoin 2 # action 2\njoin 1 # action 3\nend # action 4\n"
    ++ ascii "thread 1\nalloc 6 # action 5\nwork # action 6\nfree 6 # action 7\nend # action 8\n"
    ++ ascii "thread 2\nalloc 6 # action 9\nfree 6 # action 10\nend # action 11\n"

e_text : text_of (table_of E) ≡ numbered_text_of_e
unfolding code_of kind_of table_of action_texts body_texts threads_texts text_of flatten decimal digits_of
e_text = refl

left_out : checked (saids (ascii "thread 0\nend\nthread 2\nend\n")) ≡ Err (fault_at 3 (NextThread 1))
unfolding span_of parts nonempty value_from number_in same code_of_word said_by meaning_of checked_from
left_out = refl
