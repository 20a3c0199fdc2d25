-- `assembly::fault::put_expected` meets its contract, by what was expected.
use native.Mathlib.Omega.{arith}
use Rattle.text.specs.Text.{ascii}
use Rattle.text.proofs.Putting.{puts_word, puts_within}
use Rattle.assembly.specs.Message.{expected_texts}
use Rattle.assembly.proofs.fault.put_expected.Goals as goal

pub returns-in-Keyword : goal.returns-in-Keyword
unfolding expected_texts
returns-in-Keyword c = rw c.in-Keyword.is (puts_within (omega arith) (puts_word (ascii "thread, alloc, free, fork, join, work or end") c.put_word.ensures))

pub returns-in-Number : goal.returns-in-Number
unfolding expected_texts
returns-in-Number c = rw c.in-Number.is (puts_within (omega arith) (puts_word (ascii "a number up to 16777215") c.put_word-in-Number.ensures))

pub returns-in-LineEnd : goal.returns-in-LineEnd
unfolding expected_texts
returns-in-LineEnd c = rw c.in-LineEnd.is (puts_within (omega arith) (puts_word (ascii "the end of the line") c.put_word-in-LineEnd.ensures))

pub returns-in-NextThread : goal.returns-in-NextThread
unfolding expected_texts
returns-in-NextThread c = rw c.in-NextThread.is c.put_next.ensures
