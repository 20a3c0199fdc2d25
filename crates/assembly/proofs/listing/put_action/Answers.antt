-- `assembly::listing::put_action` meets its contract: each kind has its words, and what is no kind has none.
use native.Mathlib.Omega.{arith}
use Rattle.text.specs.Text.{ascii}
use Rattle.text.proofs.Putting.{puts_none, puts_word, puts_within}
use Rattle.assembly.specs.Disassembly.{action_texts}
use Rattle.assembly.proofs.listing.put_action.Goals as goal

pub returns-in-End : goal.returns-in-End
unfolding action_texts
returns-in-End c = rw c.in-End.is (puts_within (omega arith) (puts_word (ascii "end") c.put_word.ensures))

pub returns-in-Work : goal.returns-in-Work
unfolding action_texts
returns-in-Work c = rw c.in-Work.is (puts_within (omega arith) (puts_word (ascii "work") c.put_word-in-Work.ensures))

pub returns-in-Alloc : goal.returns-in-Alloc
unfolding action_texts
returns-in-Alloc c = rw c.in-Alloc.is c.put_operand.ensures

pub returns-in-Free : goal.returns-in-Free
unfolding action_texts
returns-in-Free c = rw c.in-Free.is c.put_operand-in-Free.ensures

pub returns-in-Fork : goal.returns-in-Fork
unfolding action_texts
returns-in-Fork c = rw c.in-Fork.is c.put_operand-in-Fork.ensures

pub returns-in-Join : goal.returns-in-Join
unfolding action_texts
returns-in-Join c = rw c.in-Join.is c.put_operand-in-Join.ensures

pub returns-in-Unknown : goal.returns-in-Unknown
unfolding action_texts
returns-in-Unknown c = rw c.in-Unknown.is (puts_none 14)
