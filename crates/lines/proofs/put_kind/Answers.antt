-- `lines::put_kind` meets its contract: each kind has its name.
use native.Mathlib.Omega.{arith}
use Rattle.table.specs.declared.kinds.Kind.TheVariants.{End as end, Work as work, Alloc as alloc, Free as free, Fork as fork, Join as join, Unknown as unknown}
use Rattle.lines.specs.Lines.{kind_word}
use Rattle.text.proofs.Putting.{puts_word, puts_within}
use Rattle.lines.proofs.put_kind.Goals as goal

pub returns-in-End : goal.returns-in-End
unfolding kind_word
returns-in-End c = rw c.in-End.is (puts_within (omega arith) (puts_word (kind_word end) c.put_word.ensures))

pub returns-in-Work : goal.returns-in-Work
unfolding kind_word
returns-in-Work c = rw c.in-Work.is (puts_within (omega arith) (puts_word (kind_word work) c.put_word-in-Work.ensures))

pub returns-in-Alloc : goal.returns-in-Alloc
unfolding kind_word
returns-in-Alloc c = rw c.in-Alloc.is (puts_within (omega arith) (puts_word (kind_word alloc) c.put_word-in-Alloc.ensures))

pub returns-in-Free : goal.returns-in-Free
unfolding kind_word
returns-in-Free c = rw c.in-Free.is (puts_within (omega arith) (puts_word (kind_word free) c.put_word-in-Free.ensures))

pub returns-in-Fork : goal.returns-in-Fork
unfolding kind_word
returns-in-Fork c = rw c.in-Fork.is (puts_within (omega arith) (puts_word (kind_word fork) c.put_word-in-Fork.ensures))

pub returns-in-Join : goal.returns-in-Join
unfolding kind_word
returns-in-Join c = rw c.in-Join.is (puts_within (omega arith) (puts_word (kind_word join) c.put_word-in-Join.ensures))

pub returns-in-Unknown : goal.returns-in-Unknown
unfolding kind_word
returns-in-Unknown c = rw c.in-Unknown.is (puts_within (omega arith) (puts_word (kind_word unknown) c.put_word-in-Unknown.ensures))
