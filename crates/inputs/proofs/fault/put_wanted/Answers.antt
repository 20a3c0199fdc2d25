-- `inputs::fault::put_wanted` meets its contract, by what was wanted.
use native.Mathlib.Omega.{arith}
use Rattle.text.specs.Text.{ascii}
use Rattle.inputs.specs.Message.{wanted_texts}
use Rattle.text.proofs.Putting.{puts_word, puts_within}
use Rattle.inputs.proofs.fault.put_wanted.Goals as goal

pub returns-in-Workers : goal.returns-in-Workers
unfolding wanted_texts
returns-in-Workers c = rw c.in-Workers.is (puts_within (omega arith) (puts_word (ascii "workers") c.put_word.ensures))

pub returns-in-QuotaOrBetween : goal.returns-in-QuotaOrBetween
unfolding wanted_texts
returns-in-QuotaOrBetween c = rw c.in-QuotaOrBetween.is (puts_within (omega arith) (puts_word (ascii "quota or between") c.put_word-in-QuotaOrBetween.ensures))

pub returns-in-OrderOrLimit : goal.returns-in-OrderOrLimit
unfolding wanted_texts
returns-in-OrderOrLimit c = rw c.in-OrderOrLimit.is (puts_within (omega arith) (puts_word (ascii "order or limit") c.put_word-in-OrderOrLimit.ensures))

pub returns-in-Memory : goal.returns-in-Memory
unfolding wanted_texts
returns-in-Memory c = rw c.in-Memory.is (puts_within (omega arith) (puts_word (ascii "memory") c.put_word-in-Memory.ensures))

pub returns-in-Number : goal.returns-in-Number
unfolding wanted_texts
returns-in-Number c = rw c.in-Number.is c.put_most.ensures

pub returns-in-LineEnd : goal.returns-in-LineEnd
unfolding wanted_texts
returns-in-LineEnd c = rw c.in-LineEnd.is (puts_within (omega arith) (puts_word (ascii "the end of the line") c.put_word-in-LineEnd.ensures))

pub returns-in-FewerWorkers : goal.returns-in-FewerWorkers
unfolding wanted_texts
returns-in-FewerWorkers c = rw c.in-FewerWorkers.is (puts_within (omega arith) (puts_word (ascii "an order of at most 4096 workers") c.put_word-in-FewerWorkers.ensures))
