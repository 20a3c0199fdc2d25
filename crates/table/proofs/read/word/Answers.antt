-- `table::read::word` meets its contract: past the end there are zeros.
use Rattle.table.proofs.Words.{word_past_end}
use Rattle.table.proofs.read.word.Goals as goal

pub returns-then-s-i : goal.returns-then-s-i
returns-then-s-i c = word_past_end c.args.s.now c.args.i c.if-s-i.true
