-- `links::thread_before` meets its contract, by the two cases of the test.
use Rattle.links.proofs.Laying.{left_first, left_there_lem}
use Rattle.links.proofs.thread_before.Goals as goal

pub returns-then-i-eq0 : goal.returns-then-i-eq0
returns-then-i-eq0 c = left_first c.args.row.now c.args.i c.if-i-eq0.true

pub returns-else-i-eq0 : goal.returns-else-i-eq0
returns-else-i-eq0 c = left_there_lem c.args.row.now c.args.i c.if-i-eq0.false
