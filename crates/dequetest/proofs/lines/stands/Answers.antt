-- `dequetest::lines::stands` meets its contract: `||` is the definition's, one test after the other.
use borrow.Author.Tests.{eq-eqb, ne_eqb}
use Rattle.dequetest.proofs.lines.stands.Goals as goal

pub returns-then-status-eq-READY : goal.returns-then-status-eq-READY
returns-then-status-eq-READY c = rw (eq-eqb c.args.status 1 c.if-status-eq-READY.true)

pub returns-else-status-eq-READY : goal.returns-else-status-eq-READY
returns-else-status-eq-READY c = rw (ne_eqb c.args.status 1 c.if-status-eq-READY.false)
