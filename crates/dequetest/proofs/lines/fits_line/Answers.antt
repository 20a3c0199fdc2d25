-- `dequetest::lines::fits_line` meets its contract.
use borrow.Author.Tests.{eq-eqb, ne_eqb}
use Rattle.dequetest.proofs.lines.fits_line.Goals as goal

pub returns-then-status-eq-HELD : goal.returns-then-status-eq-HELD
returns-then-status-eq-HELD c = rw (eq-eqb c.args.status 2 c.if-status-eq-HELD.true)

pub returns : goal.returns
returns c = rw (ne_eqb c.args.status 2 c.if-status-eq-HELD.false)
