-- `soundness::holders::holders_wanted` meets its contract.
use borrow.Author.Tests.{eq-eqb, ne_eqb}
use Rattle.soundness.proofs.holders.holders_wanted.Goals as goal

pub returns-then-status-eq-HELD : goal.returns-then-status-eq-HELD
returns-then-status-eq-HELD c = rw (eq-eqb c.args.status 2 c.if-status-eq-HELD.true)

pub returns-else-status-eq-HELD : goal.returns-else-status-eq-HELD
returns-else-status-eq-HELD c = rw (ne_eqb c.args.status 2 c.if-status-eq-HELD.false)
