-- `soundness::listed::is_live` meets its contract.
use borrow.Author.Tests.{eq-eqb, ne_eqb}
use Rattle.soundness.proofs.listed.is_live.Goals as goal

pub returns-then-status-ne-UNBORN : goal.returns-then-status-ne-UNBORN
returns-then-status-ne-UNBORN c = rw (ne_eqb c.args.status 0 c.if-status-ne-UNBORN.true)

pub returns-else-status-ne-UNBORN : goal.returns-else-status-ne-UNBORN
returns-else-status-ne-UNBORN c = rw (eq-eqb c.args.status 0 c.if-status-ne-UNBORN.false)
