-- `assembly::place::names_thread` meets its contract: `||` is the definition's.
use borrow.Author.Tests.{eq-eqb, ne_eqb}
use Rattle.assembly.proofs.place.names_thread.Goals as goal

pub returns-then-number-eq4 : goal.returns-then-number-eq4
returns-then-number-eq4 c = rw (eq-eqb _ _ c.if-number-eq4.true)

pub returns-else-number-eq4 : goal.returns-else-number-eq4
returns-else-number-eq4 c = rw (ne_eqb _ _ c.if-number-eq4.false)
