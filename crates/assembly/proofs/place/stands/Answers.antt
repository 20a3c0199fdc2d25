-- `assembly::place::stands` meets its contract: `&&` is the definition's.
use Rattle.assembly.proofs.place.stands.Goals as goal

pub returns-then-counts : goal.returns-then-counts
returns-then-counts c = rw c.if-counts.true
