-- `pace::may` meets its contract.
use Rattle.pace.specs.Pace.{may}
use borrow.Author.Rules.{rules}
use Rattle.pace.proofs.may.Goals as goal

pub returns : goal.returns
unfolding may
returns c = rw c.asks.ensures
