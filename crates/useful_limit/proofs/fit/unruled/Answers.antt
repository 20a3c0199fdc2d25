-- `useful_limit::fit::unruled` meets its contract.
use Rattle.useful_limit.proofs.Steps.{unruled_is}
use borrow.Author.Rules.{rules}
use Rattle.useful_limit.proofs.fit.unruled.Goals as goal

pub returns : goal.returns
returns c = unruled_is _ c.min.ensures c.rested_need.ensures
