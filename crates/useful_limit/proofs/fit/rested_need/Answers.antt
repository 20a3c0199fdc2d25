-- `useful_limit::fit::rested_need` meets its contract.
use Rattle.useful_limit.proofs.Steps.{covers, covers_not}
use Rattle.useful_limit.proofs.fit.rested_need.Goals as goal

pub returns-then-x-quota : goal.returns-then-x-quota
returns-then-x-quota c = covers c.args.x _ c.if-x-quota.true

pub returns-else-x-quota : goal.returns-else-x-quota
returns-else-x-quota c = covers_not c.args.x _ c.if-x-quota.false
