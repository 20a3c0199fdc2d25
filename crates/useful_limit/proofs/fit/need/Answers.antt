-- `useful_limit::fit::need` meets its contract.
use Rattle.useful_limit.proofs.Steps.{need_is}
use mathlib.Core.Path.{ap, ◌∙◌}
use Prim.Native.Nat.{min}
use borrow.Author.Rules.{rules}
use Rattle.useful_limit.proofs.fit.need.Goals as goal

pub returns : goal.returns
returns c = need_is _ _ c.min-2.ensures (c.min.ensures ∙ ap (min _) c.rested_need.ensures) c.ruled_need.ensures
