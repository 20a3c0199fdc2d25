-- `useful_limit::line::limit_whole` meets its contract: its buffer has the room for every table.
use mathlib.Core.Path.{◌∙◌}
use native.Mathlib.Omega.{arith}
use lib.ListN.{length-replicate}
use Prim.Native.Nat.{ℕ}
use Rattle.useful_limit.proofs.LimitAnswers.{limits_whole}
use borrow.Author.Rules.{rules}
use Rattle.useful_limit.proofs.line.limit_whole.Goals as goal

pub returns : goal.returns
returns c = c.limit_in.ensures.value ∙ limits_whole _ _ _ _ _ (omega (arith, length-replicate {A = ℕ} 36868 0))
