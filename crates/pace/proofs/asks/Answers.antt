-- `pace::asks` meets its contract.
use mathlib.Core.Path.{sym, ◌∙◌}
use native.Mathlib.Omega.{arith}
use Rattle.pace.proofs.Steps.{asked_in, asked_past}
use borrow.Author.Rules.{rules}
use Rattle.pace.proofs.asks.Goals as goal

pub returns-then-w-lt16 : goal.returns-then-w-lt16
returns-then-w-lt16 c = let d = c.args in c.most.ensures ∙ sym (asked_in d.pace.now d.w c.if-w-lt16.true)

pub returns-else-w-lt16 : goal.returns-else-w-lt16
returns-else-w-lt16 c = let d = c.args in sym (asked_past d.pace.now d.w (omega arith))
