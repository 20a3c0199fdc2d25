-- `pace::took` meets its contract: what each part leaves, put together.
use mathlib.Core.Path.{sym}
use native.Mathlib.Omega.{arith}
use Rattle.pace.proofs.Steps.{took_in, took_past}
use borrow.Author.Rules.{rules}
use Rattle.pace.proofs.took.Goals as goal

pub returns-then-w-lt16 : goal.returns-then-w-lt16
returns-then-w-lt16 c = let d = c.args in cc (took_in d.pace.now d.w (omega arith))

pub returns-else-w-lt16 : goal.returns-else-w-lt16
returns-else-w-lt16 c = let d = c.args in sym (took_past d.pace.now d.w (omega arith))
