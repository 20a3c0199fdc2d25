-- `pace::next` meets its contract: the worker after that of the latest turn, or worker 0.
use mathlib.Core.Path.{sym}
use native.Mathlib.Omega.{arith}
use Rattle.pace.proofs.Steps.{next_after, next_first}
use borrow.Author.Rules.{rules}
use Rattle.pace.proofs.next.Goals as goal

pub returns-then-after-pace : goal.returns-then-after-pace
returns-then-after-pace c = sym (next_after c.args.pace.now c.if-after-pace.true)

pub returns-else-after-pace : goal.returns-else-after-pace
returns-else-after-pace c = sym (next_first c.args.pace.now c.if-after-pace.false)
