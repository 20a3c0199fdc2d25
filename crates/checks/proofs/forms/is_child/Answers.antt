-- `checks::forms::is_child` meets its contract: `&&` is the definition's.
use borrow.Author.Tests.{lt-ltb, le-ltb}
use Rattle.checks.proofs.forms.is_child.Goals as goal

pub returns-then-own-x : goal.returns-then-own-x
returns-then-own-x c = simp (lt-ltb _ _ c.if-own-x.true)

pub returns-else-own-x : goal.returns-else-own-x
returns-else-own-x c = simp (le-ltb _ _ c.if-own-x.false)
