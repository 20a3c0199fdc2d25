-- `joining::too_large` meets its contract: `||` is the definition's, one test after the other.
use borrow.Author.Tests.{lt-ltb, le-ltb}
use Rattle.joining.proofs.too_large.Goals as goal

pub returns-then-n-gt1024 : goal.returns-then-n-gt1024
returns-then-n-gt1024 c = simp (lt-ltb _ _ c.if-n-gt1024.true)

pub returns-else-n-gt1024 : goal.returns-else-n-gt1024
returns-else-n-gt1024 c = simp (le-ltb _ _ c.if-n-gt1024.false)
