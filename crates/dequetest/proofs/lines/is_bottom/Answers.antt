-- `dequetest::lines::is_bottom` meets its contract: `||` is the definition's, one test after the other.
use borrow.Author.Rules.{rules}
use borrow.Author.Tests.{lt-ltb, le-ltb}
use Rattle.dequetest.proofs.lines.is_bottom.Goals as goal

pub returns-then-under-t-lt-NO_THREAD : goal.returns-then-under-t-lt-NO_THREAD
returns-then-under-t-lt-NO_THREAD c = simp (lt-ltb _ _ c.if-under-t-lt-NO_THREAD.true)

pub returns-else-under-t-lt-NO_THREAD : goal.returns-else-under-t-lt-NO_THREAD
returns-else-under-t-lt-NO_THREAD c = simp (le-ltb _ _ c.if-under-t-lt-NO_THREAD.false)
