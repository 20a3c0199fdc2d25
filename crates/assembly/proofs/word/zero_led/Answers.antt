-- `assembly::word::zero_led` meets its contract: `&&` is the definition's.
use borrow.Author.Tests.{lt-ltb, le-ltb}
use Rattle.assembly.proofs.word.zero_led.Goals as goal

pub returns-then-w-gt1 : goal.returns-then-w-gt1
returns-then-w-gt1 c = rw (lt-ltb _ _ c.if-w-gt1.true)

pub returns-else-w-gt1 : goal.returns-else-w-gt1
returns-else-w-gt1 c = rw (le-ltb _ _ c.if-w-gt1.false)
