-- `filling::count::is_full` meets its contract.
use borrow.Author.Tests.{lt-ltb, le-ltb}
use Rattle.filling.proofs.count.is_full.Goals as goal

pub returns-then-threads-gt1024 : goal.returns-then-threads-gt1024
returns-then-threads-gt1024 c = rw (lt-ltb _ _ c.if-quota-x.true, lt-ltb 1024 _ c.if-threads-gt1024.true)

pub returns-else-threads-gt1024 : goal.returns-else-threads-gt1024
returns-else-threads-gt1024 c = rw (lt-ltb _ _ c.if-quota-x.true, le-ltb 1024 _ c.if-threads-gt1024.false)

pub returns-else-quota-x : goal.returns-else-quota-x
returns-else-quota-x c = rw (le-ltb _ _ c.if-quota-x.false)
