-- `filling::puts::width` meets its contract.
use borrow.Author.Tests.{le-ltb, lt-ltb}
use Rattle.filling.proofs.puts.width.Goals as goal

pub returns-then-quota-x : goal.returns-then-quota-x
returns-then-quota-x c = rw (lt-ltb _ _ c.if-quota-x.true)

pub returns-else-quota-x : goal.returns-else-quota-x
returns-else-quota-x c = rw (le-ltb _ _ c.if-quota-x.false)
