-- `wivakkol_deques::open::wivakkol_deque_open_on` meets its contract: the test of the record's parts, with the workers' truth values.
use Rattle.wivakkol_deques.proofs.DequeOpens.{opens_so}
use borrow.Author.Rules.{rules}
use Rattle.wivakkol_deques.proofs.open.wivakkol_deque_open_on.Goals as goal

pub returns : goal.returns
returns c = record { totals_after = opens_so _ _ c.workers.ensures c.workers_at-records.ensures c.truths_right-written.ensures c.deque_open_in.ensures.value c.deque_open_in.ensures.parents_after; rises_after = c.deque_open_in.ensures.rises_after; forks_after = c.deque_open_in.ensures.forks_after }
