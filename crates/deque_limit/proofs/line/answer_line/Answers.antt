-- `deque_limit::line::answer_line` meets its contract: each kind of answer has its line.
use borrow.Author.Rules.{rules}
use Rattle.deque_limit.proofs.line.answer_line.Goals as goal

pub returns-in-Ok : goal.returns-in-Ok
returns-in-Ok c = record { value = rw c.in-Ok.is c.bounds_line.ensures.value; out_after = rw c.in-Ok.is c.bounds_line.ensures.out_after; upper_bound = c.bounds_line.ensures.upper_bound }

pub returns-in-Err : goal.returns-in-Err
returns-in-Err c = record { value = rw c.in-Err.is c.table_line.ensures.value; out_after = rw c.in-Err.is c.table_line.ensures.out_after; upper_bound = c.table_line.ensures.upper_bound }
