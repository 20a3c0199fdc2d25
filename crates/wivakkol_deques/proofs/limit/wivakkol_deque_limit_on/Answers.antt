-- `wivakkol_deques::limit::wivakkol_deque_limit_on` meets its contract: what the limit's call answers, case by case.
use borrow.Author.Rules.{rules}
use Rattle.wivakkol_deques.proofs.ChoiceRows.{choice_handed, choice_given, choice_refused}
use Rattle.wivakkol_deques.proofs.limit.wivakkol_deque_limit_on.Goals as goal

pub returns-in-Ok : goal.returns-in-Ok
returns-in-Ok c = let a = c.args in
    let q = choice_handed a.table.now a.quota a.c a.p a.filled.now c.workers-w.ensures c.choice_limit_in-answer.ensures.value c.choice_limit_in-answer.ensures.filled_after in
    let r = choice_given q.0 c.in-Ok.is in record { value = r.0; row_after = r.1; filled_after = q.1; rises_after = c.choice_limit_in-answer.ensures.rises_after }

pub returns-in-Err : goal.returns-in-Err
returns-in-Err c = let a = c.args in
    let q = choice_handed a.table.now a.quota a.c a.p a.filled.now c.workers-w.ensures c.choice_limit_in-answer.ensures.value c.choice_limit_in-answer.ensures.filled_after in
    let r = choice_refused q.0 c.in-Err.is in record { value = r.0; row_after = r.1; filled_after = q.1; rises_after = c.choice_limit_in-answer.ensures.rises_after }
