-- `wivakkol::useful::wivakkol_limit_on` meets its contract: what the useful limit's call answers, case by case.
use Rattle.wivakkol.proofs.UsefulRows.{limit_handed, limit_given, limit_refused}
use Rattle.wivakkol.proofs.useful.wivakkol_limit_on.Goals as goal

pub returns-in-Ok : goal.returns-in-Ok
returns-in-Ok c = let a = c.args in
    let e = c.limit_in-answer.ensures in
    let q = limit_handed a.table.now a.quota a.b a.p a.filled.now c.workers-w.ensures e.value e.filled_after in
    let r = limit_given q.0 c.in-Ok.is in record { value = r.0; row_after = r.1; filled_after = q.1; rises_after = e.rises_after }

pub returns-in-Err : goal.returns-in-Err
returns-in-Err c = let a = c.args in
    let e = c.limit_in-answer.ensures in
    let q = limit_handed a.table.now a.quota a.b a.p a.filled.now c.workers-w.ensures e.value e.filled_after in
    let r = limit_refused q.0 c.in-Err.is in record { value = r.0; row_after = r.1; filled_after = q.1; rises_after = e.rises_after }
