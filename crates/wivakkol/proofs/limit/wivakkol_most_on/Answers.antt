-- `wivakkol::limit::wivakkol_most_on` meets its contract: what the call on the limit answers, case by case.
use Rattle.wivakkol.proofs.Answers.{limit_row_lem, no_limit_row}
use Rattle.wivakkol.proofs.limit.wivakkol_most_on.Goals as goal

pub returns-in-Ok : goal.returns-in-Ok
returns-in-Ok c = let e = c.most_turns_in-most.ensures in
    let r = limit_row_lem _ _ _ _ _ e.result_value c.workers-w.ensures _ c.in-Ok.is in record { value = r.0; row_after = r.1; rises_after = e.rises_after }

pub returns-in-Err : goal.returns-in-Err
returns-in-Err c = let e = c.most_turns_in-most.ensures in
    let r = no_limit_row _ _ _ _ _ e.result_value c.workers-w.ensures _ c.in-Err.is in record { value = r.0; row_after = r.1; rises_after = e.rises_after }
