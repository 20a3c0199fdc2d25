-- `wivakkol::wivakkol_quota_on` meets its contract: what the largest quota's call answers, case by case.
use Rattle.wivakkol.proofs.Answers.{given_row, no_quota_row}
use Rattle.wivakkol.proofs.wivakkol_quota_on.Goals as goal

pub returns-in-Ok : goal.returns-in-Ok
returns-in-Ok c = let e = c.largest_quota_in-quoted.ensures in
    let r = given_row _ _ _ _ _ _ e.result_value c.workers-w.ensures _ c.in-Ok.is in record { value = r.0; row_after = r.1; rises_after = e.rises_after }

pub returns-in-Err : goal.returns-in-Err
returns-in-Err c = let e = c.largest_quota_in-quoted.ensures in
    let r = no_quota_row _ _ _ _ _ _ e.result_value c.workers-w.ensures _ c.in-Err.is in record { value = r.0; row_after = r.1; rises_after = e.rises_after }
