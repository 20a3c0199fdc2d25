-- `wivakkol::wivakkol_check_on` meets its contract: what loading answers, case by case.
use Rattle.wivakkol.proofs.Answers.{accepted_row, refused_row}
use Rattle.wivakkol.proofs.wivakkol_check_on.Goals as goal

pub returns-in-Ok : goal.returns-in-Ok
returns-in-Ok c = let l = c.load_in-loaded.ensures in
    let r = accepted_row _ _ l.result_value _ c.in-Ok.is in record { value = r.0; row_after = r.1; rises_after = l.rises_after }

pub returns-in-Err : goal.returns-in-Err
returns-in-Err c = let l = c.load_in-loaded.ensures in
    let r = refused_row _ _ l.result_value _ c.in-Err.is in record { value = r.0; row_after = r.1; rises_after = l.rises_after }
