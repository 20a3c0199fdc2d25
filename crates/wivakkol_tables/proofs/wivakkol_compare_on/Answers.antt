-- `wivakkol_tables::wivakkol_compare_on` meets its contract: the answer's number and row are those of its values.
use Rattle.wivakkol_tables.proofs.Rows.{compare_row_lem}
use Rattle.wivakkol_tables.proofs.wivakkol_compare_on.Goals as goal

pub returns-in-Ok : goal.returns-in-Ok
returns-in-Ok c =
    let e = c.compare_in-answer.ensures in
    let v = compare_row_lem _ _ _ c.in-Ok.is e.result_value in
    record { value = v.0; row_after = rw c.said_number.ensures v.1; a_after = e.a_after; b_after = e.b_after; rises_after = e.rises_after; names_after = e.names_after }

pub returns-in-Err : goal.returns-in-Err
returns-in-Err c =
    let e = c.compare_in-answer.ensures in
    let v = compare_row_lem _ _ _ c.in-Err.is e.result_value in
    record { value = v.0; row_after = v.1; a_after = e.a_after; b_after = e.b_after; rises_after = e.rises_after; names_after = e.names_after }
