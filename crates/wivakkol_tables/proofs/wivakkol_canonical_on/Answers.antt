-- `wivakkol_tables::wivakkol_canonical_on` meets its contract: the answer's number and row are those of its values.
use Rattle.wivakkol_tables.proofs.Rows.{form_row_lem}
use Rattle.wivakkol_tables.proofs.wivakkol_canonical_on.Goals as goal

pub returns-in-Ok : goal.returns-in-Ok
returns-in-Ok c =
    let e = c.form_in-answer.ensures in
    let v = form_row_lem _ _ _ c.in-Ok.is e.result_value in
    record { value = v.0; row_after = v.1; out_after = e.out_after; rises_after = e.rises_after; names_after = e.names_after }

pub returns-in-Err : goal.returns-in-Err
returns-in-Err c =
    let e = c.form_in-answer.ensures in
    let v = form_row_lem _ _ _ c.in-Err.is e.result_value in
    record { value = v.0; row_after = v.1; out_after = e.out_after; rises_after = e.rises_after; names_after = e.names_after }
