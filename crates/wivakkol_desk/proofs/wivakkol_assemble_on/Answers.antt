-- `wivakkol_desk::wivakkol_assemble_on` meets its contract: the answer's number and row, or the bytes that are lacking.
use Rattle.wivakkol_desk.proofs.Rows.{answered_row, short_row}
use Rattle.wivakkol_desk.proofs.wivakkol_assemble_on.Goals as goal

pub returns-in-Ok : goal.returns-in-Ok
returns-in-Ok c = let v = answered_row c.args.text.now _ _ _ _ _ c.in-Ok.is c.assemble_in-answer.ensures.value c.answer_row.ensures.value c.answer_row.ensures.row_after in
    record { value = v.0; row_after = v.1; out_after = c.assemble_in-answer.ensures.out_after; rises_after = c.assemble_in-answer.ensures.rises_after }

pub returns-in-Err : goal.returns-in-Err
returns-in-Err c = let v = short_row c.args.text.now _ _ _ c.in-Err.is c.assemble_in-answer.ensures.value in
    record { value = v.0; row_after = v.1; out_after = c.assemble_in-answer.ensures.out_after; rises_after = c.assemble_in-answer.ensures.rises_after }
