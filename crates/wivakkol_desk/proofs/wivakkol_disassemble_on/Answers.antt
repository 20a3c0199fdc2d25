-- `wivakkol_desk::wivakkol_disassemble_on` meets its contract: the answer's number and row, or the bytes that are lacking.
use Rattle.wivakkol_desk.proofs.Rows.{told_row, lacks_row}
use Rattle.wivakkol_desk.proofs.wivakkol_disassemble_on.Goals as goal

pub returns-in-Ok : goal.returns-in-Ok
returns-in-Ok c = let v = told_row _ _ _ _ _ c.in-Ok.is c.disassemble_in-answer.ensures.value c.listed_row.ensures.value c.listed_row.ensures.row_after in
    record { value = v.0; row_after = v.1; out_after = c.disassemble_in-answer.ensures.out_after; rises_after = c.disassemble_in-answer.ensures.rises_after }

pub returns-in-Err : goal.returns-in-Err
returns-in-Err c = let v = lacks_row _ _ _ c.in-Err.is c.disassemble_in-answer.ensures.value in
    record { value = v.0; row_after = v.1; out_after = c.disassemble_in-answer.ensures.out_after; rises_after = c.disassemble_in-answer.ensures.rises_after }
