-- `wivakkol_tables::wivakkol_join_on` meets its contract: the answer's number and row are those of its values.
use Rattle.std.specs.Prelude.{Err}
use mathlib.Core.Path.{ap, ◌∙◌}
use Rattle.wivakkol_tables.proofs.Rows.{join_row_lem}
use Rattle.wivakkol_tables.proofs.wivakkol_join_on.Goals as goal

pub returns-in-Ok : goal.returns-in-Ok
returns-in-Ok c =
    let e = c.join_in-answer.ensures in
    let v = join_row_lem _ _ _ c.in-Ok.is e.result_value in
    record { value = v.0; row_after = v.1; out_after = e.out_after; rises_after = e.rises_after }

pub returns-in-Whole : goal.returns-in-Whole
returns-in-Whole c =
    let e = c.join_in-answer.ensures in
    let v = join_row_lem _ _ _ (c.in-Err.is ∙ ap Err c.in-Whole.is) e.result_value in
    record { value = v.0; row_after = v.1; out_after = e.out_after; rises_after = e.rises_after }

pub returns-in-InPart : goal.returns-in-InPart
returns-in-InPart c =
    let e = c.join_in-answer.ensures in
    let v = join_row_lem _ _ _ (c.in-Err.is ∙ ap Err c.in-InPart.is) e.result_value in
    record { value = v.0; row_after = v.1; out_after = e.out_after; rises_after = e.rises_after }
