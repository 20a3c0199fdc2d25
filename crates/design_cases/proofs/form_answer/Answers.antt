-- The form lies within its buffer.
use Rattle.std.proofs.Common.{sym, length-take-le}
use Rattle.canonical.proofs.FormPut.{formed_within}
use Rattle.design_cases.proofs.form_answer.Goals as goal

pub slice_bounds-table-end : goal.slice_bounds-table-end
slice_bounds-table-end c = let a = c.in-Ok.ensures in formed_within _ _ _ _ (sym a.value) a.out_after

pub slice_bounds-table_answer-end : goal.slice_bounds-table_answer-end
slice_bounds-table_answer-end c =
    let a = c.in-Ok.ensures in
    sym (length-take-le _ _ (formed_within _ _ _ _ (sym a.value) a.out_after))
