-- The table lies within its buffer.
use Rattle.std.proofs.Common.{sym, length-take-le}
use Rattle.assembly.proofs.Within.{written_within}
use Rattle.assembly_cases.proofs.answer_table.Goals as goal

pub slice_bounds-table-end : goal.slice_bounds-table-end
slice_bounds-table-end c = let a = c.in-Ok.ensures in written_within _ _ _ _ (sym a.value) a.out_after

pub slice_bounds-facts-end : goal.slice_bounds-facts-end
slice_bounds-facts-end c =
    let a = c.in-Ok.ensures in
    sym (length-take-le _ _ (written_within _ _ _ _ (sym a.value) a.out_after))
