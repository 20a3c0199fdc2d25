-- The table lies within its buffer.
use Rattle.std.proofs.Common.{refl, sym, length-take-le}
use Rattle.filling.proofs.Measured.{answer_within}
use Rattle.origins.proofs.print_answer.Goals as goal

pub slice_bounds-table-end : goal.slice_bounds-table-end
slice_bounds-table-end c = let a = c.in-Ok.ensures in answer_within _ _ _ _ _ a.value refl a.out_after

pub slice_bounds-print_origins-end : goal.slice_bounds-print_origins-end
slice_bounds-print_origins-end c =
    let a = c.in-Ok.ensures in
    sym (length-take-le _ _ (answer_within _ _ _ _ _ a.value refl a.out_after))
