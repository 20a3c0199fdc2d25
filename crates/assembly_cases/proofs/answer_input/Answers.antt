-- The input lies within its buffer.
use Rattle.std.proofs.Common.{sym, length-take-le}
use Rattle.inputs.proofs.Within.{made_within}
use Rattle.assembly_cases.proofs.answer_input.Goals as goal

pub slice_bounds-input-end : goal.slice_bounds-input-end
slice_bounds-input-end c = let a = c.in-Ok.ensures in made_within _ _ _ _ (sym a.value) a.out_after

pub slice_bounds-write_all-end : goal.slice_bounds-write_all-end
slice_bounds-write_all-end c =
    let a = c.in-Ok.ensures in
    sym (length-take-le _ _ (made_within _ _ _ _ (sym a.value) a.out_after))
