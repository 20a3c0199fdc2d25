-- The joined table lies within its buffer.
use Rattle.joining.proofs.JoinGiven.{given_within}
use Rattle.design_cases.proofs.join_answer.Goals as goal

pub slice_bounds-table-end : goal.slice_bounds-table-end
slice_bounds-table-end c =
    let a = c.join_given-answer.ensures in
    (given_within _ _ _ _ _ a.value a.out_after c.joined_size-size.ensures).0

pub slice_bounds-table_answer-end : goal.slice_bounds-table_answer-end
slice_bounds-table_answer-end c =
    let a = c.join_given-answer.ensures in
    (given_within _ _ _ _ _ a.value a.out_after c.joined_size-size.ensures).1
