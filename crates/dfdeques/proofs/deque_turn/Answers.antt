-- `dfdeques::deque_turn` meets its contract: check 32, and then the turn in the blocks.
use mathlib.Core.Path.{◌≡◌, refl, sym, ◌∙◌}
use mathlib.Core.Bool.{false}
use native.Mathlib.Omega.{arith}
use borrow.Author.Rules.{rules}
use lib.Seq.{length-take-le}
use Rattle.deques.specs.DequeTurn.{unsound_deques}
use Rattle.deques.proofs.DequeAnswers.{deque_turn_values_lem}
use Rattle.dfdeques.proofs.DequesPassed.{deque_fails, deque_passes, deque_parents}
use Rattle.dfdeques.proofs.DequeByValue.{turn_unsound, deque_inside, deque_stopped, deque_taken, told_small, turned_answers}
use Rattle.dfdeques.proofs.deque_turn.Goals.{In-Some}
use Rattle.dfdeques.proofs.deque_turn.Goals as goal

-- the record passed the test
passed : (c : In-Some) → unsound_deques c.args.run ≡ false
passed c = deque_passes _ _ c.in-Some.ensures

pub returns-in_default : goal.returns-in_default
returns-in_default c = let both = (turned_answers (c.refused.ensures ∙ turn_unsound _ _ _ (deque_fails _ c.in_default.ensures))) in record { value = both.0; answer_value = rw (← deque_turn_values_lem) both.1 }

pub slice_bounds-table-end : goal.slice_bounds-table-end
slice_bounds-table-end c = deque_inside _ (passed (goal.at.slice_bounds-table-end c).In-Some)

pub slice_bounds-table-end-2 : goal.slice_bounds-table-end-2
slice_bounds-table-end-2 c =
    sym (length-take-le c.args.run.run.length c.args.run.run.table (deque_inside _ (passed (goal.at.slice_bounds-table-end-2 c).In-Some)))

pub overflow_cast-number : goal.overflow_cast-number
overflow_cast-number c = omega (arith, told_small _ _ _ _ c.in-Err.ensures.turn_value)

pub returns-in-Err : goal.returns-in-Err
returns-in-Err c = let both = (turned_answers (c.refused-in-Err.ensures
    ∙ deque_stopped _ (passed (goal.at.returns-in-Err c).In-Some) _ (λ h. deque_parents _ _ c.in-Some.ensures h) c.pack_deques.ensures _ _ c.in-Err.ensures.turn_value (c.in-Err.ensures.nonzero _ refl))) in record { value = both.0; answer_value = rw (← deque_turn_values_lem) both.1 }

pub returns-in-Ok : goal.returns-in-Ok
returns-in-Ok c = let both = (turned_answers (deque_taken _ (passed (goal.at.returns-in-Ok c).In-Some) _ (λ h. deque_parents _ _ c.in-Some.ensures h) c.pack_deques.ensures _ _ c.in-Ok.ensures.turn_value refl
    c.unpack_deques.ensures)) in record { value = both.0; answer_value = rw (← deque_turn_values_lem) both.1 }
