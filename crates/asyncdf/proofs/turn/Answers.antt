-- `asyncdf::turn` meets its contract: check 32, and then the turn in the blocks.
use mathlib.Core.Path.{◌≡◌, refl, sym, ◌∙◌}
use mathlib.Core.Bool.{false}
use native.Mathlib.Omega.{arith}
use lib.Seq.{length-take-le}
use Rattle.schedule.specs.Turn.{unsound}
use Rattle.schedule.proofs.Runs.Values.{turn_values_lem}
use Rattle.soundness.proofs.Passed.{test_fails, test_passes, test_parents}
use Rattle.array_machine.proofs.Answers.{turned_unsound}
use Rattle.asyncdf.proofs.Calls.{turned_answers, table_inside, turn_stopped, turn_taken, told_small}
use Rattle.asyncdf.proofs.turn.Goals.{In-Some}
use Rattle.asyncdf.proofs.turn.Goals as goal

-- the record passed the test
passed : (c : In-Some) → unsound c.args.run ≡ false
passed c = test_passes _ _ c.in-Some.ensures

pub returns-in_default : goal.returns-in_default
returns-in_default c = let both = turned_answers (c.refused.ensures ∙ turned_unsound _ _ (test_fails _ c.in_default.ensures)) in record { value = both.0; answer_value = rw (← turn_values_lem) both.1 }

pub slice_bounds-table-end : goal.slice_bounds-table-end
slice_bounds-table-end c = table_inside _ (passed (goal.at.slice_bounds-table-end c).In-Some)

pub slice_bounds-table-end-2 : goal.slice_bounds-table-end-2
slice_bounds-table-end-2 c =
    sym (length-take-le c.args.run.length c.args.run.table (table_inside _ (passed (goal.at.slice_bounds-table-end-2 c).In-Some)))

pub overflow_cast-number : goal.overflow_cast-number
overflow_cast-number c = omega (arith, told_small _ _ _ c.in-Err.ensures.sums_after)

pub returns-in-Err : goal.returns-in-Err
returns-in-Err c = let both = turned_answers (c.refused-in-Err.ensures
    ∙ turn_stopped _ (passed (goal.at.returns-in-Err c).In-Some) _ (λ h. test_parents _ _ c.in-Some.ensures h) c.pack.ensures _ c.in-Err.ensures.sums_after (c.in-Err.ensures.nonzero _ refl)) in record { value = both.0; answer_value = rw (← turn_values_lem) both.1 }

pub returns-in-Ok : goal.returns-in-Ok
returns-in-Ok c = let both = turned_answers (turn_taken _ (passed (goal.at.returns-in-Ok c).In-Some) _ (λ h. test_parents _ _ c.in-Some.ensures h) c.pack.ensures _ c.in-Ok.ensures.sums_after refl
    c.in-Ok.ensures.passed_value c.unpack.ensures) in record { value = both.0; answer_value = rw (← turn_values_lem) both.1 }
