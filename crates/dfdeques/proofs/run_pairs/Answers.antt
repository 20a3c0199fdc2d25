-- `dfdeques::run_pairs` meets its contract: check 32, and then the run in the blocks.
use mathlib.Core.Path.{◌≡◌, sym, ◌∙◌}
use mathlib.Core.Bool.{false}
use native.Mathlib.Omega.{arith}
use borrow.Author.Rules.{rules}
use lib.Seq.{length-take-le}
use Rattle.deques.specs.DequeTurn.{unsound_deques}
use Rattle.deques.proofs.DequeAnswers.{pairs_values_lem}
use Rattle.dfdeques.proofs.DequesPassed.{deque_fails, deque_passes, deque_parents}
use Rattle.dfdeques.proofs.DequeByValue.{pairs_unsound, deque_inside, pairs_taken_lem, ran_as, pairs_small, ran_answers}
use Rattle.asyncdf.proofs.Calls.{report_is}
use Rattle.dfdeques.proofs.run_pairs.Goals.{In-Some}
use Rattle.dfdeques.proofs.run_pairs.Goals as goal

-- the record passed the test
passed : (c : In-Some) → unsound_deques c.args.run ≡ false
passed c = deque_passes _ _ c.in-Some.ensures

pub returns-in_default : goal.returns-in_default
returns-in_default c = let both = (ran_answers (pairs_unsound _ _ (deque_fails _ c.in_default.ensures))) in record { value = rw c.unsound.ensures both.0; report_value = rw (← pairs_values_lem, c.unsound.ensures) both.1 }

pub slice_bounds-table-end : goal.slice_bounds-table-end
slice_bounds-table-end c = deque_inside _ (passed (goal.at.slice_bounds-table-end c).In-Some)

pub slice_bounds-table-end-2 : goal.slice_bounds-table-end-2
slice_bounds-table-end-2 c =
    sym (length-take-le c.args.run.run.length c.args.run.run.table (deque_inside _ (passed (goal.at.slice_bounds-table-end-2 c).In-Some)))

pub returns : goal.returns
returns c = let both = (ran_answers (ran_as (c.report_of-report.ensures ∙ report_is _ _ c.deque_list_in-stop.ensures.nonzero (pairs_small _ _ _ c.deque_list_in-stop.ensures.run_value)) c.unpack_deques-after.ensures
    (pairs_taken_lem _ (passed (goal.at.returns c).In-Some) _ (λ h. deque_parents _ _ c.in-Some.ensures h) c.pack_deques.ensures _ c.deque_list_in-stop.ensures.run_value))) in record { value = both.0; report_value = rw (← pairs_values_lem) both.1 }
