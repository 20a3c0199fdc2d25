-- `asyncdf::run_by` meets its contract: check 32, and then the run in the blocks.
use mathlib.Core.Path.{◌≡◌, sym, ◌∙◌}
use mathlib.Core.Bool.{false}
use native.Mathlib.Omega.{arith}
use lib.Seq.{length-take-le}
use Rattle.schedule.specs.Turn.{unsound}
use Rattle.soundness.proofs.Passed.{test_fails, test_passes, test_parents}
use Rattle.asyncdf.proofs.Calls.{run_unsound, table_inside, run_taken, report_is, ran_as, run_small}
use Rattle.asyncdf.proofs.run_by.Goals.{In-Some}
use Rattle.asyncdf.proofs.run_by.Goals as goal

-- the record passed the test
passed : (c : In-Some) → unsound c.args.run ≡ false
passed c = test_passes _ _ c.in-Some.ensures

pub returns-in_default : goal.returns-in_default
returns-in_default c =
    c.unsound.ensures ∙ run_unsound _ c.args.order (test_fails _ c.in_default.ensures)

pub slice_bounds-table-end : goal.slice_bounds-table-end
slice_bounds-table-end c = table_inside _ (passed (goal.at.slice_bounds-table-end c).In-Some)

pub slice_bounds-table-end-2 : goal.slice_bounds-table-end-2
slice_bounds-table-end-2 c =
    sym (length-take-le c.args.run.length c.args.run.table (table_inside _ (passed (goal.at.slice_bounds-table-end-2 c).In-Some)))

pub returns : goal.returns
returns c =
    ran_as (c.report_of-report.ensures ∙ report_is _ _ c.stop_in-stop.ensures.nonzero (run_small _ c.args.order _ c.stop_in-stop.ensures.run_value)) c.unpack-after.ensures
    (run_taken _ (passed (goal.at.returns c).In-Some) _ (λ h. test_parents _ _ c.in-Some.ensures h) c.pack.ensures c.args.order c.stop_in-stop.ensures.run_value)
