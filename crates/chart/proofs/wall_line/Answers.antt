-- `chart::wall_line` meets its contract, check by check; the line fills the buffer.
use Rattle.std.specs.Prelude.{Err, Result, ⊤}
use Rattle.table.specs.declared.Refusal.{Refusal}
use Prim.Native.Nat.{ℕ}
use native.Mathlib.Omega.{arith}
use mathlib.Core.Path.{◌≡◌, refl, ap, ◌∙◌}
use mathlib.Core.List.{List}
use mathlib.Core.Bool.{false}
use Rattle.schedule.specs.declared.Run.{Run}
use Rattle.schedule.specs.Turn.{unsound}
use Rattle.soundness.proofs.Passed.{test_fails, test_passes}
use Rattle.chart.specs.Chart.{charted, charted_in, charted_values, line_values}
use Rattle.chart.proofs.Records.{line_filled, many, few, charted_unsound, charted_many, charted_written, charted_values_lem}
use borrow.Author.Rules.{rules}
use Rattle.chart.proofs.wall_line.Goals.{In-Some}
use Rattle.chart.proofs.wall_line.Goals as goal

-- an answer, and the buffer that goes with it
answers : {x : Result ⊤ Refusal} (r : Run) (s o : List ℕ) → x ≡ charted r → o ≡ charted_in x r s
    → (x ≡ charted r) × ((charted_values x ≡ line_values r) × (o ≡ charted_in (charted r) r s))
answers r s o e f = (e, (ap charted_values e ∙ charted_values_lem r, f ∙ ap (λ (y : Result ⊤ Refusal). charted_in y r s) e))

-- the record passed the test
passed : (c : In-Some) → unsound c.args.run ≡ false
passed c = test_passes _ _ c.in-Some.ensures

pub returns-in_default : goal.returns-in_default
returns-in_default c = let a = c.args in let both = answers a.run a.out.now _ (ap Err c.new.ensures ∙ charted_unsound a.run (test_fails a.run c.in_default.ensures)) refl in record { value = both.0; result_value = both.1.0; out_after = both.1.1 }

pub returns-then-run-gt-MOST_TURNS : goal.returns-then-run-gt-MOST_TURNS
returns-then-run-gt-MOST_TURNS c = let a = c.args in
    let u = passed (goal.at.returns-then-run-gt-MOST_TURNS c).In-Some in let both = answers a.run a.out.now _ (ap Err c.new-then-run-gt-MOST_TURNS.ensures ∙ charted_many a.run u (many a.run u c.if-run-gt-MOST_TURNS.true)) refl in record { value = both.0; result_value = both.1.0; out_after = both.1.1 }

pub returns : goal.returns
returns c = let a = c.args in
    let u = passed (goal.at.returns c).In-Some in
    let t = few a.run u c.if-run-gt-MOST_TURNS.false in let both = answers a.run a.out.now _ (charted_written a.run u t)
    (line_filled a.run a.out.now _ _ u t (omega arith) c.put_line.ensures) in record { value = both.0; result_value = both.1.0; out_after = both.1.1 }
