-- `listing::chart_turns` meets its contract: the checks of a line, the record's line, and the turns as they are put.
use Rattle.std.specs.Prelude.{Err}
use mathlib.Core.Path.{◌≡◌}
use Prim.Native.Nat.{ℕ, ◌+◌, ◌*◌}
use mathlib.Core.List.{List, [], ◌∷◌}
use mathlib.Core.Bool.{true, false}
use native.Mathlib.Omega.{arith}
use borrow.Author.Rules.{rules}
use lib.ListN.{length}
use Rattle.table.specs.Pass.{refusal}
use Rattle.text.specs.Text.{refused_line, buffer_at}
use Rattle.schedule.specs.declared.Run.{Run}
use Rattle.schedule.specs.Turn.{unsound}
use Rattle.text.specs.Puts.{put_all, Puts}
use Rattle.text.proofs.Putting.{puts_within, puts_more}
use Rattle.chart.specs.Chart.{figures, line_texts, too_many, charted}
use Rattle.chart.specs.Turns.{chart_turns}
use Rattle.chart.proofs.Records.{wall_width, many, few, charted_unsound, charted_many, charted_written}
use Rattle.soundness.proofs.Passed.{test_fails, test_passes, test_parents, has_workers}
use Rattle.listing.specs.Sheets.{turns_texts}
use Rattle.listing.proofs.chart_turns.Goals.{In-Some}
use Rattle.listing.proofs.chart_turns.Goals as goal

module _ (run : Run) (order : List ℕ) {out : List ℕ} {at : ℕ} {o : List ℕ} {r : ℕ} where
  -- no line
  refused : (number : ℕ) → Err (refusal number 0) ≡ charted run → Puts out at o r (refused_line (refusal number 0) ∷ []) 64 → Puts out at o r (chart_turns run order) (85 * (length order + 2))
  unfolding chart_turns
  refused number e p = rw (← e) (puts_within (omega arith) p)

  -- the record's line, and those after each turn
  lined : {o₁ : List ℕ} {r₁ : ℕ} (u : unsound run ≡ false) (t : too_many run ≡ false) → buffer_at o₁ r₁ ≡ put_all (buffer_at out at) (line_texts (figures run))
      → Puts o₁ r₁ o r (turns_texts true run order) (85 * (length order + 1)) → Puts out at o r (chart_turns run order) (85 * (length order + 2))
  unfolding chart_turns turns_texts
  lined {o₁} {r₁} u t q p =
      let first : Puts out at o₁ r₁ (line_texts (figures run)) 85 = record { put = q; short = omega (arith, wall_width run u t) } in
      rw (← charted_written run u t) (puts_within (omega arith) (puts_more first p))

-- the record passed the test, and has few enough turns
passed : (c : In-Some) → unsound c.args.run ≡ false
passed c = test_passes _ _ c.in-Some.ensures

pub returns-in_default : goal.returns-in_default
returns-in_default c =
    let a = c.args in
    refused a.run a.order.now 32 (charted_unsound a.run (test_fails _ c.in_default.ensures)) c.put_refused.ensures

pub returns-then-run-gt-MOST_TURNS : goal.returns-then-run-gt-MOST_TURNS
returns-then-run-gt-MOST_TURNS c =
    let a = c.args in
    refused a.run a.order.now 43 (charted_many a.run (passed (goal.at.returns-then-run-gt-MOST_TURNS c).In-Some) (many a.run (passed (goal.at.returns-then-run-gt-MOST_TURNS c).In-Some) c.if-run-gt-MOST_TURNS.true)) c.put_refused-then-run-gt-MOST_TURNS.ensures

pub put_turns-requires : goal.put_turns-requires
put_turns-requires c = record { run_value = passed (goal.at.put_turns-requires c).In-Some; parents = (λ h. test_parents _ _ c.in-Some.ensures (has_workers _ (passed (goal.at.put_turns-requires c).In-Some) h)); turns_le_most_turns = λ x. c.if-run-gt-MOST_TURNS.false }

pub returns : goal.returns
returns c =
    let a = c.args in
    lined a.run a.order.now (passed (goal.at.returns c).In-Some) (few a.run (passed (goal.at.returns c).In-Some) c.if-run-gt-MOST_TURNS.false) c.put_line-at.ensures c.put_turns.ensures
