-- `listing::list_turns` meets its contract: check 32, and on a record that passes it the turns as they are put.
use mathlib.Core.Path.{◌≡◌}
use Prim.Native.Nat.{ℕ, ◌+◌, ◌*◌}
use mathlib.Core.List.{List, [], ◌∷◌}
use mathlib.Core.Bool.{true, false}
use native.Mathlib.Omega.{arith}
use borrow.Author.Rules.{rules}
use lib.ListN.{length}
use Rattle.table.specs.Pass.{refusal}
use Rattle.text.specs.Text.{refused_line}
use Rattle.schedule.specs.declared.Run.{Run}
use Rattle.schedule.specs.Turn.{unsound}
use Rattle.schedule.specs.Listing.{list_turns}
use Rattle.lines.specs.Lines.{last_texts, lines_then, texts_of}
use Rattle.text.specs.Puts.{Puts}
use Rattle.text.proofs.Putting.{puts_within}
use Rattle.soundness.proofs.Passed.{test_fails, test_passes, test_parents, has_workers}
use Rattle.listing.specs.Sheets.{turns_texts}
use Rattle.listing.proofs.list_turns.Goals.{In-Some}
use Rattle.listing.proofs.list_turns.Goals as goal

module _ (run : Run) (order : List ℕ) {out o : List ℕ} {at r : ℕ} where
  not_sound : unsound run ≡ true → Puts out at o r (refused_line (refusal 32 0) ∷ []) 64 → Puts out at o r (texts_of (list_turns run order)) (64 * (length order + 1))
  unfolding list_turns lines_then last_texts
  not_sound u p = rw u (puts_within (omega arith) p)

  tested : unsound run ≡ false → Puts out at o r (turns_texts false run order) (64 * (length order + 1)) → Puts out at o r (texts_of (list_turns run order)) (64 * (length order + 1))
  unfolding list_turns turns_texts
  tested u p = rw u p

-- the record passed the test
passed : (c : In-Some) → unsound c.args.run ≡ false
passed c = test_passes _ _ c.in-Some.ensures

pub returns-in_default : goal.returns-in_default
returns-in_default c =
    not_sound c.args.run c.args.order.now (test_fails _ c.in_default.ensures) c.put_refused.ensures

pub put_turns-requires : goal.put_turns-requires
put_turns-requires c = record { run_value = passed (goal.at.put_turns-requires c).In-Some; parents = (λ h. test_parents _ _ c.in-Some.ensures (has_workers _ (passed (goal.at.put_turns-requires c).In-Some) h)); turns_le_most_turns = λ x. absurd (let z : ◌≡◌ {A = ℕ} 0 1 = cc in omega arith) }

pub returns : goal.returns
returns c =
    tested c.args.run c.args.order.now (passed (goal.at.returns c).In-Some) c.put_turns.ensures
