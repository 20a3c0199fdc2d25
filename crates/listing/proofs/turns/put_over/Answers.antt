-- `listing::turns::put_over` meets its contract: a chart has no last line.
use mathlib.Core.Path.{◌≡◌}
use Prim.Native.Nat.{ℕ}
use mathlib.Core.List.{List}
use mathlib.Core.Bool.{Bool, true, false}
use borrow.Author.Rules.{rules}
use Rattle.schedule.specs.Listing.{Last, last_with}
use Rattle.lines.specs.Lines.{last_texts}
use Rattle.text.specs.Puts.{Puts}
use Rattle.text.proofs.Putting.{puts_none}
use Rattle.listing.specs.Sheets.{over_texts}
use Rattle.listing.proofs.turns.put_over.Goals.{Start}
use Rattle.listing.proofs.turns.put_over.Goals as goal

module _ {chart : Bool} (x : Last) {s : List ℕ} {at : ℕ} where
  nothing : chart ≡ true → Puts s at s at (over_texts chart x) 64
  nothing e = rw e (puts_none 64)

  last_line : {o : List ℕ} {r : ℕ} → chart ≡ false → Puts s at o r (last_texts x) 64 → Puts s at o r (over_texts chart x) 64
  last_line e p = rw e p

abbrev said : Start → Last
said s = last_with s.args.ended s.args.turns s.args.peak

pub returns-then-chart : goal.returns-then-chart
returns-then-chart c = nothing (said (goal.at.returns-then-chart c).Start) c.if-chart.true

pub returns : goal.returns
returns c =
    last_line (said (goal.at.returns c).Start) c.if-chart.false c.put_last.ensures
