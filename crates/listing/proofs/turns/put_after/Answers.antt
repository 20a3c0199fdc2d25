-- `listing::turns::put_after` meets its contract: the record's line of a chart, or the turn's line of a listing.
use mathlib.Core.Path.{◌≡◌, ap, ◌∙◌}
use Prim.Native.Nat.{ℕ}
use native.Mathlib.Omega.{arith}
use mathlib.Core.List.{List}
use mathlib.Core.Bool.{Bool, true, false}
use borrow.Author.Rules.{rules}
use Rattle.text.specs.Text.{buffer_at}
use Rattle.table.specs.Format.{table_of}
use Rattle.schedule.specs.Listing.{Line}
use Rattle.lines.specs.Lines.{turn_texts}
use Rattle.text.specs.Puts.{put_all, Puts}
use Rattle.chart.specs.Chart.{Figures, figures_of, line_texts}
use Rattle.run_memory.specs.Blocks.{words_in, sums_in, memory_of}
use Rattle.listing.specs.Sheets.{line_in, figures_in, after_texts, after_size}
use Rattle.listing.proofs.turns.put_after.Goals.{Start}
use Rattle.listing.proofs.turns.put_after.Goals as goal

module _ {chart : Bool} (x : Figures) (l : Line) {s o : List ℕ} {at r : ℕ} where
  of_chart : {y : Figures} → y ≡ x → chart ≡ true → buffer_at o r ≡ put_all (buffer_at s at) (line_texts y) → Puts s at o r (after_texts chart x l) (after_size chart x)
  of_chart d e p = rw e (record { put = p ∙ ap (λ (z : Figures). put_all (buffer_at s at) (line_texts z)) d; short = omega arith })

  of_listing : chart ≡ false → Puts s at o r (turn_texts l) 64 → Puts s at o r (after_texts chart x l) (after_size chart x)
  of_listing e p = rw e p

abbrev drawn : Start → Figures
drawn s = figures_in s.args.p (memory_of s.args.bytes.now s.args.words.now s.args.numbers.now s.args.sums.now)

abbrev told : Start → Line
told s = line_in (table_of s.args.table.now) s.args.w s.args.reply (words_in s.args.words.now) (sums_in s.args.sums.now)

pub returns-then-chart : goal.returns-then-chart
returns-then-chart c =
    of_chart (drawn (goal.at.returns-then-chart c).Start) (told (goal.at.returns-then-chart c).Start) (λ i. figures_of (c.total_at.ensures i) c.args.p (c.workers_out-workers.ensures i) (c.total_at-held.ensures i)) c.if-chart.true c.put_line.ensures

pub returns : goal.returns
returns c =
    of_listing (drawn (goal.at.returns c).Start) (told (goal.at.returns c).Start) c.if-chart.false c.put_step.ensures
