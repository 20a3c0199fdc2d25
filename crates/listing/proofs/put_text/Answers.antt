-- `listing::put_text` meets its contract: an order has at most 4,096 workers, so that a line for each, one before and one after them are as many as promised.
use mathlib.Core.Path.{◌≡◌}
use Prim.Native.Nat.{ℕ, ◌+◌, ◌-◌, ◌*◌, ◌≤◌}
use mathlib.Core.List.{List}
use mathlib.Core.Bool.{Bool, true, false}
use native.Mathlib.Omega.{arith}
use borrow.Author.Rules.{rules}
use lib.ListN.{length, take, drop, length-take}
use Rattle.table.proofs.Parts.{rest_part}
use Rattle.schedule.specs.Turn.{turned}
use Rattle.text.specs.Puts.{Puts}
use Rattle.text.proofs.Putting.{puts_within}
use Rattle.chart.specs.Chart.{charted}
use Rattle.listing.specs.Sheets.{widest}
use Rattle.listing.specs.Listing.{workers_in, quota_in, order_length, order_in, table_after, input_wrong, listed_by, wrong_input, walled_by, printed_texts}
use Rattle.listing.proofs.Inputs.{right}
use Rattle.listing.proofs.put_text.Goals as goal

one_line : (chart : Bool) → 64 ≤ widest chart * 4098
one_line true = omega arith
one_line false = omega arith

few : (s : List ℕ) → input_wrong s ≡ false → length (order_in s) ≤ 4096
few s h = omega (arith, (right s h).0, length-take (order_length s) (drop 6 s))

module _ (chart : Bool) (s : List ℕ) {out o : List ℕ} {r : ℕ} where
  wrong : input_wrong s ≡ true → Puts out 0 o r wrong_input 64 → Puts out 0 o r (printed_texts chart s) (widest chart * 4098)
  unfolding printed_texts
  wrong h p = rw h (puts_within (one_line chart) p)

  module _ {n p K : ℕ} (h : input_wrong s ≡ false) (en : n ≡ order_length s) (ep : p ≡ workers_in s) (eK : K ≡ quota_in s) where
    charts : chart ≡ true
        → Puts out 0 o r (walled_by charted turned (take (length s - (6 + n)) (drop (6 + n) s)) p K (take (6 + n - 6) (drop 6 s))) (85 * (length (take (6 + n - 6) (drop 6 s)) + 2))
        → Puts out 0 o r (printed_texts chart s) (widest chart * 4098)
    unfolding printed_texts
    charts c u =
        let whole : 6 + order_length s - 6 ≡ order_length s = omega arith in
        let v : Puts out 0 o r (walled_by charted turned (table_after s) (workers_in s) (quota_in s) (order_in s)) (85 * (length (order_in s) + 2)) =
        rw (rest_part s (6 + order_length s), whole) at (rw (en, ep, eK) at u) in
        rw (h, c) (puts_within (omega (arith, few s h)) v)

    lists : chart ≡ false
        → Puts out 0 o r (listed_by turned (take (length s - (6 + n)) (drop (6 + n) s)) p K (take (6 + n - 6) (drop 6 s))) (64 * (length (take (6 + n - 6) (drop 6 s)) + 2))
        → Puts out 0 o r (printed_texts chart s) (widest chart * 4098)
    unfolding printed_texts
    lists c u =
        let whole : 6 + order_length s - 6 ≡ order_length s = omega arith in
        let v : Puts out 0 o r (listed_by turned (table_after s) (workers_in s) (quota_in s) (order_in s)) (64 * (length (order_in s) + 2)) =
        rw (rest_part s (6 + order_length s), whole) at (rw (en, ep, eK) at u) in
        rw (h, c) (puts_within (omega (arith, few s h)) v)

pub returns-then-input_wrong : goal.returns-then-input_wrong
returns-then-input_wrong c =
    let a = c.args in
    wrong a.chart a.input.now (rw c.input_wrong.ensures at c.if-input_wrong.true) c.put_wrong.ensures

pub slice_bounds-table-count : goal.slice_bounds-table-count
slice_bounds-table-count c = let sizes = right c.args.input.now (rw c.input_wrong.ensures at c.if-input_wrong.false) in omega (arith, c.word-end.ensures.value)

pub slice_bounds-table-start : goal.slice_bounds-table-start
slice_bounds-table-start c = let sizes = right c.args.input.now (rw c.input_wrong.ensures at c.if-input_wrong.false) in omega (arith, c.word-end.ensures.value)

pub slice_bounds-order-end : goal.slice_bounds-order-end
slice_bounds-order-end c = let sizes = right c.args.input.now (rw c.input_wrong.ensures at c.if-input_wrong.false) in omega (arith, c.word-end.ensures.value)

pub returns-then-chart : goal.returns-then-chart
returns-then-chart c =
    let a = c.args in
    charts a.chart a.input.now (rw c.input_wrong.ensures at c.if-input_wrong.false) c.word-end.ensures.value c.byte-p.ensures c.three_bytes-quota.ensures c.if-chart.true c.put_chart.ensures

pub returns : goal.returns
returns c =
    let a = c.args in
    lists a.chart a.input.now (rw c.input_wrong.ensures at c.if-input_wrong.false) c.word-end.ensures.value c.byte-p.ensures c.three_bytes-quota.ensures c.if-chart.false c.put_listing.ensures
