-- `deque_listing::put_text` meets its contract: an order has at most 2,048 turns, so that a line for each, one before and one after them are as many as promised.
use mathlib.Core.Path.{◌≡◌}
use Prim.Native.Nat.{ℕ, ◌+◌, ◌-◌, ◌*◌, ◌/◌, ◌≤◌}
use mathlib.Core.List.{List}
use mathlib.Core.Bool.{true, false}
use native.Mathlib.Omega.{arith}
use borrow.Author.Rules.{rules}
use lib.ListN.{length, take, drop, length-take}
use Rattle.table.proofs.Parts.{rest_part}
use Rattle.text.specs.Puts.{Puts}
use Rattle.text.proofs.Putting.{puts_within}
use Rattle.listing.specs.Listing.{workers_in, quota_in, order_length, order_in, table_after, input_wrong, wrong_input}
use Rattle.listing.proofs.Inputs.{right}
use Rattle.deques.specs.DequeTurn.{deque_turned}
use Rattle.deque_listing.specs.DequeListing.{deque_listed_by, input_texts}
use Rattle.deque_listing.proofs.put_text.Goals as goal

few : (s : List ℕ) → input_wrong s ≡ false → length (order_in s) ≤ 4096
few s h = omega (arith, (right s h).0, length-take (order_length s) (drop 6 s))

module _ (s : List ℕ) {out o : List ℕ} {r : ℕ} where
  wrong : input_wrong s ≡ true → Puts out 0 o r wrong_input 64 → Puts out 0 o r (input_texts s) 131200
  unfolding input_texts
  wrong h p = rw h (puts_within (omega arith) p)

  lists : {n p K : ℕ} → input_wrong s ≡ false → n ≡ order_length s → p ≡ workers_in s → K ≡ quota_in s
      → Puts out 0 o r (deque_listed_by deque_turned (take (length s - (6 + n)) (drop (6 + n) s)) p K (take (6 + n - 6) (drop 6 s))) (64 * (length (take (6 + n - 6) (drop 6 s)) / 2 + 2))
      → Puts out 0 o r (input_texts s) 131200
  unfolding input_texts
  lists h en ep eK u =
      let whole : 6 + order_length s - 6 ≡ order_length s = omega arith in
      let v : Puts out 0 o r (deque_listed_by deque_turned (table_after s) (workers_in s) (quota_in s) (order_in s)) (64 * (length (order_in s) / 2 + 2)) =
      rw (rest_part s (6 + order_length s), whole) at (rw (en, ep, eK) at u) in
      rw h (puts_within (omega (arith, few s h)) v)

pub returns-then-input_wrong : goal.returns-then-input_wrong
returns-then-input_wrong c =
    let a = c.args in
    wrong a.input.now (rw c.input_wrong.ensures at c.if-input_wrong.true) c.put_wrong.ensures

pub slice_bounds-table-count : goal.slice_bounds-table-count
slice_bounds-table-count c = let sizes = right c.args.input.now (rw c.input_wrong.ensures at c.if-input_wrong.false) in omega (arith, c.word-end.ensures.value)

pub slice_bounds-table-start : goal.slice_bounds-table-start
slice_bounds-table-start c = let sizes = right c.args.input.now (rw c.input_wrong.ensures at c.if-input_wrong.false) in omega (arith, c.word-end.ensures.value)

pub slice_bounds-order-end : goal.slice_bounds-order-end
slice_bounds-order-end c = let sizes = right c.args.input.now (rw c.input_wrong.ensures at c.if-input_wrong.false) in omega (arith, c.word-end.ensures.value)

pub returns : goal.returns
returns c =
    let a = c.args in
    lists a.input.now (rw c.input_wrong.ensures at c.if-input_wrong.false) c.word-end.ensures.value c.byte-p.ensures c.three_bytes-quota.ensures c.put_listing.ensures
