-- `soundness::numbers::number_thread` meets its contract: one walk from the thread's first action to its next one, and one from there to its end.
use mathlib.Core.Path.{◌≡◌}
use Prim.Native.Nat.{ℕ, ◌+◌, ◌-◌, ◌≤◌, ◌<◌}
use mathlib.Core.List.{List}
use native.Mathlib.Omega.{arith}
use lib.ListN.{get_or, set}
use Rattle.table.specs.Format.{table_of}
use Rattle.table.specs.Checks.{owner, end_of}
use Rattle.order.proofs.Lawful.{Lawful}
use Rattle.soundness.specs.Code.Checks.{Accepted, Placed}
use Rattle.soundness.specs.Code.Order.{NumbersTo, Numbering}
use Rattle.soundness.proofs.Lookups.{Body, accepted_lawful, thread_below, accepted_body, placed}
use Rattle.soundness.proofs.Marks.{numbers_owner, numbers_small, numbers_stored, numbering_first, numbering_numbered, numbering_next}
use Rattle.soundness.proofs.numbers.number_thread.Goals.{Start}
use Rattle.soundness.proofs.numbers.number_thread.Goals as goal

-- where the thread's body and its next action lie, and how its walk begins
record Ready (s : List ℕ) (n t first : ℕ) (next numbers : List ℕ) : Type 0 where
  body : Body (table_of s) t
  begins : first ≡ (table_of s).first t
  low : first ≤ get_or next t 0
  high : get_or next t 0 ≤ end_of (table_of s) t
  small : get_or numbers t 0 < 8192
  numbered : NumbersTo (table_of s) t first (get_or numbers t 0) numbers numbers

module _ (s : List ℕ) (n t first : ℕ) (next numbers : List ℕ)
    (p : Accepted s n × (Placed s n next × ((t < n) × Numbering (table_of s) next t first numbers))) where
  lawful : Lawful (table_of s)
  lawful = accepted_lawful p.0

  below : t < (table_of s).threads
  below = thread_below p.0 p.1.1.0

  ready : Ready s n t first next numbers
  ready =
      let e : first ≡ (table_of s).first t = numbering_first (table_of s) lawful next numbers t first p.1.1.1 below in
      let numbered : NumbersTo (table_of s) t first (get_or numbers t 0) numbers numbers = numbering_numbered (table_of s) lawful next numbers t first p.1.1.1 below in
      let (low, high) = placed p.0 p.1.1.0 next p.1.0 in
      record {
        body = accepted_body p.0 p.1.1.0;
        begins = e;
        low = omega (arith, low);
        high = high;
        small = numbers_small (table_of s) lawful t first _ numbers numbers numbered;
        numbered = numbered;
      }

  -- a walk's own thread is t
  own : {a number : ℕ} {before after : List ℕ} → NumbersTo (table_of s) t a number before after → owner (table_of s) a ≡ t
  own w = numbers_owner (table_of s) lawful t _ _ _ _ w

  first_walk : ((first ≤ get_or next t 0) × (get_or next t 0 ≤ end_of (table_of s) (owner (table_of s) first)))
      × NumbersTo (table_of s) (owner (table_of s) first) first (get_or numbers t 0) numbers numbers
  first_walk = rw (own ready.numbered) ((ready.low, ready.high), ready.numbered)

  module _ (number : ℕ) (middle : List ℕ) (given : NumbersTo (table_of s) (owner (table_of s) first) (get_or next t 0) number numbers middle) where
    at_next : NumbersTo (table_of s) t (get_or next t 0) number numbers middle
    at_next = rw (own ready.numbered) at given

    fits : number < 8192
    fits = numbers_small (table_of s) lawful t _ number numbers middle at_next

    module _ (count : ℕ) (e : count ≡ (table_of s).count t) where
      second_walk : ((get_or next t 0 ≤ first + count - 1) × (first + count - 1 ≤ end_of (table_of s) (owner (table_of s) (get_or next t 0))))
          × NumbersTo (table_of s) (owner (table_of s) (get_or next t 0)) (get_or next t 0) number (set middle t number) (set middle t number)
      second_walk =
          let r = ready in
          rw (own at_next) ((omega (arith, r), omega (arith, r)), numbers_stored (table_of s) lawful t _ number numbers middle at_next)

      done : (other : ℕ) (after : List ℕ) → NumbersTo (table_of s) (owner (table_of s) (get_or next t 0)) (first + count - 1) other (set middle t number) after
          → Numbering (table_of s) next (t + 1) (first + count) after
      done other after w =
          let v : NumbersTo (table_of s) t (first + count - 1) other (set middle t number) after = rw (own at_next) at w in
          numbering_next (table_of s) lawful next numbers t first p.1.1.1 below number other (first + count) middle after at_next v (rw e)

at_start : (c : Start) → Ready c.args.table.now c.args.n c.args.t c.args.first c.args.next.now c.args.numbers.now
at_start c = ready c.args.table.now _ _ _ c.args.next.now c.args.numbers.now (c.requires.accepted, (c.requires.placed, (c.requires.t_lt_n, c.requires.numbering)))

pub overflow_add-stop : goal.overflow_add-stop
overflow_add-stop c = omega (arith, at_start (goal.at.overflow_add-stop c).Start, c.count.ensures.value)

pub offset_bounds-next-t : goal.offset_bounds-next-t
offset_bounds-next-t c = omega (arith, at_start (goal.at.offset_bounds-next-t c).Start)

pub bounds-next-t : goal.bounds-next-t
bounds-next-t c = omega (arith, at_start (goal.at.bounds-next-t c).Start)

pub overflow_cast-at : goal.overflow_cast-at
overflow_cast-at c = omega (arith, at_start (goal.at.overflow_cast-at c).Start)

pub offset_bounds-numbers-t : goal.offset_bounds-numbers-t
offset_bounds-numbers-t c = omega (arith, at_start (goal.at.offset_bounds-numbers-t c).Start)

pub bounds-numbers-t : goal.bounds-numbers-t
bounds-numbers-t c = omega (arith, at_start (goal.at.bounds-numbers-t c).Start)

pub overflow_cast-start : goal.overflow_cast-start
overflow_cast-start c = omega (arith, at_start (goal.at.overflow_cast-start c).Start)

pub advance-number-requires : goal.advance-number-requires
advance-number-requires c =
    let both = first_walk c.args.table.now _ _ _ c.args.next.now c.args.numbers.now (c.requires.accepted, (c.requires.placed, (c.requires.t_lt_n, c.requires.numbering))) in
    record { accepted = c.requires.accepted; from_le_to = both.0; numbers_to = both.1 }

pub overflow_cast-numbers : goal.overflow_cast-numbers
overflow_cast-numbers c =
    omega (arith, fits c.args.table.now _ _ _ c.args.next.now c.args.numbers.now (c.requires.accepted, (c.requires.placed, (c.requires.t_lt_n, c.requires.numbering))) _ _ c.advance-number.ensures)

pub offset_bounds-numbers-t-2 : goal.offset_bounds-numbers-t-2
offset_bounds-numbers-t-2 c = omega (arith, at_start (goal.at.offset_bounds-numbers-t-2 c).Start)

pub bounds-numbers-t-2 : goal.bounds-numbers-t-2
bounds-numbers-t-2 c = omega (arith, at_start (goal.at.bounds-numbers-t-2 c).Start)

pub overflow_sub-stop : goal.overflow_sub-stop
overflow_sub-stop c = omega (arith, at_start (goal.at.overflow_sub-stop c).Start, c.count.ensures.value)

pub advance-requires : goal.advance-requires
advance-requires c =
    let both = second_walk c.args.table.now _ _ _ c.args.next.now c.args.numbers.now (c.requires.accepted, (c.requires.placed, (c.requires.t_lt_n, c.requires.numbering))) _ _ c.advance-number.ensures _
    c.count.ensures.value in
    record { accepted = c.requires.accepted; from_le_to = both.0; numbers_to = both.1 }

pub returns : goal.returns
returns c =
    done c.args.table.now _ _ _ c.args.next.now c.args.numbers.now (c.requires.accepted, (c.requires.placed, (c.requires.t_lt_n, c.requires.numbering))) _ _ c.advance-number.ensures _
    c.count.ensures.value
    _ _ c.advance.ensures
