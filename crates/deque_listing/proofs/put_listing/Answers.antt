-- `deque_listing::put_listing` meets its contract: the beginning's refusal, or the header and the turns.
use Rattle.std.specs.Prelude.{Ok}
use mathlib.Core.Path.{◌≡◌, refl, sym, ◌∙◌}
use Prim.Native.Nat.{ℕ, ◌≤◌}
use mathlib.Core.List.{List}
use native.Mathlib.Omega.{arith}
use borrow.Author.Rules.{rules}
use lib.ListN.{length}
use lib.Seq.{length-take-le}
use Rattle.table.specs.Format.{threads_of, actions_of}
use Rattle.table.proofs.Sizes.{Sizes, sizes}
use Rattle.schedule.specs.Record.{bytes_of}
use Rattle.text.proofs.Putting.{puts_more, puts_within}
use Rattle.deques.specs.declared.DequeBegun.{DequeBegun}
use Rattle.deques.specs.DequeBegin.{deque_begin}
use Rattle.deques.specs.DequeSound.{SteadyDeques, SoundDeques}
use Rattle.deques.specs.DequeTurn.{unsound_deques, deque_turned}
use Rattle.deques.proofs.DequeTests.{deque_sound_exactly}
use Rattle.deques.proofs.DequeHistories.{deque_begin_sound}
use Rattle.deque_listing.specs.DequeListing.{order_by, list_pairs, deque_listed_by}
use Rattle.deque_listing.proofs.put_listing.Goals as goal

-- an accepted beginning's record is sound
begun_sound : (s : List ℕ) (p K : ℕ) {x : DequeBegun} → x ≡ deque_begin s p K → x.answer ≡ Ok tt → SoundDeques x.run
begun_sound s p K {x} e a = deque_begin_sound s p K x.run (sym e ∙ (λ i. record { answer = a i; run = x.run }))

-- and its turns are listed as they are
begun_listed : (s : List ℕ) (p K : ℕ) (order : List ℕ) {x : DequeBegun} → x ≡ deque_begin s p K → x.answer ≡ Ok tt → list_pairs x.run order ≡ order_by deque_turned x.run order
unfolding list_pairs unsound_deques
begun_listed s p K order {x} e a = rw ((deque_sound_exactly x.run).1 (begun_sound s p K e a))

-- its table is within the record
begun_small : (s : List ℕ) (p K : ℕ) {x : DequeBegun} → x ≡ deque_begin s p K → x.answer ≡ Ok tt → x.run.run.length ≤ 36868
begun_small s p K {x} e a =
    let d : SteadyDeques x.run = (begun_sound s p K e a).steady in
    let b : List ℕ = bytes_of x.run.run in
    let z : Sizes b (threads_of b) (actions_of b) = sizes (record { head = d.table.head; threads = refl; actions = refl }) in
    omega (arith, z, d.table_length)

pub returns-in-Err : goal.returns-in-Err
unfolding deque_listed_by
returns-in-Err c =
    rw (← c.deque_begin-begun.ensures.value, c.in-Err.is) (puts_within (omega arith) c.put_answer.ensures)

pub slice_bounds-bytes-end : goal.slice_bounds-bytes-end
slice_bounds-bytes-end c =
    let size : length c.deque_begin-begun.result.run.run.table ≡ 36868 = search rules in
    omega (arith, begun_small _ _ _ c.deque_begin-begun.ensures.value c.in_default.is)

pub slice_bounds-put_header-end : goal.slice_bounds-put_header-end
slice_bounds-put_header-end c =
    let size : length c.deque_begin-begun.result.run.run.table ≡ 36868 = search rules in
    sym (length-take-le _ _ (omega (arith, begun_small _ _ _ c.deque_begin-begun.ensures.value c.in_default.is)))

pub returns : goal.returns
unfolding deque_listed_by
returns c =
    let turns = rw (begun_listed _ _ _ _ c.deque_begin-begun.ensures.value c.in_default.is) at c.list_pairs.ensures in
    rw (← c.deque_begin-begun.ensures.value, c.in_default.is) (puts_within (omega arith) (puts_more c.put_header-at.ensures turns))
