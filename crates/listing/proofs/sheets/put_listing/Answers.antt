-- `listing::sheets::put_listing` meets its contract: the beginning's refusal, or the header and the turns.
use Rattle.std.specs.Prelude.{Ok}
use mathlib.Core.Path.{◌≡◌, refl, sym, ◌∙◌}
use Prim.Native.Nat.{ℕ, ◌≤◌}
use mathlib.Core.List.{List}
use native.Mathlib.Omega.{arith}
use borrow.Author.Rules.{rules}
use lib.ListN.{length}
use lib.Seq.{length-take-le}
use Rattle.table.specs.Format.{threads_of, actions_of}
use Rattle.table.proofs.Sizes.{Sizes, sizes}
use Rattle.schedule.specs.declared.Begun.{Begun}
use Rattle.schedule.specs.Record.{bytes_of}
use Rattle.schedule.specs.Begin.{begin}
use Rattle.schedule.specs.Sound.{Steady}
use Rattle.schedule.specs.Turn.{unsound, root_ended, turned}
use Rattle.schedule.specs.Listing.{turns_by, list_turns}
use Rattle.schedule.proofs.Sound.Tests.{sound_exactly}
use Rattle.schedule.proofs.Runs.Histories.{begin_sound}
use Rattle.listing.specs.Listing.{listed_by}
use Rattle.text.proofs.Putting.{puts_more, puts_within}
use Rattle.listing.proofs.sheets.put_listing.Goals as goal

-- an accepted beginning's record is sound, and its turns are listed as they are
begun_listed : (s : List ℕ) (p K : ℕ) (order : List ℕ) {x : Begun} → x ≡ begin s p K → x.answer ≡ Ok tt
    → list_turns x.run order ≡ turns_by root_ended turned x.run order
unfolding list_turns unsound
begun_listed s p K order {x} e a =
    let h : begin s p K ≡ record { answer = Ok tt; run = x.run } = sym e ∙ (λ i. record { answer = a i; run = x.run }) in
    rw ((sound_exactly x.run).1 (begin_sound s p K x.run h))

-- and its table is within the record
begun_small : (s : List ℕ) (p K : ℕ) {x : Begun} → x ≡ begin s p K → x.answer ≡ Ok tt → x.run.length ≤ 36868
begun_small s p K {x} e a =
    let h : begin s p K ≡ record { answer = Ok tt; run = x.run } = sym e ∙ (λ i. record { answer = a i; run = x.run }) in
    let d : Steady x.run = (begin_sound s p K x.run h).steady in
    let b : List ℕ = bytes_of x.run in
    let z : Sizes b (threads_of b) (actions_of b) = sizes (record { head = d.table.head; threads = refl; actions = refl }) in
    omega (arith, z, d.table_length)

pub returns-in-Err : goal.returns-in-Err
unfolding listed_by
returns-in-Err c =
    rw (← c.begin-begun.ensures.value, c.in-Err.is) (puts_within (omega arith) c.put_answer.ensures)

pub slice_bounds-bytes-end : goal.slice_bounds-bytes-end
slice_bounds-bytes-end c =
    let size : length c.begin-begun.result.run.table ≡ 36868 = search rules in
    omega (arith, begun_small _ _ _ c.begin-begun.ensures.value c.in_default.is)

pub slice_bounds-put_header-end : goal.slice_bounds-put_header-end
slice_bounds-put_header-end c =
    let size : length c.begin-begun.result.run.table ≡ 36868 = search rules in
    sym (length-take-le _ _ (omega (arith, begun_small _ _ _ c.begin-begun.ensures.value c.in_default.is)))

pub returns : goal.returns
unfolding listed_by
returns c =
    let begins = c.in_default.is in
    let turns = rw (begun_listed _ _ _ _ c.begin-begun.ensures.value begins) at c.list_turns.ensures in
    rw (← c.begin-begun.ensures.value, begins) (puts_within (omega arith) (puts_more c.put_header-at.ensures turns))
