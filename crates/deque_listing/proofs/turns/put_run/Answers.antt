-- `deque_listing::turns::put_run` meets its contract: packed, the record stands in the blocks.
use mathlib.Core.Path.{◌≡◌, sym, subst}
use Prim.Native.Nat.{ℕ, ◌/◌}
use mathlib.Core.List.{List}
use native.Mathlib.Omega.{arith}
use borrow.Author.Rules.{rules}
use lib.ListN.{length}
use lib.Seq.{length-take-le}
use Rattle.schedule.specs.Record.{bytes_of}
use Rattle.text.specs.Puts.{Puts}
use Rattle.run_memory.specs.Memory.{Memory}
use Rattle.deques.specs.declared.DequeRun.{DequeRun}
use Rattle.deques.specs.DequeSound.{SteadyDeques}
use Rattle.stealing.specs.StealingMemory.{deque_run_in}
use Rattle.dfdeques.specs.DequePacking.{deque_memory}
use Rattle.dfdeques.proofs.DequePacked.{deque_room, deque_packed, deque_stands}
use Rattle.deque_listing.specs.DequeListing.{rest_texts}
use Rattle.deque_listing.proofs.turns.put_run.Goals as goal

-- from the record itself
puts : (run : DequeRun) (order : List ℕ) {out o : List ℕ} {at r size : ℕ} → SteadyDeques run → (parents : List ℕ) {M : Memory} → M ≡ deque_memory run parents
    → Puts out at o r (rest_texts order (length order / 2) 0 (deque_run_in (bytes_of run.run) M)) size → Puts out at o r (rest_texts order (length order / 2) 0 run) size
puts run order {out} {o} {at} {r} {size} h parents e p = subst (λ (y : DequeRun). Puts out at o r (rest_texts order (length order / 2) 0 y) size) (deque_packed h parents e) p

pub slice_bounds-table-end : goal.slice_bounds-table-end
slice_bounds-table-end c = deque_room c.requires.sound_deques.steady

pub slice_bounds-table-end-2 : goal.slice_bounds-table-end-2
slice_bounds-table-end-2 c =
    sym (length-take-le c.args.run.run.length c.args.run.run.table (deque_room c.requires.sound_deques.steady))

pub put_each-requires : goal.put_each-requires
put_each-requires c =
    deque_stands c.requires.sound_deques.steady c.args.parents.now c.pack_deques.ensures c.requires.parents (omega (arith, c.requires.sound_deques.turns))

pub returns : goal.returns
returns c =
    puts c.args.run c.args.order.now c.requires.sound_deques.steady c.args.parents.now c.pack_deques.ensures c.put_each.ensures
