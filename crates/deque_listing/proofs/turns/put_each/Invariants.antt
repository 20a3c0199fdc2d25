-- `deque_listing::turns::put_each` meets its contract. The invariant: the record stands in the blocks, and whoever puts the texts of the rest of the order puts those of the whole (PairLines).
use mathlib.Core.Path.{◌≡◌, sym, ap, ◌∙◌}
use Prim.Native.Nat.{ℕ, ◌+◌, ◌-◌, ◌*◌, ◌/◌}
use native.Mathlib.Omega.{arith}
use borrow.Author.Rules.{rules}
use lib.Dec.{eqb}
use lib.ListN.{length}
use Rattle.run_memory.specs.Blocks.{memory_of}
use Rattle.dfdeques.proofs.DequeByValue.{told_small}
use Rattle.deque_listing.proofs.PairLines.{Tells, start, finished, spent, stopped, goes_on}
use Rattle.deque_listing.proofs.turns.put_each.Given as goal

abbrev pub invariant-loop-i : goal.invariant-loop-i
invariant-loop-i l =
    Tells l.table l.order l.initial.out l.initial.at (memory_of l.initial.bytes l.initial.words l.initial.numbers l.initial.sums) (memory_of l.bytes l.words l.numbers l.sums) l.out l.at l.i
