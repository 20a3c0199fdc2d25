-- `dfdeques::packing::pack_deques` meets its contract: over the record's memory the bottoms are written in the places of the second list.
use mathlib.Core.Path.{◌≡◌, ap, ◌∙◌}
use Prim.Native.Nat.{ℕ}
use mathlib.Core.List.{List, [], ◌∷◌}
use lib.ListN.{get_or}
use borrow.Author.Rules.{rules}
use Rattle.schedule.specs.Links.{Links}
use Rattle.array_machine.specs.Arrays.{arrays}
use Rattle.run_memory.specs.Memory.{Memory, memory}
use Rattle.run_memory.specs.Blocks.{Bytes, Words, Numbers, Sums, gathered, bytes_in, words_in, numbers_in, sums_in}
use Rattle.run_memory.specs.Places.{headed, laid_row}
use Rattle.run_memory.specs.Packing.{memory_for}
use Rattle.deques.specs.declared.DequeRun.{DequeRun}
use Rattle.deques.specs.DequeRecord.{bottoms_in}
use Rattle.dfdeques.specs.DequePacking.{deque_memory}
use Rattle.dfdeques.proofs.packing.pack_deques.Goals as goal

-- memory with another second list
abbrev with_second : Links → Memory → Memory
with_second k M =
    memory M.settings M.parents (arrays M.arrays.next M.arrays.status M.arrays.amounts M.arrays.left M.arrays.right k.left k.right) M.holds M.threads M.quotas
    (get_or M.heads 0 0 ∷ k.head ∷ get_or M.heads 2 0 ∷ []) M.totals

bottoms_laid : (r : DequeRun) (parents : List ℕ) (B : Bytes) (N : Numbers) (S : Sums) (W : Words) {W₁ W₂ W₃ : Words} → gathered B W N S ≡ memory_for r.run parents
    → W₁ ≡ laid_row 4 r.under W → W₂ ≡ laid_row 5 r.over W₁ → W₃ ≡ headed 1 r.first W₂ → gathered B W₃ N S ≡ deque_memory r parents
bottoms_laid r parents B N S W e a b c =
    ap (λ (W : Words). gathered B W N S) (c ∙ ap (headed 1 r.first) (b ∙ ap (laid_row 5 r.over) a)) ∙ ap (with_second (bottoms_in r)) e

pub returns : goal.returns
returns c =
    let a = c.args in
    bottoms_laid a.run a.parents.now (bytes_in c.pack.new.bytes) (numbers_in c.pack.new.numbers) (sums_in c.pack.new.sums) (words_in c.pack.new.words)
    c.pack.ensures c.copy_row.ensures c.copy_row-2.ensures c.put_head.ensures
