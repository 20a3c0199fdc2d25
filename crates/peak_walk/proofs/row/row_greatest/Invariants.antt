-- `peak_walk::rows::row_greatest` meets its contract. The invariant: the greatest of the numbers before j.
use Rattle.std.proofs.Common.{◌≡◌, suc, ◌≤◌, get_or}
use Rattle.table.specs.Sum.{greatest_to}
use Rattle.peak_walk.specs.Code.Walk.{Small, slot}
use Rattle.peak_walk.proofs.row.row_greatest.Given as goal

abbrev pub invariant-loop-j : goal.invariant-loop-j
invariant-loop-j l = (l.j ≤ suc l.r) × Small l.r 0 l.d × (l.best ≡ greatest_to (λ i. get_or l.rows (slot l.d i) 0) l.j)
