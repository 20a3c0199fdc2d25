-- `peak_walk::rows::push_row` meets its contract. The invariant: the numbers before j are written.
use Rattle.std.proofs.Common.{◌≡◌, ℕ, suc, ◌+◌, ◌-◌, ◌*◌, ◌≤◌, List, length, set, refl, ap, ◌∙◌, add-one, arith, rules}
use Rattle.peak_walk.proofs.OpenRows.{pushed_length}
use Rattle.peak_walk.specs.Code.Walk.{Small, row_value, pushed}
use Rattle.peak_walk.proofs.row.push_row.Given as goal

abbrev pub invariant-loop-j : goal.invariant-loop-j
invariant-loop-j l = (l.j ≤ suc l.r) × Small l.r l.c l.d × (l.rows ≡ pushed l.peaks l.finals l.r l.c l.d l.initial.rows l.j)
