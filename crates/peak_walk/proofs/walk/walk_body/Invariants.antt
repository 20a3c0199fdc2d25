-- `peak_walk::walk::walk_body` meets its contract. The invariant: what is reached is the walk over the actions before i.
use Rattle.std.proofs.Common.{◌≡◌, ℕ, ◌+◌, ◌-◌, ◌≤◌, Bool, List, length, refl, ap, ◌∙◌, add-one, arith, rules}
use Rattle.table.specs.Format.{kind_of, code_at, argument_at, bodies_from}
use Rattle.peak_walk.specs.Code.Walk.{Walked, walk, stepped, may_after, walked}
use Rattle.peak_walk.proofs.Steps.{walked_depth, walked_length}
use Rattle.peak_walk.proofs.walk.walk_body.Given as goal

abbrev pub invariant-loop-i : goal.invariant-loop-i
invariant-loop-i l =
    (l.i ≤ l.count) × (walk l.w.balance l.w.best l.w.depth l.rows ≡ walked (code_at (bodies_from l.table l.n)) (argument_at (bodies_from l.table l.n)) l.resting l.peaks l.finals l.r l.first l.initial.rows l.i)
