-- `pace::most` meets its contract: the greatest so far and of the numbers left is the greatest of all.
use mathlib.Core.Path.{◌≡◌, ◌∙◌}
use Prim.Native.Nat.{◌+◌, ◌*◌, ◌-◌, ◌≤◌, max}
use native.Mathlib.Omega.{arith}
use Rattle.pace.specs.Pace.{most_from}
use Rattle.pace.proofs.Steps.{most_step, most_end}
use Rattle.pace.proofs.most.Given as goal

abbrev pub invariant-loop-x : goal.invariant-loop-x
invariant-loop-x l =
    (l.x ≤ 16) × (max l.greatest (most_from (16 - l.x) (16 * l.w + l.x) l.pace) ≡ most_from 16 (16 * l.w) l.pace)
