-- `pace::count` meets its contract: what is counted and then the rest is the whole.
use mathlib.Core.Path.{◌≡◌, sym, ◌∙◌}
use Prim.Native.Nat.{◌+◌, ◌*◌, ◌-◌, ◌≤◌}
use native.Mathlib.Omega.{arith}
use Rattle.pace.specs.Pace.{counted}
use Rattle.pace.proofs.Steps.{count_step, count_end}
use Rattle.pace.proofs.count.Given as goal

abbrev pub invariant-loop-x : goal.invariant-loop-x
invariant-loop-x l = (l.x ≤ 16) × (counted (16 - l.x) (16 * l.w + l.x) l.pace ≡ counted 16 (16 * l.w) l.initial.pace)
