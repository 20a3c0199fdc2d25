-- `pace::renew` meets its contract: what is renewed and then the rest is the whole.
use mathlib.Core.Path.{◌≡◌, sym, ◌∙◌}
use Prim.Native.Nat.{◌+◌, ◌*◌, ◌-◌, ◌≤◌}
use native.Mathlib.Omega.{arith}
use Rattle.pace.specs.Pace.{renewed}
use Rattle.pace.proofs.Steps.{renew_step, renew_end}
use Rattle.pace.proofs.renew.Given as goal

abbrev pub invariant-loop-v : goal.invariant-loop-v
invariant-loop-v l = (l.v ≤ 16) × (renewed (16 - l.v) (16 * l.v + l.w) l.pace ≡ renewed 16 l.w l.initial.pace)
