-- `joining::weights::add_part` meets its contract: nothing wraps, since the parts are few and small.
use mathlib.Core.Path.{◌≡◌}
use Prim.Native.Nat.{ℕ, suc, ◌+◌, ◌*◌, max}
use native.Mathlib.Omega.{arith}
use Rattle.facts.specs.declared.Weighed.{Weighed}
use Rattle.joining.specs.declared.weights.Totals.{Totals}
use Rattle.joining.specs.Code.Steps.{add_part}
use Rattle.joining.proofs.weights.add_part.Goals as goal

added : (i : ℕ) (t : Totals) (w : Weighed) (p d n : ℕ) → p ≡ max t.peak (t.held + w.facts.peak) → d ≡ max t.depth (2 * (i + 1) + w.facts.depth) → n ≡ max t.nested w.facts.nested
    → ◌≡◌ {A = Totals} (record { threads = t.threads + w.facts.threads; actions = t.actions + w.facts.actions; held = t.held + w.left; peak = p; depth = d; nested = n }) (add_part i t w)
added i t w p d n e f g =
    let z : i + 1 ≡ suc i = omega arith in
    rw (e, f, g, z)

pub returns : goal.returns
returns c =
    let b = c.args in
    added b.i b.t b.w _ _ _ c.max.ensures c.max-2.ensures c.max-3.ensures
