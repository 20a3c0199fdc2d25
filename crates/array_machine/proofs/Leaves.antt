-- What the functions of an action share: numbers that fit, and codes that are no action's.
use mathlib.Core.Path.{◌≡◌, sym, ◌∙◌}
use Prim.Native.Nat.{ℕ, suc, ◌+◌, ◌-◌, ◌^◌, ◌≤◌, ◌<◌}
use mathlib.Core.Bool.{Bool, true, ◌&&◌}
use native.Mathlib.Omega.{arith}
use mir.Syntax.{w16, w64}
use mir.Val.{Fits}
use borrow.Author.Tests.{ltb-true}
use Rattle.table.specs.Format.{kind_of}
use Rattle.table.specs.declared.kinds.Kind.TheVariants.{Unknown as unknown}
use Rattle.table.proofs.Tests.{and_both}
use Rattle.array_machine.specs.Turn.{next_fits}

pub fits16 : {x : ℕ} → x < 65536 → Fits w16 x
fits16 h = omega (arith, h)

pub fits64 : {x : ℕ} → x < 2 ^ 64 → Fits w64 x
fits64 h = omega (arith, h)

-- a code that is none of the six
pub code_unknown : (k : ℕ) → 6 ≤ k → kind_of k ≡ unknown
unfolding kind_of
code_unknown k h =
    let e : k ≡ suc (suc (suc (suc (suc (suc (k - 6)))))) = omega arith in
    rw e

-- the test passed: the number after the action's has 16 bits, and the rest of the test holds
pub fits_next : {f : Bool} (a : ℕ) → f ≡ true → f ≡ next_fits a → a + 1 < 65536
fits_next a e h = ltb-true (a + 1) 65536 (sym h ∙ e)

pub fits_and : {f : Bool} (a : ℕ) (b : Bool) → f ≡ true → f ≡ (next_fits a && b) → (a + 1 < 65536) × (b ≡ true)
fits_and a b e h =
    let p : (next_fits a ≡ true) × (b ≡ true) = and_both (next_fits a) b (sym h ∙ e) in
    (ltb-true (a + 1) 65536 p.0, p.1)
