use mathlib.Core.Path.{◌≡◌, refl}
use Prim.Native.Nat.{ℕ, suc, ◌+◌, ◌≤◌, ◌<◌}
use mathlib.Core.List.{List}
use native.Mathlib.Omega.{arith}
use lib.ListN.{length, get_or, take}
use Rattle.joining.specs.Answers.{sum_of}
use Rattle.joining.proofs.Splits.{sum_next}
use Rattle.joining.proofs.split.sum_to.Invariants.{Inv}
use Rattle.joining.proofs.split.sum_to.Goals as goal

start : (ls : List ℕ) (k : ℕ) → Inv ls k 0 0
unfolding sum_of
start ls k = record { within = omega arith; same = refl; small = omega arith }

again : (ls : List ℕ) (k sum i : ℕ) → Inv ls k sum i → i < k → k ≤ length ls → (x : ℕ) → x ≡ get_or ls i 0 → x < 4294967296 → Inv ls k (sum + x) (i + 1)
again ls k sum i v h few x e b =
    let z : i + 1 ≡ suc i = omega arith in
    record { within = omega arith; same = rw z (omega (arith, v.same, e, sum_next ls i (omega arith))); small = omega (arith, v.small) }

ends : (ls : List ℕ) (k sum i : ℕ) → Inv ls k sum i → k ≤ i → sum ≡ sum_of (take k ls)
ends ls k sum i v h = let z : k ≡ i = omega (arith, v.within) in rw z v.same

pub loop-i-init : goal.loop-i-init
loop-i-init c = start _ _

pub loop-i-preserved : goal.loop-i-preserved
loop-i-preserved c =
    again _ _ _ _ c.loop-i.invariant c.loop-i-test.true c.requires.0 c.wide-sum.result c.wide-sum.ensures.value c.wide-sum.ensures.small

pub returns : goal.returns
returns c = ends _ _ _ _ c.loop-i.invariant c.loop-i-test.false
