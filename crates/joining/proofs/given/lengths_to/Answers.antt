use mathlib.Core.Path.{◌≡◌, refl, ◌∙◌}
use Prim.Native.Nat.{ℕ, ◌+◌, ◌≤◌, ◌<◌}
use mathlib.Core.List.{List}
use native.Mathlib.Omega.{arith}
use native.Mathlib.Numerals.{add-one}
use lib.ListN.{length, take, set, length-set}
use lib.Seq.{take-suc-set}
use Rattle.joining.specs.Given.{length_in, lengths_to}
use Rattle.joining.proofs.given.lengths_to.Invariants.{Inv}
use Rattle.joining.proofs.given.lengths_to.Goals as goal

start : (input : List ℕ) (k : ℕ) (lengths : List ℕ) → length lengths ≡ 16 → Inv input k lengths 0
unfolding lengths_to
start input k lengths n = record { long = n; within = omega arith; read = refl }

again : (input : List ℕ) (k : ℕ) (lengths : List ℕ) (i x : ℕ) → Inv input k lengths i → i < k → k ≤ 16 → x ≡ length_in input i → Inv input k (set lengths i x) (i + 1)
unfolding lengths_to
again input k lengths i x v h few e =
    record {
      long = length-set lengths i x ∙ v.long;
      within = omega arith;
      read = rw add-one (take-suc-set lengths i x (omega (arith, v.long)) ∙ rw (v.read, e));
    }

ends : (input : List ℕ) (k : ℕ) (lengths : List ℕ) (i : ℕ) → Inv input k lengths i → k ≤ i → take k lengths ≡ lengths_to input k
ends input k lengths i v h = let z : k ≡ i = omega (arith, v.within) in rw z v.read

pub loop-i-init : goal.loop-i-init
loop-i-init c = start _ _ _ refl

pub loop-i-preserved : goal.loop-i-preserved
loop-i-preserved c =
    again c.args.input.now c.args.k c.loop-i.lengths c.loop-i.i c.length_in.result c.loop-i.invariant c.loop-i-test.true c.requires c.length_in.ensures

pub returns : goal.returns
returns c = record { result_len = c.loop-i.invariant.long; result_value = ends c.args.input.now c.args.k c.loop-i.lengths c.loop-i.i c.loop-i.invariant c.loop-i-test.false }
