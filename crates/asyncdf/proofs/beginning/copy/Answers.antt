use mathlib.Core.Path.{◌≡◌, refl, ap, ◌∙◌}
use Prim.Native.Nat.{ℕ, ◌+◌, ◌≤◌, ◌<◌}
use mathlib.Core.List.{List}
use native.Mathlib.Omega.{arith}
use lib.ListN.{length, get_or, set, replicate}
use lib.Seq.{take-length}
use Rattle.order.specs.Words.{filled}
use Rattle.order.specs.Firsts.{firsts}
use Rattle.order.proofs.Lists.{firsts_take}
use Rattle.soundness.proofs.Laying.{laid_more}
use Rattle.asyncdf.proofs.beginning.copy.Invariants.{Inv}
use Rattle.asyncdf.proofs.beginning.copy.Goals as goal

start : {s out : List ℕ} → length s ≤ 36868 → out ≡ replicate 36868 0 → Inv s out 0
unfolding firsts
start h e = record { few = h; within = omega arith; laid = record { row = e } }

again : {s out : List ℕ} {i : ℕ} → Inv s out i → i < length s → Inv s (set out i (get_or s i 0)) (i + 1)
again v h = record { few = v.few; within = omega arith; laid = laid_more v.laid (omega arith) refl }

-- all of a list's values in a row are the list
done : {s out : List ℕ} {i : ℕ} → Inv s out i → length s ≤ i → out ≡ filled 36868 s
done {s} {out} {i} v h =
    let e : i ≡ length s = omega arith in
    let a : firsts (λ j. get_or s j 0) 0 i ≡ s = rw e (firsts_take s (length s) (omega arith) ∙ take-length s) in
    v.laid.row ∙ ap (filled 36868) a

pub loop-i-init : goal.loop-i-init
loop-i-init c = start c.requires.0 c.requires.1

pub bounds-bytes-i : goal.bounds-bytes-i
bounds-bytes-i c = c.loop-i-test.true

pub bounds-out-i : goal.bounds-out-i
bounds-out-i c = omega arith

pub loop-i-preserved : goal.loop-i-preserved
loop-i-preserved c = again c.loop-i.invariant c.loop-i-test.true

pub returns : goal.returns
returns c = done c.loop-i.invariant c.loop-i-test.false
