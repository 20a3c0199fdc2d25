use mathlib.Core.Path.{◌≡◌, sym, ap, ◌∙◌}
use Prim.Native.Nat.{ℕ, suc, ◌+◌, ◌≤◌}
use mathlib.Core.List.{List}
use lib.ListN.{length}
use lib.Seq.{paste, paste-zero, paste-suc, take-length}
use native.Mathlib.Omega.{arith}
use Rattle.text.specs.Text.{buffer_at, placed}
use Rattle.text.proofs.Placing.{placed_fits, placed_over}
use Rattle.text.proofs.put_word.Goals as goal

all_put : (s : List ℕ) (at : ℕ) (w r : List ℕ) (i : ℕ) → at + length w ≤ length s → i ≡ length w → r ≡ paste s at w i → buffer_at r (at + length w) ≡ placed s at w
all_put s at w r i h q e = rw (placed_fits s at w h, e, q, take-length w)

pub returns-then-out-at : goal.returns-then-out-at
returns-then-out-at c = let a = c.args in sym (placed_over a.out.now a.at a.word.now (omega arith))

pub returns-then-out-at-2 : goal.returns-then-out-at-2
returns-then-out-at-2 c = let a = c.args in sym (placed_over a.out.now a.at a.word.now (omega arith))

pub loop-i-init : goal.loop-i-init
loop-i-init c = let a = c.args in paste-zero a.out.now a.at a.word.now

pub loop-i-preserved : goal.loop-i-preserved
loop-i-preserved c =
    let a = c.args in
    let i = c.loop-i.i in
    let next : suc i ≡ i + 1 = omega arith in
    rw c.loop-i.invariant (paste-suc a.out.now a.at a.word.now i 0 (omega arith) (omega arith) ∙ ap (paste a.out.now a.at a.word.now) next)

pub returns : goal.returns
returns c = let a = c.args in all_put a.out.now a.at a.word.now _ c.loop-i.i (omega arith) (omega arith) c.loop-i.invariant
