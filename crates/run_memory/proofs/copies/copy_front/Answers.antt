use mathlib.Core.Path.{◌≡◌, ap, ◌∙◌}
use native.Mathlib.Omega.{arith}
use Prim.Native.Nat.{suc, ◌+◌}
use lib.ListN.{get_or, set}
use lib.Seq.{paste, paste-suc}
use Rattle.run_memory.proofs.copies.copy_front.Goals as goal

pub loop-i-preserved : goal.loop-i-preserved
loop-i-preserved g c =
    let a = c.args in
    let i = c.loop-i.i in
    let x = c.index-from-i.result in
    let here : i ≡ 0 + i = omega arith in
    let next : suc i ≡ i + 1 = omega arith in
    rw c.loop-i.invariant
    (ap (set (paste a.to.now 0 a.from.now i) i) c.index-from-i.is ∙ ap (λ k. set (paste a.to.now 0 a.from.now i) k (get_or a.from.now i x)) here
    ∙ paste-suc a.to.now 0 a.from.now i x (omega arith) (omega arith) ∙ ap (paste a.to.now 0 a.from.now) next)
