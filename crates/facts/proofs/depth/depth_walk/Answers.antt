use mathlib.Core.Path.{◌≡◌, ap, ◌∙◌}
use Prim.Native.Nat.{ℕ, suc, ◌+◌, ◌-◌, ◌≤◌, ◌<◌}
use mathlib.Core.List.{List}
use native.Mathlib.Omega.{arith}
use native.Mathlib.Numerals.{add-one}
use lib.ListN.{length}
use Rattle.table.specs.declared.kinds.Kind.{Kind}
use Rattle.table.specs.Format.{kind_of, code_at, argument_at}
use Rattle.facts.specs.Code.DepthWalk.{Reached, reached, step_depth, body_depth, cut16, Stepped}
use Rattle.facts.proofs.DepthWalk.{step_length}
use Rattle.facts.proofs.depth.depth_walk.Invariants.{Inv, rest}
use Rattle.facts.proofs.depth.depth_walk.Goals as goal

module _ (l : List ℕ) (count : ℕ) (depths₀ : List ℕ) where
  start : length depths₀ ≡ 1024 → count < 65536 → Inv l count depths₀ depths₀ 0 0
  start s c =
      let q : count - 0 ≡ count = omega arith in
      record { within = omega arith; few = c; sized = s; low = omega arith; same = rw q }

  module _ (depths : List ℕ) (last i : ℕ) (v : Inv l count depths₀ depths last i) where
    again : (h : i < count) (k : Kind) (x : ℕ) → k ≡ kind_of (code_at l i) → x ≡ argument_at l i → (depths' : List ℕ) (last' : ℕ) → Stepped k x (reached depths last) (reached depths' last')
        → Inv l count depths₀ depths' last' (i + 1)
    unfolding body_depth
    again h k x e f depths' last' s =
        record {
          within = omega arith;
          few = v.few;
          sized = ap (λ (w : Reached). length w.depths) s.value ∙ step_length cut16 k x (reached depths last) ∙ v.sized;
          low = omega (arith, v.low, s.small);
          same = next;
        }
      where
        next : rest l (i + 1) (count - (i + 1)) (reached depths' last') ≡ rest l 0 count (reached depths₀ 0)
        next =
            let q : count - i ≡ suc (count - (i + 1)) = omega arith in
            let z : reached depths' last' ≡ step_depth cut16 (kind_of (code_at l i)) (argument_at l i) (reached depths last) = rw (e, f) at s.value in
            rw (add-one i, z) (rw (q, add-one i) at v.same)

    done : count ≤ i → reached depths last ≡ rest l 0 count (reached depths₀ 0)
    unfolding body_depth
    done h =
        let q : count - i ≡ 0 = omega arith in
        rw q at v.same

pub loop-i-init : goal.loop-i-init
loop-i-init c = start c.args.body.now c.args.count c.args.depths.now c.requires.0 c.requires.1

pub depth_step-last-requires : goal.depth_step-last-requires
depth_step-last-requires c =
    let v = c.loop-i.invariant in
    (v.sized, omega (arith, v.low, v.within, v.few))

pub loop-i-preserved : goal.loop-i-preserved
loop-i-preserved c =
    let d = c.args in
    again d.body.now d.count d.depths.now c.loop-i.depths c.loop-i.last c.loop-i.i c.loop-i.invariant c.loop-i-test.true
    c.kind.result c.action_in-action.result.argument (c.kind.ensures ∙ ap kind_of c.action_in-action.ensures.code_value) c.action_in-action.ensures.read.value _ _ c.depth_step-last.ensures

pub returns : goal.returns
returns c =
    let d = c.args in
    done d.body.now d.count d.depths.now c.loop-i.depths c.loop-i.last c.loop-i.i c.loop-i.invariant c.loop-i-test.false
