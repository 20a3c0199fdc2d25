use mathlib.Core.Path.{◌≡◌, ap, ◌∙◌}
use Prim.Native.Nat.{ℕ, suc, ◌+◌, ◌-◌, ◌≤◌, ◌<◌}
use mathlib.Core.List.{List}
use native.Mathlib.Omega.{arith}
use lib.ListN.{length}
use Rattle.table.specs.Format.{kind_of, code_at, argument_at}
use Rattle.canonical.specs.Code.NumberWalk.{cut16}
use Rattle.canonical.specs.Code.NumberWalk.{Numbered, numbered, step_number, number_body}
use Rattle.canonical.specs.Code.NumbersOf.{BodyIn, NumberStepped}
use Rattle.canonical.proofs.NumberWalk.{step_new_length}
use Rattle.canonical.proofs.numbers.number_walk.Invariants.{Inv, rest}
use Rattle.canonical.proofs.numbers.number_walk.Goals as goal

module _ (l : List ℕ) (first count start : ℕ) (sizes new₀ : List ℕ) where
  begin : length sizes ≡ 1024 → length new₀ ≡ 1024 → start < 4294967296 → BodyIn first count → Inv l first count start sizes new₀ new₀ start 0
  begin s n f b =
      let p : first + 0 ≡ first = omega arith in
      let q : count - 0 ≡ count = omega arith in
      record { within = omega arith; body = b; small = f; sizes_sized = s; sized = n; low = omega arith; same = rw (p, q) }

  module _ (new : List ℕ) (next i : ℕ) (v : Inv l first count start sizes new₀ new next i) where
    again : (h : i < count) (k x : ℕ) → k ≡ code_at l (first + i) → x ≡ argument_at l (first + i) → (new' : List ℕ) (next' : ℕ) → NumberStepped sizes (kind_of k) x (numbered new next) (numbered new' next')
        → Inv l first count start sizes new₀ new' next' (i + 1)
    unfolding number_body
    again h k x e f new' next' s =
        record {
          within = omega arith;
          body = v.body;
          small = v.small;
          sizes_sized = v.sizes_sized;
          sized = ap (λ (w : Numbered). length w.new) s.value ∙ step_new_length cut16 sizes (kind_of k) x (numbered new next) ∙ v.sized;
          low = omega (arith, v.low, s.small);
          same = further;
        }
      where
        further : rest l sizes (first + (i + 1)) (count - (i + 1)) (numbered new' next') ≡ rest l sizes first count (numbered new₀ start)
        further =
            let p : first + (i + 1) ≡ suc (first + i) = omega arith in
            let q : count - i ≡ suc (count - (i + 1)) = omega arith in
            let z : numbered new' next' ≡ step_number cut16 sizes (kind_of (code_at l (first + i))) (argument_at l (first + i)) (numbered new next) = rw (e, f) at s.value in
            rw (p, z) (rw q at v.same)

    done : count ≤ i → numbered new next ≡ rest l sizes first count (numbered new₀ start)
    unfolding number_body
    done h =
        let q : count - i ≡ 0 = omega arith in
        rw q at v.same

pub loop-i-init : goal.loop-i-init
loop-i-init c = begin c.args.actions.now c.args.first c.args.count c.args.start c.args.sizes.now c.args.new.now c.requires.0 c.requires.1 c.requires.2 c.requires.3

pub overflow_add-first : goal.overflow_add-first
overflow_add-first c = omega (arith, c.loop-i.invariant.body, c.loop-i.invariant.within)

pub number_step-next-requires : goal.number_step-next-requires
number_step-next-requires c =
    let v = c.loop-i.invariant in
    (v.sizes_sized, v.sized, omega (arith, v.low, v.within, v.small, v.body))

pub loop-i-preserved : goal.loop-i-preserved
loop-i-preserved c =
    let d = c.args in
    again d.actions.now d.first d.count d.start d.sizes.now d.new.now c.loop-i.new c.loop-i.next c.loop-i.i c.loop-i.invariant c.loop-i-test.true
    c.action_in-action.result.code c.action_in-action.result.argument c.action_in-action.ensures.code_value c.action_in-action.ensures.read.value _ _ (rw c.kind.ensures at c.number_step-next.ensures)

pub returns : goal.returns
returns c =
    let d = c.args in
    done d.actions.now d.first d.count d.start d.sizes.now d.new.now c.loop-i.new c.loop-i.next c.loop-i.i c.loop-i.invariant c.loop-i-test.false
