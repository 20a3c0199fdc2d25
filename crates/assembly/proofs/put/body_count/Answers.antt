use Prim.Native.Nat.{ℕ, suc, ◌+◌, ◌≤◌}
use native.Mathlib.Omega.{arith}
use mathlib.Core.Path.{◌≡◌, sym, ◌∙◌}
use mathlib.Core.List.{List, ◌∷◌}
use mathlib.Core.Bool.{true, false}
use lib.ListN.{length, drop}
use Rattle.assembly.specs.Said.{saids}
use Rattle.assembly.specs.Assembly.{is_thread, is_action, body_count}
use Rattle.assembly.specs.Code.Steps.{Reads, CountsBody}
use Rattle.assembly.specs.declared.Said.{Said}
use Rattle.assembly.specs.declared.line.Line.{Line}
use Rattle.assembly.proofs.Lines.{said_none}
use Rattle.assembly.proofs.put.body_count.Invariants.{Inv}
use Rattle.assembly.proofs.put.body_count.Goals as goal

at_thread : (x : Said) (l : List Said) → is_thread x ≡ true → body_count (x ∷ l) ≡ 0
unfolding body_count
at_thread x l e = rw e

at_action : (x : Said) (l : List Said) → is_thread x ≡ false → is_action x ≡ true → body_count (x ∷ l) ≡ suc (body_count l)
unfolding body_count
at_action x l e d = rw (e, d)

at_other : (x : Said) (l : List Said) → is_thread x ≡ false → is_action x ≡ false → body_count (x ∷ l) ≡ body_count l
unfolding body_count
at_other x l e d = rw (e, d)

module _ (s : List ℕ) (from at count : ℕ) (v : Inv s from at count) where
  module _ {r : Line} (d : Reads s at r) where
    thread : is_thread r.said ≡ true → CountsBody s from count
    thread e =
        let a : body_count (saids (drop at s)) ≡ 0 = rw d.says (at_thread r.said (saids (drop r.next s)) e) in
        record { value = omega (arith, a, v.rest); small = v.small }

    action : is_thread r.said ≡ false → is_action r.said ≡ true → Inv s from r.next (count + 1)
    action e f =
        let a : body_count (saids (drop at s)) ≡ suc (body_count (saids (drop r.next s))) = rw d.says (at_action r.said (saids (drop r.next s)) e f) in
        record { passed = omega (arith, v.passed, d.later); small = omega (arith, v.passed, d.later, d.within); rest = omega (arith, a, v.rest) }

    other : is_thread r.said ≡ false → is_action r.said ≡ false → Inv s from r.next count
    other e f =
        let a : body_count (saids (drop at s)) ≡ body_count (saids (drop r.next s)) = rw d.says (at_other r.said (saids (drop r.next s)) e f) in
        record { passed = omega (arith, v.passed, d.later); small = v.small; rest = omega (arith, a, v.rest) }

  ends : length s ≤ at → CountsBody s from count
  unfolding body_count
  ends h =
      let a : body_count (saids (drop at s)) ≡ 0 = rw (said_none s at h) in
      record { value = omega (arith, a, v.rest); small = v.small }

pub loop-at-init : goal.loop-at-init
loop-at-init c = record { passed = omega arith; small = omega arith; rest = omega arith }

pub read_line-read-requires : goal.read_line-read-requires
read_line-read-requires c = c.loop-at-test.true

pub returns-then-is_of : goal.returns-then-is_of
returns-then-is_of c = thread _ _ _ _ c.loop-at.invariant c.read_line-read.ensures (sym c.is_of.ensures ∙ c.if-is_of.true)

pub overflow_add-count : goal.overflow_add-count
overflow_add-count c = omega (arith, c.loop-at.invariant.passed)

pub loop-at-smaller-then-is_of-2 : goal.loop-at-smaller-then-is_of-2
loop-at-smaller-then-is_of-2 c = omega (arith, c.read_line-read.ensures.later, c.read_line-read.ensures.within)

pub loop-at-preserved-then-is_of-2 : goal.loop-at-preserved-then-is_of-2
loop-at-preserved-then-is_of-2 c = action _ _ _ _ c.loop-at.invariant c.read_line-read.ensures (sym c.is_of.ensures ∙ c.if-is_of.false) (sym c.is_of-in-loop-at.ensures ∙ c.if-is_of-2.true)

pub loop-at-smaller : goal.loop-at-smaller
loop-at-smaller c = omega (arith, c.read_line-read.ensures.later, c.read_line-read.ensures.within)

pub loop-at-preserved : goal.loop-at-preserved
loop-at-preserved c = other _ _ _ _ c.loop-at.invariant c.read_line-read.ensures (sym c.is_of.ensures ∙ c.if-is_of.false) (sym c.is_of-in-loop-at.ensures ∙ c.if-is_of-2.false)

pub returns : goal.returns
returns c = ends _ _ _ _ c.loop-at.invariant c.loop-at-test.false
