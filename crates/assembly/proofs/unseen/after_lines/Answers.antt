use Prim.Native.Nat.{ℕ, zero, suc, ◌+◌, ◌-◌, ◌≤◌, ◌<◌}
use native.Mathlib.Numerals.{add-one}
use native.Mathlib.Omega.{arith}
use mathlib.Core.Path.{◌≡◌, refl, sym, ap, ◌∙◌}
use mathlib.Core.List.{List, []}
use mathlib.Core.Bool.{Bool, true, false}
use borrow.Author.Tests.{ltb-true, ltb-false}
use lib.Dec.{ltb}
use lib.ListN.{length, take, drop, length-drop, drop_of_length-le}
use lib.Seq.{drop-drop}
use Rattle.table.proofs.Parts.{rest_part}
use Rattle.assembly.specs.Words.{span_of, in_class, Spans}
use Rattle.assembly.specs.Unseen.{after_lines}
use Rattle.assembly.specs.Code.Steps.{After}
use Rattle.assembly.specs.declared.scan.Class.TheVariants.{Line}
use Rattle.assembly.proofs.unseen.after_lines.Invariants.{Inv}
use Rattle.assembly.proofs.unseen.after_lines.Goals as goal

next : (s : List ℕ) (i : ℕ) (l : List ℕ) → l ≡ after_lines i s → drop (suc (span_of (in_class Line) l)) l ≡ after_lines (suc i) s
unfolding after_lines
next s i l e = rw e

more : (s : List ℕ) (k : ℕ) → after_lines k s ≡ [] → after_lines (suc k) s ≡ []
more s k e = sym (next s k [] (sym e))

-- where a text has ended, nothing comes after more lines
after_none : (s : List ℕ) (i k : ℕ) → i ≤ k → after_lines i s ≡ [] → after_lines k s ≡ []
after_none s i zero h e = let z : i ≡ 0 = omega arith in rw z at e
after_none s i (suc k) h e = go (ltb k i) refl (λ l. after_none s i k l e)
  where
    go : (t : Bool) → ltb k i ≡ t → (i ≤ k → after_lines k s ≡ []) → after_lines (suc k) s ≡ []
    go true t f =
        let z : i ≡ suc k = omega (arith, ltb-true k i t) in
        rw z at e
    go false t f = more s k (f (ltb-false k i t))

module _ (s : List ℕ) (k at i r : ℕ) (v : Inv s k at i) (d : Spans (in_class Line) (take (length s - at) (drop at s)) r) where
  spanned : r ≡ span_of (in_class Line) (drop at s)
  spanned = rw (rest_part s at) at d.value

  room : r ≤ length s - at
  room = omega (arith, rw (rest_part s at) at d.within, length-drop at s)

  after : drop (at + r + 1) s ≡ after_lines (suc i) s
  after =
      let e : at + suc r ≡ at + r + 1 = omega arith in
      sym (drop-drop (suc r) at s ∙ ap (λ (j : ℕ). drop j s) e) ∙ rw spanned (next s i (drop at s) v.rest)

  ends : i < k → length s ≤ at + r → After s k (length s)
  ends h l =
      let none : after_lines (suc i) s ≡ [] = sym after ∙ drop_of_length-le s {i = at + r + 1} (omega arith) in
      record { rest = drop_of_length-le s {i = length s} (omega arith) ∙ sym (after_none s (suc i) k (omega arith) none); within = omega arith }

  again : i < k → at + r < length s → Inv s k (at + r + 1) (i + 1)
  again h l = record { passed = omega arith; within = omega arith; rest = after ∙ rw (add-one i) }

done : (s : List ℕ) (k at i : ℕ) → Inv s k at i → k ≤ i → After s k at
done s k at i v h =
    let e : i ≡ k = omega (arith, v.passed) in
    record { rest = v.rest ∙ ap (λ (j : ℕ). after_lines j s) e; within = v.within }

pub loop-i-init : goal.loop-i-init
unfolding after_lines
loop-i-init c = record { passed = omega arith; within = omega arith; rest = refl }

pub slice_bounds-span-count : goal.slice_bounds-span-count
slice_bounds-span-count c = omega (arith, c.loop-i.invariant.within)

pub slice_bounds-span-start : goal.slice_bounds-span-start
slice_bounds-span-start c = omega (arith, c.loop-i.invariant.within)

pub slice_bounds-span-end : goal.slice_bounds-span-end
slice_bounds-span-end c = omega (arith, c.loop-i.invariant.within)

pub overflow_add-end : goal.overflow_add-end
overflow_add-end c = omega (arith, c.loop-i.invariant.within, room _ _ _ _ _ c.loop-i.invariant c.span.ensures)

pub returns-then-text-end : goal.returns-then-text-end
returns-then-text-end c = ends _ _ _ _ _ c.loop-i.invariant c.span.ensures c.loop-i-test.true c.if-text-end.true

pub overflow_add-at : goal.overflow_add-at
overflow_add-at c = omega (arith, c.if-text-end.false)

pub loop-i-preserved : goal.loop-i-preserved
loop-i-preserved c = again _ _ _ _ _ c.loop-i.invariant c.span.ensures c.loop-i-test.true c.if-text-end.false

pub returns : goal.returns
returns c = done _ _ _ _ c.loop-i.invariant c.loop-i-test.false
