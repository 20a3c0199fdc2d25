-- `links::describe` meets its contract: the links laid are those of the row, and 1,024 long as the given ones are; the leftmost thread is compared last.
use mathlib.Core.Path.{◌≡◌, ap, sym, ◌∙◌}
use mathlib.Core.Bool.{Bool, true, false}
use mathlib.Core.List.{List}
use Prim.Native.Nat.{ℕ}
use lib.Dec.{eqb}
use Rattle.schedule.specs.Links.{Links}
use Rattle.schedule.specs.Sound.{same_links}
use Rattle.order.specs.Words.{same_list}
use Rattle.std.specs.Prelude.{nat_eq}
use Rattle.std.specs.Cmp.Lexicographic.{pointwise}
use Rattle.table.proofs.Tests.{no_way}
use Rattle.links.proofs.Comparing.{pointwise_same}
use Rattle.links.proofs.describe.Goals.{then-eq, else-eq}
use Rattle.links.proofs.describe.Goals as goal

-- the three tests, in the definition's order
module _ (k there : Links) {a : Bool} {lefts : List ℕ} (e : a ≡ same_list k.left lefts) (d : lefts ≡ there.left) where
  on_left : same_list k.left there.left ≡ a
  on_left = sym (e ∙ ap (same_list k.left) d)

  first_fails : a ≡ false → false ≡ same_links k there
  unfolding same_links
  first_fails h = rw (on_left ∙ h)

  module _ (h : a ≡ true) {b : Bool} {rights : List ℕ} (f : b ≡ same_list k.right rights) (g : rights ≡ there.right) where
    on_right : same_list k.right there.right ≡ b
    on_right = sym (f ∙ ap (same_list k.right) g)

    second_fails : b ≡ false → false ≡ same_links k there
    unfolding same_links
    second_fails i = rw (on_left ∙ h, on_right ∙ i)

    third_decides : b ≡ true → {first : ℕ} → first ≡ there.head → eqb k.head first ≡ same_links k there
    unfolding same_links
    third_decides i j = rw (on_left ∙ h, on_right ∙ i) (ap (eqb k.head) j)

-- std's test is that of the definitions
tested : (k l : List ℕ) {b : Bool} → b ≡ pointwise nat_eq k l → b ≡ same_list k l
tested k l e = e ∙ pointwise_same k l

pub returns-then-eq-2 : goal.returns-then-eq-2
returns-then-eq-2 c =
    elim c.if-eq.branch [
      | then-eq w ↦ third_decides _ _ (tested _ _ c.eq.ensures) c.lay-first.ensures.left_after w.if-eq.true (tested _ _ w.eq-then-eq.ensures) c.lay-first.ensures.right_after (sym w.value-is ∙ c.if-eq-2.true) c.lay-first.ensures.value
      | else-eq w ↦ no_way (cc (w.value-is, c.if-eq-2.true))
    ]

pub returns-else-eq-2 : goal.returns-else-eq-2
returns-else-eq-2 c =
    elim c.if-eq.branch [
      | then-eq w ↦ c.if-eq-2.false ∙ second_fails _ _ (tested _ _ c.eq.ensures) c.lay-first.ensures.left_after w.if-eq.true (tested _ _ w.eq-then-eq.ensures) c.lay-first.ensures.right_after (sym w.value-is ∙ c.if-eq-2.false)
      | else-eq w ↦ c.if-eq-2.false ∙ first_fails _ _ (tested _ _ c.eq.ensures) c.lay-first.ensures.left_after w.if-eq.false
    ]
