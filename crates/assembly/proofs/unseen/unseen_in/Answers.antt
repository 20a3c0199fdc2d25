-- `assembly::unseen::unseen_in` meets its contract: a mark, or a carriage return before the comment.
use Prim.Native.Nat.{ℕ, ◌≤◌, ◌<◌}
use mathlib.Core.Path.{◌≡◌, sym, ◌∙◌}
use mathlib.Core.List.{List, [], ◌∷◌}
use mathlib.Core.Bool.{true, false}
use borrow.Author.Tests.{lt-ltb, le-ltb}
use lib.ListN.{length, take}
use lib.Seq.{length-take-le}
use Rattle.assembly.specs.Words.{in_class, same, Spans}
use Rattle.assembly.specs.Unseen.{unseen_in}
use Rattle.assembly.specs.declared.scan.Class.TheVariants.{Plain, Shown}
use Rattle.assembly.specs.declared.unseen.Unseen.TheVariants.{Nothing, Return, Mark}
use Rattle.assembly.proofs.unseen.unseen_in.Goals as goal

module _ (l : List ℕ) where
  mark : same (take 3 l) (239 ∷ 187 ∷ 191 ∷ []) ≡ true → Mark ≡ unseen_in l
  unfolding unseen_in
  mark e = rw e

  module _ (e : same (take 3 l) (239 ∷ 187 ∷ 191 ∷ []) ≡ false) {p q : ℕ} (v : Spans (in_class Plain) l p) (w : Spans (in_class Shown) (take p l) q) where
    long : length (take p l) ≡ p
    long = length-take-le p l v.within

    hidden : q < p → Return ≡ unseen_in l
    unfolding unseen_in
    hidden h = rw (e, ← v.value, ← w.value, long, lt-ltb q p h)

    none : p ≤ q → Nothing ≡ unseen_in l
    unfolding unseen_in
    none h = rw (e, ← v.value, ← w.value, long, le-ltb q p h)

pub returns-then-is_marked : goal.returns-then-is_marked
returns-then-is_marked c = mark _ (sym c.is_marked.ensures ∙ c.if-is_marked.true)

pub slice_bounds-span-end : goal.slice_bounds-span-end
slice_bounds-span-end c = sym (length-take-le c.span-plain.result c.args.line.now c.span-plain.ensures.within)

pub returns-then-shown-plain : goal.returns-then-shown-plain
returns-then-shown-plain c = hidden _ (sym c.is_marked.ensures ∙ c.if-is_marked.false) c.span-plain.ensures c.span-shown.ensures c.if-shown-plain.true

pub returns-else-shown-plain : goal.returns-else-shown-plain
returns-else-shown-plain c = none _ (sym c.is_marked.ensures ∙ c.if-is_marked.false) c.span-plain.ensures c.span-shown.ensures c.if-shown-plain.false
