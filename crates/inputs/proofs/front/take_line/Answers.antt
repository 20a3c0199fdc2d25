-- `inputs::front::take_line` meets its contract: a line without words, or its first word and what stands after it.
use native.Mathlib.Omega.{arith}
use Prim.Native.Nat.{ℕ, ◌-◌, ◌<◌}
use mathlib.Core.Path.{◌≡◌, sym}
use mathlib.Core.List.{List, []}
use lib.ListN.{length, take, drop}
use lib.Seq.{length-take-le}
use Rattle.table.proofs.Parts.{rest_part}
use Rattle.assembly.specs.Words.{in_class, words_in, words_of, Spans, FirstWord}
use Rattle.assembly.specs.declared.scan.Class.TheVariants.{Plain}
use Rattle.inputs.specs.Front.{Front, step_with, step_of}
use Rattle.inputs.specs.Code.Steps.{Stepping, front_is, held_by, Room}
use Rattle.inputs.specs.declared.front.Front.{Front as Kept}
use Rattle.inputs.specs.declared.front.Step.TheVariants.{Goes}
use Rattle.inputs.proofs.Given.{stepping_as}
use Rattle.inputs.proofs.front.take_line.Goals as goal
use Rattle.std.specs.Prelude.{Ok}

module _ (l : List ℕ) (p a b : ℕ) (v : Spans (in_class Plain) l p) (f : FirstWord (take p l) a b) where
  no_words : a ≡ b → words_of l ≡ []
  no_words e = rw (← v.value) (f.none e)

  unchanged : (g : Kept) (buf : List ℕ) → Room buf (held_by g) → a ≡ b → Stepping (Ok (Goes g)) buf (step_of (front_is g buf) (words_of l))
  unchanged g buf r e = record { value = rw (no_words e); few = r.few }

  by_word : (g : Front) → (a ≡ b → ⊥)
      → step_with g (take (b - a) (drop a (take p l))) (words_in (take (length (take p l) - b) (drop b (take p l)))) ≡ step_of g (words_of l)
  by_word g n = let some : a < b = omega (arith, n, f.order) in rw (← v.value, f.some some, rest_part (take p l) b)

pub slice_bounds-s-end : goal.slice_bounds-s-end
slice_bounds-s-end c = sym (length-take-le c.span-plain.result c.args.line.now c.span-plain.ensures.within)

pub returns-then-start-end : goal.returns-then-start-end
returns-then-start-end c = unchanged _ _ _ _ c.span-plain.ensures c.first_word-word.ensures _ _ c.requires c.if-start-end.true

pub slice_bounds-after-count : goal.slice_bounds-after-count
slice_bounds-after-count c = omega (arith, c.first_word-word.ensures.order)

pub slice_bounds-after-start : goal.slice_bounds-after-start
slice_bounds-after-start c = omega (arith, c.first_word-word.ensures.order, c.first_word-word.ensures.within)

pub slice_bounds-after-end : goal.slice_bounds-after-end
slice_bounds-after-end c = omega (arith, c.first_word-word.ensures.within)

pub slice_bounds-after-count-2 : goal.slice_bounds-after-count-2
slice_bounds-after-count-2 c = omega (arith, c.first_word-word.ensures.within)

pub slice_bounds-after-start-2 : goal.slice_bounds-after-start-2
slice_bounds-after-start-2 c = omega (arith, c.first_word-word.ensures.within)

pub slice_bounds-after-end-2 : goal.slice_bounds-after-end-2
slice_bounds-after-end-2 c = omega (arith, c.first_word-word.ensures.within)

pub after-requires : goal.after-requires
after-requires c = c.requires

pub returns : goal.returns
returns c = stepping_as (by_word _ _ _ _ c.span-plain.ensures c.first_word-word.ensures _ c.if-start-end.false) c.after.ensures
