use Rattle.std.specs.Prelude.{Err, Ok, Result}
use native.Mathlib.Omega.{arith}
use Prim.Native.Nat.{ℕ, ◌+◌, ◌-◌, ◌≤◌, ◌<◌}
use mathlib.Core.Path.{◌≡◌, refl, sym, ap, ◌∙◌}
use mathlib.Core.List.{List, [], ◌∷◌}
use lib.ListN.{length, take, drop, length-drop, drop_of_length-le}
use lib.Seq.{drop-drop}
use Rattle.table.proofs.Parts.{rest_part}
use Rattle.assembly.specs.Words.{parts, nonempty, words_in, FirstWord}
use Rattle.inputs.specs.Front.{Order, onward_order, added, order_from, max_order}
use Rattle.inputs.specs.Code.Steps.{Ordering}
use Rattle.inputs.specs.declared.Wanted.{Wanted}
use Rattle.inputs.proofs.order.order_line.Invariants.{Inv}
use Rattle.std.proofs.lemmas.Result.{err_from_is_err_and}
use Rattle.inputs.proofs.order.order_line.Goals as goal

-- the word from a to b of the part from a place on
abbrev word_at : List ℕ → ℕ → ℕ → ℕ → List ℕ
word_at s at a b = take (b - a) (drop a (take (length s - at) (drop at s)))

module _ (s buf₀ : List ℕ) (n₀ : ℕ) (buf : List ℕ) (n at : ℕ) (v : Inv s buf₀ n₀ buf n at) where
  no_more : words_in (drop at s) ≡ [] → Ordering (Ok n) buf (order_from (take n₀ buf₀) (words_in s))
  unfolding order_from
  no_more e = record { value = rw e at v.rest; few = v.room.few }

  past : length s ≤ at → Ordering (Ok n) buf (order_from (take n₀ buf₀) (words_in s))
  unfolding parts nonempty
  past h = no_more (rw (drop_of_length-le s {i = at} h))

  module _ (a b : ℕ) (f : FirstWord (take (length s - at) (drop at s)) a b) where
    none : a ≡ b → Ordering (Ok n) buf (order_from (take n₀ buf₀) (words_in s))
    none e = no_more (rw (rest_part s at) at (f.none e))

    word_within : at + b ≤ length s
    word_within = omega (arith, v.within, rw (rest_part s at) at f.within, length-drop at s)

    module _ (h : a ≡ b → ⊥) where
      some : a < b
      some = omega (arith, h, f.order)

      next : order_from (take n buf) (words_in (drop at s)) ≡ onward_order (added (take n buf) (word_at s at a b)) (λ (o : List ℕ). order_from o (words_in (drop (at + b) s)))
      unfolding order_from
      next =
          let g : words_in (take (length s - at) (drop at s)) ≡ word_at s at a b ∷ words_in (drop b (take (length s - at) (drop at s))) = f.some some in
          let e : words_in (drop at s) ≡ word_at s at a b ∷ words_in (drop (at + b) s) =
          sym (ap words_in (rest_part s at)) ∙ g ∙ ap (λ (t : List ℕ). word_at s at a b ∷ words_in t) (ap (drop b) (rest_part s at) ∙ drop-drop b at s) in
          rw e

      module _ {r : Result ℕ Wanted} (buf' : List ℕ) (d : Ordering r buf' (added (take n buf) (word_at s at a b))) where
        broken_off : {e : Wanted} → r ≡ Err e → Ordering (Err e) buf' (order_from (take n₀ buf₀) (words_in s))
        broken_off q =
            record {
              value = ap (λ (o : Order). onward_order o (λ (o : List ℕ). order_from o (words_in (drop (at + b) s)))) (rw q at d.value) ∙ sym next ∙ v.rest;
              few = omega arith;
            }

        again : {k : ℕ} → r ≡ Ok k → length buf' ≡ max_order → Inv s buf₀ n₀ buf' k (at + b)
        again q l =
            record {
              room = record { full = l; few = rw q at d.few };
              within = word_within;
              rest = ap (λ (o : Order). onward_order o (λ (o : List ℕ). order_from o (words_in (drop (at + b) s)))) (rw q at d.value) ∙ sym next ∙ v.rest;
            }

pub loop-at-init : goal.loop-at-init
loop-at-init c = record { room = c.requires; within = omega arith; rest = refl }

pub slice_bounds-part-count : goal.slice_bounds-part-count
slice_bounds-part-count c = omega arith

pub slice_bounds-part-start : goal.slice_bounds-part-start
slice_bounds-part-start c = omega arith

pub slice_bounds-part-end : goal.slice_bounds-part-end
slice_bounds-part-end c = omega arith

pub returns-then-start-end : goal.returns-then-start-end
returns-then-start-end c = none _ _ _ _ _ _ c.loop-at.invariant _ _ c.first_word-word.ensures c.if-start-end.true

pub slice_bounds-add_worker-count : goal.slice_bounds-add_worker-count
slice_bounds-add_worker-count c = omega (arith, c.first_word-word.ensures.order)

pub slice_bounds-add_worker-start : goal.slice_bounds-add_worker-start
slice_bounds-add_worker-start c = omega (arith, c.first_word-word.ensures.order, c.first_word-word.ensures.within)

pub slice_bounds-add_worker-end : goal.slice_bounds-add_worker-end
slice_bounds-add_worker-end c = omega (arith, c.first_word-word.ensures.within)

pub add_worker-requires : goal.add_worker-requires
add_worker-requires c = c.loop-at.invariant.room

pub returns-in_err-n : goal.returns-in_err-n
returns-in_err-n c =
    let q = err_from_is_err_and c.from_residual.result c.from_residual.ensures.1 in
    rw (q.1, q.2) (broken_off _ _ _ _ _ _ c.loop-at.invariant _ _ c.first_word-word.ensures c.if-start-end.false _ c.add_worker.ensures c.in_err-n.was)

pub overflow_add-at : goal.overflow_add-at
overflow_add-at c = omega (arith, word_within _ _ _ _ _ _ c.loop-at.invariant _ _ c.first_word-word.ensures)

pub loop-at-smaller : goal.loop-at-smaller
loop-at-smaller c = omega (arith, some _ _ _ _ _ _ c.loop-at.invariant _ _ c.first_word-word.ensures c.if-start-end.false, word_within _ _ _ _ _ _ c.loop-at.invariant _ _ c.first_word-word.ensures)

pub loop-at-preserved : goal.loop-at-preserved
loop-at-preserved c = again _ _ _ _ _ _ c.loop-at.invariant _ _ c.first_word-word.ensures c.if-start-end.false _ c.add_worker.ensures c.in_ok-n.was (omega (arith, c.loop-at.invariant.room.full))

pub returns : goal.returns
returns c = past _ _ _ _ _ _ c.loop-at.invariant c.loop-at-test.false
