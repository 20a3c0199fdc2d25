-- `inputs::number::read_figure` meets its contract: no word, no number, or a number and what stands after it.
use Rattle.std.specs.Prelude.{Err, None, Some}
use native.Mathlib.Omega.{arith}
use Prim.Native.Nat.{ℕ, ◌-◌, ◌<◌}
use mathlib.Core.Path.{◌≡◌, sym, ◌∙◌}
use mathlib.Core.List.{List}
use lib.ListN.{length, take, drop}
use Rattle.table.proofs.Parts.{rest_part}
use Rattle.assembly.specs.Words.{words_in, FirstWord}
use Rattle.assembly.specs.Upto.{number_in}
use Rattle.inputs.specs.Number.{figure_last, figure_of}
use Rattle.inputs.specs.declared.Wanted.TheVariants.{Number as NumberTo}
use Rattle.inputs.proofs.number.read_figure.Goals as goal

module _ (most : ℕ) (s : List ℕ) (a b : ℕ) (f : FirstWord s a b) where
  missing : a ≡ b → Err (NumberTo most) ≡ figure_of most (words_in s)
  unfolding figure_of
  missing e = rw (f.none e)

  module _ (n : a ≡ b → ⊥) where
    some : a < b
    some = omega (arith, n, f.order)

    wrong : number_in most (take (b - a) (drop a s)) ≡ None → Err (NumberTo most) ≡ figure_of most (words_in s)
    unfolding figure_of
    wrong e = rw (f.some some, e)

    right : {x : ℕ} → number_in most (take (b - a) (drop a s)) ≡ Some x → figure_last x (words_in (take (length s - b) (drop b s))) ≡ figure_of most (words_in s)
    unfolding figure_of
    right e = rw (f.some some, e, rest_part s b)

pub returns-then-start-end : goal.returns-then-start-end
returns-then-start-end c = missing _ _ _ _ c.first_word-word.ensures c.if-start-end.true

pub slice_bounds-read_number-count : goal.slice_bounds-read_number-count
slice_bounds-read_number-count c = omega (arith, c.first_word-word.ensures.order)

pub slice_bounds-read_number-start : goal.slice_bounds-read_number-start
slice_bounds-read_number-start c = omega (arith, c.first_word-word.ensures.order, c.first_word-word.ensures.within)

pub slice_bounds-read_number-end : goal.slice_bounds-read_number-end
slice_bounds-read_number-end c = omega (arith, c.first_word-word.ensures.within)

pub slice_bounds-figure_last-count : goal.slice_bounds-figure_last-count
slice_bounds-figure_last-count c = omega (arith, c.first_word-word.ensures.within)

pub slice_bounds-figure_last-start : goal.slice_bounds-figure_last-start
slice_bounds-figure_last-start c = omega (arith, c.first_word-word.ensures.within)

pub slice_bounds-figure_last-end : goal.slice_bounds-figure_last-end
slice_bounds-figure_last-end c = omega (arith, c.first_word-word.ensures.within)

pub returns-in-None : goal.returns-in-None
returns-in-None c = wrong _ _ _ _ c.first_word-word.ensures c.if-start-end.false (sym c.read_number-x.ensures.value ∙ c.in-None.is)

pub returns-in-Some : goal.returns-in-Some
returns-in-Some c = c.figure_last.ensures ∙ right _ _ _ _ c.first_word-word.ensures c.if-start-end.false (sym c.read_number-x.ensures.value ∙ c.in-Some.is)
