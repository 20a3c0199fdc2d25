-- `assembly::line::line_said` meets its contract: no word, no keyword, or a keyword and what stands after it.
use Prim.Native.Nat.{ℕ, ◌-◌, ◌<◌}
use native.Mathlib.Omega.{arith}
use mathlib.Core.Path.{◌≡◌, sym, ◌∙◌}
use mathlib.Core.List.{List}
use borrow.Author.Tests.{eq-eqb, ne_eqb}
use lib.ListN.{length, take, drop}
use lib.Seq.{length-take-le}
use Rattle.table.proofs.Parts.{rest_part}
use Rattle.assembly.specs.Words.{in_class, words_in, Spans, FirstWord}
use Rattle.assembly.specs.Said.{code_of_word, said_after, said_by, meaning_of, line_said, no_code}
use Rattle.assembly.specs.declared.scan.Class.TheVariants.{Plain}
use Rattle.assembly.specs.declared.Expected.TheVariants.{Keyword}
use Rattle.assembly.specs.declared.Said.TheVariants.{Nothing, Expects}
use Rattle.assembly.proofs.line.line_said.Goals as goal

module _ (l : List ℕ) (p a b : ℕ) (v : Spans (in_class Plain) l p) (f : FirstWord (take p l) a b) where
  nothing : a ≡ b → Nothing ≡ line_said l
  unfolding meaning_of
  nothing e = rw (← v.value, f.none e)

  module _ (n : a ≡ b → ⊥) {k : ℕ} (c : k ≡ code_of_word (take (b - a) (drop a (take p l)))) where
    some : a < b
    some = omega (arith, n, f.order)

    wrong : k ≡ 7 → Expects Keyword ≡ line_said l
    unfolding meaning_of said_by
    wrong e = rw (← v.value, f.some some, eq-eqb (code_of_word (take (b - a) (drop a (take p l)))) no_code (sym c ∙ e))

    right : (k ≡ 7 → ⊥) → said_after k (words_in (take (length (take p l) - b) (drop b (take p l)))) ≡ line_said l
    unfolding meaning_of said_by
    right e =
        rw (← v.value, f.some some, ne_eqb (code_of_word (take (b - a) (drop a (take p l)))) no_code (λ q. e (c ∙ q)), rest_part (take p l) b, c)

pub slice_bounds-s-end : goal.slice_bounds-s-end
slice_bounds-s-end c = sym (length-take-le c.span-plain.result c.args.line.now c.span-plain.ensures.within)

pub returns-then-start-end : goal.returns-then-start-end
returns-then-start-end c = nothing _ _ _ _ c.span-plain.ensures c.first_word-word.ensures c.if-start-end.true

pub slice_bounds-keyword-count : goal.slice_bounds-keyword-count
slice_bounds-keyword-count c = omega (arith, c.first_word-word.ensures.order)

pub slice_bounds-keyword-start : goal.slice_bounds-keyword-start
slice_bounds-keyword-start c = omega (arith, c.first_word-word.ensures.order, c.first_word-word.ensures.within)

pub slice_bounds-keyword-end : goal.slice_bounds-keyword-end
slice_bounds-keyword-end c = omega (arith, c.first_word-word.ensures.within)

pub returns-then-k-eq7 : goal.returns-then-k-eq7
returns-then-k-eq7 c = wrong _ _ _ _ c.span-plain.ensures c.first_word-word.ensures c.if-start-end.false c.keyword-k.ensures c.if-k-eq7.true

pub slice_bounds-said_after-count : goal.slice_bounds-said_after-count
slice_bounds-said_after-count c = omega (arith, c.first_word-word.ensures.within)

pub slice_bounds-said_after-start : goal.slice_bounds-said_after-start
slice_bounds-said_after-start c = omega (arith, c.first_word-word.ensures.within)

pub slice_bounds-said_after-end : goal.slice_bounds-said_after-end
slice_bounds-said_after-end c = omega (arith, c.first_word-word.ensures.within)

pub returns : goal.returns
returns c = c.said_after.ensures ∙ right _ _ _ _ c.span-plain.ensures c.first_word-word.ensures c.if-start-end.false c.keyword-k.ensures c.if-k-eq7.false
