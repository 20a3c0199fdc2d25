-- The first line of a text, and the text after it.
use Prim.Native.Nat.{ℕ, suc, ◌+◌, ◌-◌, ◌≤◌, ◌<◌, min}
use native.Mathlib.Omega.{arith}
use native.Mathlib.Numerals.{add-one}
use mathlib.Core.Path.{◌≡◌, refl, sym, ap, ◌∙◌}
use mathlib.Core.List.{List, [], ◌∷◌}
use mathlib.Core.Bool.{Bool, true, false}
use borrow.Author.Tests.{ltb-true, ltb-false}
use lib.Dec.{ltb}
use lib.ListN.{length, take, drop, length-drop, drop_of_length-le}
use lib.Seq.{drop-drop}
use Rattle.assembly.specs.Words.{span_of, parts, in_class, is_newline, lines_of}
use Rattle.assembly.specs.declared.scan.Class.TheVariants.{Line}
use Rattle.assembly.proofs.Parts.{parts_first}
use Rattle.assembly.specs.Unseen.{after_line, after_lines}

pub lines_first : (s : List ℕ) → 0 < length s → lines_of s ≡ take (span_of (in_class Line) s) s ∷ lines_of (after_line s)
lines_first [] h = absurd (omega arith)
lines_first (b ∷ s) h = parts_first is_newline b s

pub lines_none : (s : List ℕ) (at : ℕ) → length s ≤ at → lines_of (drop at s) ≡ []
unfolding parts
lines_none s at h = rw (drop_of_length-le s {i = at} h)

-- past the end there is nothing, however far
drop_min : (s : List ℕ) (k : ℕ) → drop (min k (length s)) s ≡ drop k s
drop_min s k = go (ltb k (length s)) refl
  where
    go : (t : Bool) → ltb k (length s) ≡ t → drop (min k (length s)) s ≡ drop k s
    go true e = let q : min k (length s) ≡ k = omega (arith, ltb-true k (length s) e) in rw q
    go false e =
        let h : length s ≤ k = ltb-false k (length s) e in
        drop_of_length-le s {i = min k (length s)} (omega (arith, h)) ∙ sym (drop_of_length-le s {i = k} h)

module _ (s : List ℕ) (at end next : ℕ) (h : at < length s) (e : end ≡ at + span_of (in_class Line) (drop at s)) (q : next ≡ min (suc end) (length s)) where
  after : drop next s ≡ after_line (drop at s)
  after =
      let m : at + suc (span_of (in_class Line) (drop at s)) ≡ suc end = omega (arith, e) in
      rw q (drop_min s (suc end)) ∙ sym (drop-drop (suc (span_of (in_class Line) (drop at s))) at s ∙ ap (λ (j : ℕ). drop j s) m)

  pub line_at : lines_of (drop at s) ≡ take (end - at) (drop at s) ∷ lines_of (drop next s)
  line_at =
      let n : end - at ≡ span_of (in_class Line) (drop at s) = omega (arith, e) in
      rw (after, n) (lines_first (drop at s) (omega (arith, length-drop at s)))

  pub after_next : (k : ℕ) → drop at s ≡ after_lines k s → drop next s ≡ after_lines (k + 1) s
  unfolding after_lines
  after_next k p = after ∙ ap after_line p ∙ rw add-one
