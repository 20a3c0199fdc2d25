-- The line at a position of a text, and the text that is left after it.
use Prim.Native.Nat.{ℕ, suc, ◌+◌, ◌-◌, ◌≤◌, ◌<◌}
use native.Mathlib.Omega.{arith}
use mathlib.Core.Path.{◌≡◌, sym, ap, ◌∙◌}
use mathlib.Core.List.{List, [], ◌∷◌}
use lib.ListN.{length, take, drop, length-drop, drop_of_length-le}
use lib.Seq.{drop-drop}
use Rattle.assembly.specs.Words.{span_of, in_class, is_newline}
use Rattle.assembly.specs.Said.{line_said, saids}
use Rattle.assembly.specs.Code.Steps.{Reads}
use Rattle.assembly.specs.declared.Said.{Said}
use Rattle.assembly.specs.declared.line.Line.{Line}
use Rattle.assembly.specs.declared.scan.Class.TheVariants.{Line as ToNewline}
use Rattle.assembly.proofs.Parts.{span_within, parts_first}

-- the first line
pub said_first : (s : List ℕ) → 0 < length s → saids s ≡ line_said (take (span_of (in_class ToNewline) s) s) ∷ saids (drop (suc (span_of (in_class ToNewline) s)) s)
said_first [] h = absurd (omega arith)
said_first (b ∷ s) h = rw (parts_first is_newline b s)

-- nothing is said past the end
pub said_none : (s : List ℕ) (at : ℕ) → length s ≤ at → saids (drop at s) ≡ []
unfolding Rattle.assembly.specs.Words.parts
said_none s at h = rw (drop_of_length-le s {i = at} h)

abbrev line_at : Said → ℕ → Line
line_at said next = record { said = said; next = next }

module _ (s : List ℕ) (at end : ℕ) (said : Said) (h : at < length s) (e : end ≡ at + span_of (in_class ToNewline) (drop at s)) (q : said ≡ line_said (take (end - at) (drop at s))) where
  first : saids (drop at s) ≡ said ∷ saids (drop (end + 1) s)
  first =
      let k : ℕ = span_of (in_class ToNewline) (drop at s) in
      let n : end - at ≡ k = omega (arith, e) in
      let m : at + suc k ≡ end + 1 = omega (arith, e) in
      let d : drop (suc k) (drop at s) ≡ drop (end + 1) s = drop-drop (suc k) at s ∙ ap (λ (j : ℕ). drop j s) m in
      said_first (drop at s) (omega (arith, length-drop at s)) ∙ (λ i. (ap (λ (j : ℕ). line_said (take j (drop at s))) (sym n) ∙ sym q) i ∷ saids (d i))

  within : end ≤ length s
  within = omega (arith, e, span_within (in_class ToNewline) (drop at s), length-drop at s)

  -- a line with its newline
  pub reads_line : end < length s → Reads s at (line_at said (end + 1))
  reads_line l = record { later = omega (arith, e); within = omega arith; says = first }

  -- the last line, without
  pub reads_last : length s ≤ end → Reads s at (line_at said end)
  reads_last l =
      record { later = omega arith; within = within; says = first ∙ ap (λ (x : List ℕ). said ∷ saids x) (drop_of_length-le s {i = end + 1} (omega arith) ∙ sym (drop_of_length-le s {i = end} l)) }
