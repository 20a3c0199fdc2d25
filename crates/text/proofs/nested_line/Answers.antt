-- `text::nested_line` meets its contract: the line is at most 71 bytes long, so that it fits.
use Prim.Native.Nat.{ℕ, ◌≤◌}
use native.Mathlib.Omega.{arith}
use mathlib.Core.Path.{◌≡◌, sym, ap, ◌∙◌}
use mathlib.Core.List.{List, [], ◌∷◌, ◌++◌}
use lib.ListN.{length, drop, length-append}
use Rattle.table.specs.declared.Facts.{Facts}
use Rattle.text.specs.Text.{decimal, nested_word, newline, facts_text, nested_line, Buffer, buffer_at, placed, placed_next}
use Rattle.text.proofs.Decimal.{decimal_length}
use Rattle.text.proofs.Placing.{placed_length, line_put}
use Rattle.text.proofs.FactsText.{Fits, facts_short}
use Rattle.text.proofs.nested_line.Goals as goal

short : (f : Facts) → Fits f → length (nested_line f) ≤ 71
unfolding nested_line
short f h =
    omega (
      arith,
      length-append (facts_text f ++ nested_word ++ decimal f.nested) newline,
      length-append (facts_text f ++ nested_word) (decimal f.nested),
      length-append (facts_text f) nested_word,
      facts_short f h,
      decimal_length 4 f.nested (omega arith),
    )

told : (s : List ℕ) (f : Facts) → Fits f → (o₁ o₂ o : List ℕ) (r₁ r₂ r : ℕ)
    → length o₁ ≡ 80 → buffer_at o₁ r₁ ≡ placed s 0 (facts_text f)
    → buffer_at o₂ r₂ ≡ placed_next (placed o₁ r₁ nested_word) (decimal f.nested)
    → buffer_at o r ≡ placed o₂ r₂ newline
    → (r ≡ length (nested_line f)) × (o ≡ nested_line f ++ drop r s)
unfolding nested_line
told s f h o₁ o₂ o r₁ r₂ r l e₁ e₂ e =
    let long : length s ≡ 80 = sym (placed_length s 0 (facts_text f)) ∙ ap (λ (b : Buffer). length b.bytes) (sym e₁) ∙ l in
    line_put s o r (facts_text f) (nested_word ∷ decimal f.nested ∷ newline ∷ []) (omega (arith, short f h)) (rw (← e₁, ← e₂) e)

pub returns : goal.returns
returns c = let both = told c.args.out.now c.args.facts
    (record { threads = omega (arith, c.well_formed); actions = omega (arith, c.well_formed); peak = omega (arith, c.well_formed); depth = omega (arith, c.well_formed); nested = omega (arith, c.well_formed) })
    _ _ _ _ _ _ (omega arith) c.put_facts-at.ensures c.put_labelled-at.ensures c.put_word.ensures in record { value = both.0; out_after = both.1 }
