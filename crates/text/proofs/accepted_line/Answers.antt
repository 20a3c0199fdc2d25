-- `text::accepted_line` meets its contract: the line is at most 58 bytes long, so that it fits.
use Prim.Native.Nat.{ℕ, ◌≤◌}
use native.Mathlib.Omega.{arith}
use mathlib.Core.Path.{◌≡◌, sym, ap, ◌∙◌}
use mathlib.Core.List.{List, [], ◌∷◌, ◌++◌}
use lib.ListN.{length, drop, length-append}
use Rattle.table.specs.declared.Facts.{Facts}
use Rattle.text.specs.Text.{newline, facts_text, accepted_line, Buffer, buffer_at, placed}
use Rattle.text.proofs.Placing.{placed_length, line_put}
use Rattle.text.proofs.FactsText.{Fits, facts_short}
use Rattle.text.proofs.accepted_line.Goals as goal

short : (f : Facts) → Fits f → length (accepted_line f) ≤ 58
unfolding accepted_line
short f h = omega (arith, length-append (facts_text f) newline, facts_short f h)

told : (s : List ℕ) (f : Facts) → Fits f → (o₁ o : List ℕ) (r₁ r : ℕ)
    → length o₁ ≡ 80 → buffer_at o₁ r₁ ≡ placed s 0 (facts_text f)
    → buffer_at o r ≡ placed o₁ r₁ newline
    → (r ≡ length (accepted_line f)) × ((o ≡ accepted_line f ++ drop r s) × (r ≤ 64))
unfolding accepted_line
told s f h o₁ o r₁ r l e₁ e =
    let long : length s ≡ 80 = sym (placed_length s 0 (facts_text f)) ∙ ap (λ (b : Buffer). length b.bytes) (sym e₁) ∙ l in
    let p = line_put s o r (facts_text f) (newline ∷ []) (omega (arith, short f h)) (rw (← e₁) e) in
    (p.0, (p.1, omega (arith, p.0, short f h)))

pub returns : goal.returns
returns c = let both = told c.args.out.now c.args.facts
    (record { threads = omega (arith, c.well_formed); actions = omega (arith, c.well_formed); peak = omega (arith, c.well_formed); depth = omega (arith, c.well_formed); nested = omega (arith, c.well_formed) })
    _ _ _ _ (omega arith) c.put_facts-at.ensures c.put_word.ensures in record { value = both.0; out_after = both.1.0; upper_bound = both.1.1 }
