-- `text::put_facts` meets its contract: the text is at most 57 bytes long, so that each of its words and numbers fits.
use Prim.Native.Nat.{ℕ}
use native.Mathlib.Omega.{arith}
use mathlib.Core.Path.{◌≡◌, ◌∙◌}
use mathlib.Core.List.{List, [], ◌∷◌}
use lib.ListN.{length}
use Rattle.table.specs.declared.Facts.{Facts}
use Rattle.text.specs.Text.{decimal, table_word, serial_word, depth_word, space, facts_text, buffer_at, placed, placed_next}
use Rattle.text.proofs.Placing.{placed_all}
use Rattle.text.proofs.FactsText.{Fits, facts_short}
use Rattle.text.proofs.put_facts.Goals as goal

told : (s : List ℕ) → length s ≡ 80 → (f : Facts) → Fits f → (o₁ o₂ o₃ o : List ℕ) (r₁ r₂ r₃ r : ℕ)
    → buffer_at o₁ r₁ ≡ placed_next (placed s 0 table_word) (decimal f.threads)
    → buffer_at o₂ r₂ ≡ placed_next (placed o₁ r₁ space) (decimal f.actions)
    → buffer_at o₃ r₃ ≡ placed_next (placed o₂ r₂ serial_word) (decimal f.peak)
    → buffer_at o r ≡ placed_next (placed o₃ r₃ depth_word) (decimal f.depth)
    → buffer_at o r ≡ placed s 0 (facts_text f)
told s long f h o₁ o₂ o₃ o r₁ r₂ r₃ r e₁ e₂ e₃ e =
    (rw (← e₁, ← e₂, ← e₃) e)
    ∙ placed_all s 0 (decimal f.threads ∷ space ∷ decimal f.actions ∷ serial_word ∷ decimal f.peak ∷ depth_word ∷ decimal f.depth ∷ []) table_word (omega (arith, facts_short f h))

pub returns : goal.returns
returns c =
    told c.args.out.now (omega arith) c.args.facts
    (record { threads = omega (arith, c.well_formed); actions = omega (arith, c.well_formed); peak = omega (arith, c.well_formed); depth = omega (arith, c.well_formed); nested = omega (arith, c.well_formed) })
    _ _ _ _ _ _ _ _ c.put_labelled-at.ensures c.put_labelled-at-2.ensures c.put_labelled-at-3.ensures c.put_labelled.ensures
