-- `text::refused_line` meets its contract: the line is at most 18 bytes long, so that each of its words and numbers fits.
use Prim.Native.Nat.{ℕ, ◌^◌, ◌≤◌, ◌<◌}
use native.Mathlib.Omega.{arith}
use mathlib.Core.Path.{◌≡◌}
use mathlib.Core.List.{List, [], ◌∷◌, ◌++◌}
use lib.ListN.{length, drop, length-append}
use Rattle.table.specs.declared.Refusal.{Refusal}
use Rattle.text.specs.Text.{decimal, refused_word, space, newline, refused_line, buffer_at, placed, placed_next}
use Rattle.text.proofs.Decimal.{decimal_length}
use Rattle.text.proofs.Placing.{line_put}
use Rattle.text.proofs.refused_line.Goals as goal

module _ (s : List ℕ) (long : length s ≡ 80) (q : Refusal) (n : q.number < 2 ^ 8) (p : q.place < 2 ^ 16) where
  short : length (refused_line q) ≤ 18
  unfolding refused_line
  short = simp length-append (omega (arith, decimal_length 2 q.number (omega arith), decimal_length 4 q.place (omega arith)))

  told : (o₁ o₂ o : List ℕ) (r₁ r₂ r : ℕ)
      → buffer_at o₁ r₁ ≡ placed_next (placed s 0 refused_word) (decimal q.number)
      → buffer_at o₂ r₂ ≡ placed_next (placed o₁ r₁ space) (decimal q.place)
      → buffer_at o r ≡ placed o₂ r₂ newline
      → (r ≡ length (refused_line q)) × ((o ≡ refused_line q ++ drop r s) × (r ≤ 64))
  unfolding refused_line
  told o₁ o₂ o r₁ r₂ r e₁ e₂ e =
      let p = line_put s o r refused_word (decimal q.number ∷ space ∷ decimal q.place ∷ newline ∷ []) (omega (arith, short)) (rw (← e₁, ← e₂) e) in
      (p.0, (p.1, omega (arith, p.0, short)))

pub returns : goal.returns
returns c = let both = told c.args.out.now (omega arith) c.args.refusal
    (omega (arith, c.well_formed)) (omega (arith, c.well_formed)) _ _ _ _ _ _
    c.put_labelled-at.ensures c.put_labelled-at-2.ensures c.put_word.ensures in record { value = both.0; out_after = both.1.0; upper_bound = both.1.1 }
