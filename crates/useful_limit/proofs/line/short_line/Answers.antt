-- `useful_limit::line::short_line` meets its contract: the line is at most 51 bytes long, so that each of its words and numbers fits.
use Prim.Native.Nat.{ℕ, ◌^◌, ◌≤◌, ◌<◌}
use native.Mathlib.Omega.{arith}
use mathlib.Core.Path.{◌≡◌}
use mathlib.Core.List.{List, [], ◌∷◌, ◌++◌}
use lib.ListN.{length, drop, length-append}
use Rattle.text.specs.Text.{ascii, decimal, newline, buffer_at, placed, placed_next}
use Rattle.text.proofs.Decimal.{decimal_length}
use Rattle.text.proofs.Placing.{line_put}
use Rattle.useful_limit.specs.Line.{short_line}
use borrow.Author.Rules.{rules}
use Rattle.useful_limit.proofs.line.short_line.Goals as goal

module _ (s : List ℕ) (long : length s ≡ 80) (K X : ℕ) (small : K < 2 ^ 32) (fits : X < 2 ^ 64) where
  within : length (short_line K X) ≤ 51
  unfolding short_line
  within = simp length-append (omega (arith, decimal_length 9 K (omega arith), decimal_length 19 X (omega arith)))

  told : (o₁ o₂ o : List ℕ) (r₁ r₂ r : ℕ)
      → buffer_at o₁ r₁ ≡ placed_next (placed s 0 (ascii "none memory ")) (decimal X)
      → buffer_at o₂ r₂ ≡ placed_next (placed o₁ r₁ (ascii " quota ")) (decimal K)
      → buffer_at o r ≡ placed o₂ r₂ newline
      → (r ≡ length (short_line K X)) × ((o ≡ short_line K X ++ drop r s) × (r ≤ 64))
  unfolding short_line
  told o₁ o₂ o r₁ r₂ r e₁ e₂ e =
      let p = line_put s o r (ascii "none memory ") (decimal X ∷ ascii " quota " ∷ decimal K ∷ newline ∷ []) (omega (arith, within)) (rw (← e₁, ← e₂) e) in
      (p.0, (p.1, omega (arith, p.0, within)))

pub returns : goal.returns
returns c = let both = told c.args.out.now (omega (arith, c.put_labelled-arg-1.given)) c.args.quota c.args.memory (omega (arith, c.well_formed)) (omega (arith, c.ranges)) _ _ _ _ _ _ c.put_labelled-at.ensures c.put_labelled-at-2.ensures c.put_word.ensures in record { value = both.0; out_after = both.1.0; upper_bound = both.1.1 }
