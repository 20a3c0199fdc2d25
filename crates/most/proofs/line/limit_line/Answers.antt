-- `most::line::limit_line` meets its contract: the line is at most 17 bytes long, so that each of its words and numbers fits.
use Prim.Native.Nat.{ℕ, ◌^◌, ◌≤◌, ◌<◌}
use native.Mathlib.Omega.{arith}
use mathlib.Core.Path.{◌≡◌}
use mathlib.Core.List.{List, [], ◌∷◌, ◌++◌}
use lib.ListN.{length, drop, length-append}
use Rattle.text.specs.Text.{decimal, newline, buffer_at, placed, placed_next}
use Rattle.text.proofs.Decimal.{decimal_length}
use Rattle.text.proofs.Placing.{line_put}
use Rattle.most.specs.Line.{limit_word, limit_line}
use Rattle.most.proofs.line.limit_line.Goals as goal

module _ (s : List ℕ) (long : length s ≡ 80) (L : ℕ) (small : L < 2 ^ 32) where
  short : length (limit_line L) ≤ 17
  unfolding limit_line
  short = simp length-append (omega (arith, decimal_length 9 L (omega arith)))

  told : (o₁ o : List ℕ) (r₁ r : ℕ)
      → buffer_at o₁ r₁ ≡ placed_next (placed s 0 limit_word) (decimal L)
      → buffer_at o r ≡ placed o₁ r₁ newline
      → (r ≡ length (limit_line L)) × ((o ≡ limit_line L ++ drop r s) × (r ≤ 64))
  unfolding limit_line
  told o₁ o r₁ r e₁ e =
      let p = line_put s o r limit_word (decimal L ∷ newline ∷ []) (omega (arith, short)) (rw (← e₁) e) in
      (p.0, (p.1, omega (arith, p.0, short)))

pub returns : goal.returns
returns c = let both = told c.args.out.now (omega (arith, c.put_labelled-arg-1.given)) c.args.limit (omega (arith, c.well_formed)) _ _ _ _ c.put_labelled-at.ensures c.put_word.ensures in record { value = both.0; out_after = both.1.0; upper_bound = both.1.1 }
