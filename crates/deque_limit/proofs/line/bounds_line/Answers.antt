-- `deque_limit::line::bounds_line` meets its contract: the line is at most 54 bytes long, so that each of its words and numbers fits.
use Prim.Native.Nat.{ℕ, ◌^◌, ◌≤◌, ◌<◌}
use native.Mathlib.Omega.{arith}
use mathlib.Core.Path.{◌≡◌}
use mathlib.Core.List.{List, [], ◌∷◌, ◌++◌}
use lib.ListN.{length, drop, length-append}
use Rattle.text.specs.Text.{ascii, decimal, newline, buffer_at, placed, placed_next}
use Rattle.text.proofs.Decimal.{decimal_length}
use Rattle.text.proofs.Placing.{line_put}
use Rattle.deque_limit.specs.declared.Bounds.{Bounds}
use Rattle.deque_limit.specs.Line.{bounds_line}
use borrow.Author.Rules.{rules}
use Rattle.deque_limit.proofs.line.bounds_line.Goals as goal

module _ (s : List ℕ) (long : length s ≡ 80) (x : Bounds) (wide : x.memory < 2 ^ 64) (wide-near : x.near < 2 ^ 64) where
  within : length (bounds_line x) ≤ 54
  unfolding bounds_line
  within = simp length-append (omega (arith, decimal_length 19 x.memory (omega arith), decimal_length 19 x.near (omega arith)))

  told : (o₁ o₂ o : List ℕ) (r₁ r₂ r : ℕ)
      → buffer_at o₁ r₁ ≡ placed_next (placed s 0 (ascii "memory ")) (decimal x.memory)
      → buffer_at o₂ r₂ ≡ placed_next (placed o₁ r₁ (ascii " near ")) (decimal x.near)
      → buffer_at o r ≡ placed o₂ r₂ newline
      → (r ≡ length (bounds_line x)) × ((o ≡ bounds_line x ++ drop r s) × (r ≤ 64))
  unfolding bounds_line
  told o₁ o₂ o r₁ r₂ r e₁ e₂ e =
      let p = line_put s o r (ascii "memory ") (decimal x.memory ∷ ascii " near " ∷ decimal x.near ∷ newline ∷ []) (omega (arith, within)) (rw (← e₁, ← e₂) e) in
      (p.0, (p.1, omega (arith, p.0, within)))

pub returns : goal.returns
returns c = let both = told c.args.out.now (search rules) c.args.x (search rules) (search rules) _ _ _ _ _ _ c.put_labelled-at.ensures c.put_labelled-at-2.ensures c.put_word.ensures in record { value = both.0; out_after = both.1.0; upper_bound = both.1.1 }
