-- `useful_limit::line::numbers_line` meets its contract: the line is at most 141 bytes long, so that each of its words and numbers fits.
use Prim.Native.Nat.{ℕ, ◌^◌, ◌≤◌, ◌<◌}
use native.Mathlib.Omega.{arith}
use mathlib.Core.Path.{◌≡◌}
use mathlib.Core.List.{List, [], ◌∷◌, ◌++◌}
use lib.ListN.{length, drop, length-append}
use Rattle.text.specs.Text.{ascii, decimal, newline, buffer_at, placed, placed_next}
use Rattle.text.proofs.Decimal.{decimal_length}
use Rattle.text.proofs.Placing.{line_put}
use Rattle.useful_limit.specs.declared.Numbers.{Numbers}
use Rattle.useful_limit.specs.Line.{numbers_line}
use borrow.Author.Rules.{rules}
use Rattle.useful_limit.proofs.line.numbers_line.Goals as goal

-- each number has 64 bits
pub record Wide (x : Numbers) : Type 0 where
  pub memory : x.memory < 2 ^ 64
  pub serial : x.serial < 2 ^ 64
  pub peak : x.peak < 2 ^ 64
  pub parallel : x.parallel < 2 ^ 64
  pub stretch : x.stretch < 2 ^ 64

digits : (x : ℕ) → x < 2 ^ 64 → length (decimal x) ≤ 20
digits x h = omega (arith, decimal_length 19 x (omega arith))

module _ (s : List ℕ) (long : length s ≡ 160) (x : Numbers) (w : Wide x) where
  within : length (numbers_line x) ≤ 141
  unfolding numbers_line
  within =
      simp length-append
      (omega (arith, digits x.memory w.memory, digits x.serial w.serial, digits x.peak w.peak, digits x.parallel w.parallel, digits x.stretch w.stretch))

  told : (o₁ o₂ o₃ o₄ o₅ o : List ℕ) (r₁ r₂ r₃ r₄ r₅ r : ℕ)
      → buffer_at o₁ r₁ ≡ placed_next (placed s 0 (ascii "memory ")) (decimal x.memory)
      → buffer_at o₂ r₂ ≡ placed_next (placed o₁ r₁ (ascii " serial ")) (decimal x.serial)
      → buffer_at o₃ r₃ ≡ placed_next (placed o₂ r₂ (ascii " peak ")) (decimal x.peak)
      → buffer_at o₄ r₄ ≡ placed_next (placed o₃ r₃ (ascii " parallel ")) (decimal x.parallel)
      → buffer_at o₅ r₅ ≡ placed_next (placed o₄ r₄ (ascii " stretch ")) (decimal x.stretch)
      → buffer_at o r ≡ placed o₅ r₅ newline
      → (r ≡ length (numbers_line x)) × ((o ≡ numbers_line x ++ drop r s) × (r ≤ 160))
  unfolding numbers_line
  told o₁ o₂ o₃ o₄ o₅ o r₁ r₂ r₃ r₄ r₅ r e₁ e₂ e₃ e₄ e₅ e =
      let p = line_put s o r (ascii "memory ")
      (decimal x.memory ∷ ascii " serial " ∷ decimal x.serial ∷ ascii " peak " ∷ decimal x.peak ∷ ascii " parallel " ∷ decimal x.parallel ∷ ascii " stretch " ∷ decimal x.stretch ∷ newline ∷ [])
      (omega (arith, within)) (rw (← e₁, ← e₂, ← e₃, ← e₄, ← e₅) e) in
      (p.0, (p.1, omega (arith, p.0, within)))

pub returns : goal.returns
returns c = let x = c.args.x in let both = told c.args.out.now (omega (arith, c.put_labelled-arg-1.given)) x
    (record { memory = omega (arith, c.well_formed); serial = omega (arith, c.well_formed); peak = omega (arith, c.well_formed); parallel = omega (arith, c.well_formed); stretch = omega (arith, c.well_formed) })
    _ _ _ _ _ _ _ _ _ _ _ _ c.put_labelled-at.ensures c.put_labelled-at-2.ensures c.put_labelled-at-3.ensures c.put_labelled-at-4.ensures c.put_labelled-at-5.ensures c.put_word.ensures in record { value = both.0; out_after = both.1.0; upper_bound = both.1.1 }
