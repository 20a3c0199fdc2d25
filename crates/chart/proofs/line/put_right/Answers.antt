-- `chart::line::put_right` meets its contract: as many blanks as the digits leave of the width, then the digits.
use Prim.Native.Nat.{ℕ, ◌-◌, ◌^◌, ◌≤◌, ◌<◌}
use native.Mathlib.Omega.{arith}
use mathlib.Core.Path.{◌≡◌, sym, ap, ◌∙◌}
use mathlib.Core.List.{List, [], ◌++◌}
use lib.ListN.{length, take, drop, replicate, length-append}
use lib.Seq.{take_at, length-take-le}
use Rattle.text.specs.Text.{decimal, buffer_at, placed, placed_next}
use Rattle.text.proofs.Decimal.{decimal_length}
use Rattle.text.proofs.Placing.{line_put}
use Rattle.text.specs.Puts.{put_all}
use Rattle.chart.specs.Chart.{right_texts}
use Rattle.chart.proofs.Putting.{blanks_take}
use Rattle.chart.proofs.line.put_right.Goals.{After-put_number-k}
use Rattle.chart.proofs.line.put_right.Goals as goal

-- the digits, spelled at the of a buffer of their own
module _ (n k : ℕ) (o : List ℕ) (h : n < 2 ^ 64) (e : buffer_at o k ≡ placed (replicate 20 0) 0 (decimal n)) where
  spelled : (k ≡ length (decimal n)) × (o ≡ decimal n ++ drop k (replicate 20 0))
  spelled = line_put (replicate 20 0) o k (decimal n) [] (decimal_length 19 n (omega arith)) e

  within : k ≤ length o
  within = omega (arith, spelled.0, simp length-append at (ap length spelled.1))

  digits : take k o ≡ decimal n
  digits = rw spelled.1 (take_at (decimal n) (drop k (replicate 20 0)) k (sym spelled.0))

  aligned : (s : List ℕ) (at : ℕ) {o₁ o₂ : List ℕ} {r₁ r₂ : ℕ} (width pad : ℕ) → width ≤ 14 → pad ≡ width - k → buffer_at o₁ r₁ ≡ placed s at (take pad (replicate 14 32))
      → buffer_at o₂ r₂ ≡ placed o₁ r₁ (take k o) → buffer_at o₂ r₂ ≡ put_all (buffer_at s at) (right_texts width n)
  unfolding right_texts
  aligned s at {o₁} {r₁ = r₁} width pad w q e₁ e₂ =
      let z : pad ≡ width - length (decimal n) = q ∙ ap (λ (j : ℕ). width - j) spelled.0 in
      let a : ◌≡◌ {A = List ℕ} (take pad (replicate 14 32)) (replicate (width - length (decimal n)) 32) = blanks_take pad 14 32 (omega arith) ∙ ap (λ (j : ℕ). replicate {A = ℕ} j 32) z in
      let b : buffer_at o₁ r₁ ≡ placed s at (replicate (width - length (decimal n)) 32) = e₁ ∙ ap (placed s at) a in
      e₂ ∙ (λ i. placed_next (b i) (digits i))

bounded : (c : After-put_number-k) → c.args.n < 2 ^ 64
bounded c = omega (arith, c.well_formed)

fits : (c : After-put_number-k) → c.put_number-k.result ≤ length c.put_number-k.new.out
fits c = within c.args.n _ _ (bounded c) c.put_number-k.ensures

pub slice_bounds-put_word-end : goal.slice_bounds-put_word-end
slice_bounds-put_word-end c = sym (length-take-le c.saturating_sub-pad.result (replicate 14 32) (omega (arith, c.saturating_sub-pad.ensures, c.requires)))

pub slice_bounds-digits-end : goal.slice_bounds-digits-end
slice_bounds-digits-end c = fits (goal.at.slice_bounds-digits-end c).After-put_number-k

pub slice_bounds-put_word-end-2 : goal.slice_bounds-put_word-end-2
slice_bounds-put_word-end-2 c =
    sym (length-take-le c.put_number-k.result _ (fits (goal.at.slice_bounds-put_word-end-2 c).After-put_number-k))

pub returns : goal.returns
returns c =
    aligned c.args.n _ _ (bounded (goal.at.returns c).After-put_number-k) c.put_number-k.ensures c.args.out.now c.args.at c.args.width c.saturating_sub-pad.result c.requires c.saturating_sub-pad.ensures c.put_word-at.ensures c.put_word.ensures
