-- `peak_walk::rows::row_value` meets its contract.
use Rattle.std.proofs.Common.{refl, ◌≡◌, ℕ, suc, ◌+◌, ◌-◌, ◌*◌, ◌%◌, ◌^◌, max, List, get_or, ap, ◌∙◌, arith, rules}
use Rattle.peak_walk.specs.Code.Walk.{slot, cut, row_value}
use Rattle.peak_walk.proofs.row.row_value.Goals as goal

module _ (peaks finals rows : List ℕ) (r c d j a b over : ℕ) (e : a ≡ get_or finals c 0) (f : b ≡ get_or rows (17 * d + j) 0) (o : over ≡ (a + b) % 2 ^ 64) where
  at_zero : j ≡ 0 → over ≡ row_value peaks finals r c d rows j
  unfolding row_value
  at_zero z = rw z (rw (e, f, z) at o)

  above : (j ≡ 0 → ⊥) → (x y u v : ℕ) → x ≡ get_or peaks (17 * c + (r - (j - 1))) 0 → y ≡ get_or rows (17 * d + (j - 1)) 0 → u ≡ (x + y) % 2 ^ 64 → v ≡ max over u
      → v ≡ row_value peaks finals r c d rows j
  unfolding row_value
  above n x y u v p q s m =
      let z : j ≡ suc (j - 1) = omega (arith, n) in
      let g : over ≡ cut (get_or finals c 0 + get_or rows (slot d (suc (j - 1))) 0) = (rw (e, f) at o) ∙ ap (λ (i : ℕ). cut (get_or finals c 0 + get_or rows (slot d i) 0)) z in
      m ∙ rw (g, rw (p, q) at s) (ap (row_value peaks finals r c d rows) (suc_back z))
    where
      suc_back : j ≡ suc (j - 1) → suc (j - 1) ≡ j
      suc_back z = omega (arith, z)

pub returns-then-j-eq0 : goal.returns-then-j-eq0
returns-then-j-eq0 c =
    let g = c.args in
    at_zero g.peaks.now g.finals.now g.rows.now g.r g.c g.d g.j c.number.result c.number-2.result _
    c.number.ensures c.number-2.ensures refl c.if-j-eq0.true

pub returns : goal.returns
returns c =
    let g = c.args in
    above g.peaks.now g.finals.now g.rows.now g.r g.c g.d g.j c.number.result c.number-2.result _
    c.number.ensures c.number-2.ensures refl c.if-j-eq0.false c.number-unended.result c.number-3.result _ c.max.result
    c.number-unended.ensures c.number-3.ensures refl c.max.ensures
