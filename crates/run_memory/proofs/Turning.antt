-- Rounds go through the workers as the count of turns does, modulo p.
use mathlib.Core.Path.{◌≡◌, sym, ap, ◌∙◌}
use Prim.Native.Nat.{ℕ, ◌+◌, ◌%◌, ◌<◌}
use native.Mathlib.Nat.{mod-lt, mod_self, mod-eq_of_lt, suc-mod}
use native.Mathlib.Numerals.{add-one}
use native.Mathlib.Omega.{arith}
use native.Mathlib.Decide.{dec_lt}
use borrow.Author.Tests.{lt-ltb, le-ltb}
use lib.Dec.{ltb}
use Rattle.table.specs.Sum.{pick}

pub in_turn : (p i : ℕ) {w : ℕ} → 0 < p → w ≡ i % p → pick (ltb (w + 1) p) (w + 1) 0 ≡ (i + 1) % p
in_turn p i {w} h e = go (dec_lt (w + 1) p)
  where
    small : w < p
    small = rw e (mod-lt i h)

    next : (i + 1) % p ≡ (w + 1) % p
    next = rw (add-one, suc-mod i p, ← e, add-one)

    go : Dec (w + 1 < p) → pick (ltb (w + 1) p) (w + 1) 0 ≡ (i + 1) % p
    go (yes l) = rw (lt-ltb (w + 1) p l) (sym (next ∙ mod-eq_of_lt l))
    go (no l) =
        let q : w + 1 ≡ p = omega (arith, small) in
        rw (le-ltb (w + 1) p (omega arith)) (sym (next ∙ ap (λ (x : ℕ). x % p) q ∙ mod_self p))
