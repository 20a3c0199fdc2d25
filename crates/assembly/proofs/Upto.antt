-- A number of 24 bits, read with its bound, is the number that a text's line says.
use Prim.Native.Nat.{ℕ, ◌+◌, ◌-◌, ◌*◌, ◌≤◌, ◌<◌, min}
use native.Mathlib.Omega.{arith}
use mathlib.Core.Path.{◌≡◌, refl}
use mathlib.Core.List.{List, [], ◌∷◌}
use mathlib.Core.Bool.{Bool, true, false, ◌&&◌}
use borrow.Author.Tests.{ne_eqb, leb-true, leb-false}
use lib.Dec.{eqb, leb}
use Rattle.std.specs.Prelude.{None, Option, Some}
use Rattle.table.specs.Sum.{pick}
use Rattle.assembly.specs.Words.{no_number, is_digit, value_from, zero_led, number_in}
use Rattle.assembly.specs.Upto.{value_from as value_upto, number_in as number_upto}
use Rattle.assembly.proofs.Exact.{none_stays}

-- the number that a word has, none where it has none
abbrev pub given : ℕ → Option ℕ
given x = pick (eqb x no_number) None (Some x)

pub given_none : (x : ℕ) → given x ≡ None → eqb x no_number ≡ true
given_none x q = go (eqb x no_number) q
  where
    go : (t : Bool) → pick {A = Option ℕ} t None (Some x) ≡ None → t ≡ true
    go true e = refl
    go false e = absurd (let z : ◌≡◌ {A = ℕ} 0 1 = cc in omega arith)

pub given_some : (x y : ℕ) → given x ≡ Some y → (eqb x no_number ≡ false) × (x ≡ y)
given_some x y q = go (eqb x no_number) q
  where
    go : (t : Bool) → pick {A = Option ℕ} t None (Some x) ≡ Some y → (t ≡ false) × (x ≡ y)
    go true e = absurd (let z : ◌≡◌ {A = ℕ} 0 1 = cc in omega arith)
    go false e = let z : x ≡ y = cc in (refl, z)

value_given : (w : List ℕ) (v : ℕ) → v < no_number → value_upto 16777215 v w ≡ given (value_from v w)
unfolding value_upto value_from
value_given [] v h = rw (ne_eqb v no_number (λ e. omega (arith, e)))
value_given (b ∷ w) v h = go (is_digit b) (leb (10 * v + (b - 48)) 16777215) refl (value_given w (10 * v + (b - 48)))
  where
    go : (s t : Bool) → leb (10 * v + (b - 48)) 16777215 ≡ t → (10 * v + (b - 48) < no_number → value_upto 16777215 (10 * v + (b - 48)) w ≡ given (value_from (10 * v + (b - 48)) w))
        → pick (s && t) (value_upto 16777215 (10 * v + (b - 48)) w) None ≡ given (value_from (pick s (min no_number (10 * v + (b - 48))) no_number) w)
    go false t f ih = rw (none_stays w)
    go true true f ih =
        let l : 10 * v + (b - 48) ≤ 16777215 = leb-true (10 * v + (b - 48)) 16777215 f in
        let m : min no_number (10 * v + (b - 48)) ≡ 10 * v + (b - 48) = omega arith in
        rw m (ih (omega arith))
    go true false f ih =
        let l : 16777215 < 10 * v + (b - 48) = leb-false (10 * v + (b - 48)) 16777215 f in
        let m : min no_number (10 * v + (b - 48)) ≡ no_number = omega arith in
        rw (m, none_stays w)

pub number_given : (w : List ℕ) → number_upto 16777215 w ≡ given (number_in w)
unfolding number_upto number_in
number_given w = go (zero_led w)
  where
    go : (t : Bool) → pick t None (value_upto 16777215 0 w) ≡ given (pick t no_number (value_from 0 w))
    go true = refl
    go false = value_given w 0 (omega arith)
