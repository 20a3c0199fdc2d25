-- A number in decimal: its equations without the steps, its length, and that it is what `io::decimal` spells.
use Prim.Native.Nat.{ℕ, zero, suc, ◌-◌, ◌*◌, ◌/◌, ◌%◌, ◌^◌, ◌≤◌, ◌<◌}
use native.Mathlib.Nat.{pow-suc, one-le-pow}
use native.Mathlib.Omega.{arith}
use mathlib.Core.Path.{◌≡◌, refl, ap}
use mathlib.Core.List.{List, [], ◌∷◌, ◌++◌}
use mathlib.Core.Bool.{Bool, true, false}
use borrow.Author.Tests.{ltb-true, ltb-false, lt-ltb}
use lib.Dec.{ltb}
use lib.ListN.{length, length-append}
use Rattle.io.specs.Digits.{last_digits, IsDigitCount}
use Rattle.text.specs.Text.{digit, digits_of, decimal}

-- as many steps as the number are enough
enough : (k j n : ℕ) → n ≤ k → n ≤ j → digits_of k n ≡ digits_of j n
unfolding digits_of
enough zero zero n h g = refl
enough zero (suc j) zero h g = refl
enough zero (suc j) (suc m) h g = absurd (omega arith)
enough (suc k) zero zero h g = refl
enough (suc k) zero (suc m) h g = absurd (omega arith)
enough (suc k) (suc j) zero h g = refl
enough (suc k) (suc j) (suc m) h g =
    ap (λ (l : List ℕ). l ++ (digit (suc m % 10) ∷ [])) (enough k j (suc m / 10) (omega arith) (omega arith))

pub decimal_digit : (n : ℕ) → n < 10 → decimal n ≡ digit n ∷ []
unfolding decimal digits_of
decimal_digit n h =
    let q : n / 10 ≡ 0 = omega arith in
    let r : n % 10 ≡ n = omega arith in
    rw (q, enough n 0 0 (omega arith) (omega arith), r)

-- the digits before the last one, where there are any
front : (k q : ℕ) → 0 < q → q ≤ k → digits_of k q ≡ decimal q
unfolding digits_of decimal
front zero q h g = absurd (omega arith)
front (suc k) zero h g = absurd (omega arith)
front (suc k) (suc m) h g =
    ap (λ (l : List ℕ). l ++ (digit (suc m % 10) ∷ [])) (enough k (suc m) (suc m / 10) (omega arith) (omega arith))

pub decimal_more : (n : ℕ) → 10 ≤ n → decimal n ≡ decimal (n / 10) ++ (digit (n % 10) ∷ [])
unfolding decimal
decimal_more n h = ap (λ (l : List ℕ). l ++ (digit (n % 10) ∷ [])) (front n (n / 10) (omega arith) (omega arith))

-- a number that suc k digits hold has no more
pub decimal_length : (k n : ℕ) → n < 10 ^ suc k → length (decimal n) ≤ suc k
decimal_length zero n h = rw (decimal_digit n h) (omega arith)
decimal_length (suc k) n h = go (ltb n 10) refl (decimal_length k (n / 10) (omega (arith, pow-suc 10 (suc k))))
  where
    go : (t : Bool) → ltb n 10 ≡ t → length (decimal (n / 10)) ≤ suc k → length (decimal n) ≤ suc (suc k)
    go true e l = rw (decimal_digit n (ltb-true n 10 e)) (omega arith)
    go false e l = rw (decimal_more n (ltb-false n 10 e), length-append) (omega arith)

-- the last suc k digits of a number that has so many are all of it
spelled : (k n : ℕ) → n < 10 ^ suc k → (0 < k → 10 ^ k ≤ n) → last_digits 10 (suc k) n ≡ decimal n
spelled zero n h g =
    let r : n % 10 ≡ n = omega arith in
    rw (decimal_digit n h, lt-ltb (n % 10) 10 (omega arith), r)
spelled (suc k) n h g =
    let more : 10 ^ suc k ≤ n = g (omega arith) in
    let p : 10 ^ suc k ≡ 10 ^ k * 10 = pow-suc 10 k in
    let some : 1 ≤ 10 ^ k = one-le-pow k 10 (omega arith) in
    rw (decimal_more n (omega arith), ← spelled k (n / 10) (omega (arith, pow-suc 10 (suc k))) (λ _. omega arith), lt-ltb (n % 10) 10 (omega arith))

-- `io::decimal` spells a number by its fewest digits, of which there are all
pub decimal_spelled : (k n : ℕ) → IsDigitCount 10 1 n k → last_digits 10 k n ≡ decimal n
decimal_spelled zero n h = absurd (omega arith)
decimal_spelled (suc k) n h =
    let e : suc k - 1 ≡ k = omega arith in
    spelled k n h.1 (λ more. rw e at (h.2 (omega arith)))
