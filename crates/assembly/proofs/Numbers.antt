-- A number in decimal is read back, and its bytes are digits.
use Prim.Native.Nat.{ℕ, zero, suc, ◌+◌, ◌*◌, ◌/◌, ◌%◌, ◌^◌, ◌≤◌, ◌<◌}
use native.Mathlib.Nat.{pow-suc}
use native.Mathlib.Omega.{arith}
use mathlib.Core.Path.{◌≡◌, refl, ◌∙◌}
use mathlib.Core.List.{List, [], ◌∷◌, ◌++◌}
use mathlib.Core.Bool.{Bool, true, false, ◌&&◌}
use borrow.Author.Tests.{ltb-true, ltb-false, le-leb, ne_eqb}
use lib.Dec.{ltb}
use lib.ListN.{length, get_or, length-append, get_or-append}
use Rattle.text.specs.Text.{digit, digits_of, decimal}
use Rattle.text.proofs.Decimal.{decimal_digit, decimal_more}
use Rattle.assembly.specs.Words.{no_number, next_value, value_from, zero_led, number_in}

-- ---- each byte of a list passes a test

abbrev pub Each : (ℕ → Bool) → List ℕ → Type 0
Each p [] = Unit {0}
Each p (b ∷ s) = (p b ≡ true) × Each p s

pub each_append : (p : ℕ → Bool) (s t : List ℕ) → Each p s → Each p t → Each p (s ++ t)
each_append p [] t a b = b
each_append p (x ∷ s) t a b = (a.0, each_append p s t a.1 b)

-- ---- a number's digits

pub decimal_some : (n : ℕ) → 0 < length (decimal n)
unfolding decimal
decimal_some n = rw (length-append (digits_of n (n / 10)) (digit (n % 10) ∷ [])) (omega arith)

module _ (p : ℕ → Bool) (h : (d : ℕ) → d < 10 → p (digit d) ≡ true) where
  pub decimal_each : (k n : ℕ) → n < 10 ^ suc k → Each p (decimal n)
  decimal_each zero n l = rw (decimal_digit n l) (h n l, tt)
  decimal_each (suc k) n l = go (ltb n 10) refl (decimal_each k (n / 10) (omega (arith, pow-suc 10 (suc k))))
    where
      go : (t : Bool) → ltb n 10 ≡ t → Each p (decimal (n / 10)) → Each p (decimal n)
      go true e r = rw (decimal_digit n (ltb-true n 10 e)) (h n (ltb-true n 10 e), tt)
      go false e r = rw (decimal_more n (ltb-false n 10 e)) (each_append p (decimal (n / 10)) (digit (n % 10) ∷ []) r (h (n % 10) (omega arith), tt))

-- ---- read back

value_append : (v : ℕ) (s t : List ℕ) → value_from v (s ++ t) ≡ value_from (value_from v s) t
unfolding value_from
value_append v [] t = refl
value_append v (b ∷ s) t = value_append (next_value v b) s t

value_digit : (v d : ℕ) → d < 10 → 10 * v + d < no_number → value_from v (digit d ∷ []) ≡ 10 * v + d
unfolding value_from
value_digit v d h l =
    rw (le-leb 48 (digit d) (omega arith), le-leb (digit d) 57 (omega arith)) (omega arith)

value_decimal : (k n : ℕ) → n < 10 ^ suc k → n < no_number → value_from 0 (decimal n) ≡ n
value_decimal zero n h l = rw (decimal_digit n h) (value_digit 0 n h (omega arith) ∙ omega arith)
value_decimal (suc k) n h l = go (ltb n 10) refl (value_decimal k (n / 10) (omega (arith, pow-suc 10 (suc k))) (omega arith))
  where
    go : (t : Bool) → ltb n 10 ≡ t → value_from 0 (decimal (n / 10)) ≡ n / 10 → value_from 0 (decimal n) ≡ n
    go true e r = rw (decimal_digit n (ltb-true n 10 e)) (value_digit 0 n (ltb-true n 10 e) (omega arith) ∙ omega arith)
    go false e r =
        rw (decimal_more n (ltb-false n 10 e), value_append 0 (decimal (n / 10)) (digit (n % 10) ∷ []), r)
        (value_digit (n / 10) (n % 10) (omega arith) (omega arith) ∙ omega arith)

-- the first digit of a number that is not 0
leads : (k n : ℕ) → n < 10 ^ suc k → 0 < n → get_or (decimal n) 0 0 ≡ 48 → ⊥
leads zero n h p = rw (decimal_digit n h) (λ q. omega (arith, q))
leads (suc k) n h p = go (ltb n 10) refl (leads k (n / 10) (omega (arith, pow-suc 10 (suc k))))
  where
    go : (t : Bool) → ltb n 10 ≡ t → (0 < n / 10 → get_or (decimal (n / 10)) 0 0 ≡ 48 → ⊥) → get_or (decimal n) 0 0 ≡ 48 → ⊥
    go true e r = rw (decimal_digit n (ltb-true n 10 e)) (λ q. omega (arith, q))
    go false e r =
        let m : 10 ≤ n = ltb-false n 10 e in
        rw (decimal_more n m, get_or-append (decimal (n / 10)) (digit (n % 10) ∷ []) 0 0 (decimal_some (n / 10))) (r (omega arith))

and-false : (b : Bool) → (b && false) ≡ false
and-false true = refl
and-false false = refl

not_led : (k n : ℕ) → n < 10 ^ suc k → zero_led (decimal n) ≡ false
not_led k n h = go (ltb n 10) refl
  where
    go : (t : Bool) → ltb n 10 ≡ t → zero_led (decimal n) ≡ false
    go true e = rw (decimal_digit n (ltb-true n 10 e))
    go false e = rw (ne_eqb (get_or (decimal n) 0 0) 48 (leads k n h (omega (arith, ltb-false n 10 e)))) (and-false (ltb 1 (length (decimal n))))

-- eight digits hold 24 bits
pub number_decimal : (n : ℕ) → n < no_number → number_in (decimal n) ≡ n
unfolding number_in
number_decimal n h = rw (not_led 7 n (omega arith)) (value_decimal 7 n (omega arith) h)
