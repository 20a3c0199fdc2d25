-- A number that is right-aligned in a width has exactly that width, and is read back from it.
use Prim.Native.Nat.{ℕ, zero, suc, ◌+◌, ◌-◌, ◌*◌, ◌/◌, ◌%◌, ◌^◌, ◌<◌}
use native.Mathlib.Nat.{pow-suc}
use native.Mathlib.Omega.{arith}
use mathlib.Core.Path.{◌≡◌, refl, ap, ◌∙◌}
use mathlib.Core.List.{List, [], ◌∷◌, ◌++◌, append-nil, append_assoc, flatten}
use mathlib.Core.Bool.{Bool, true, false}
use borrow.Author.Tests.{ltb-true, ltb-false, ne_eqb}
use lib.Dec.{ltb, eqb}
use lib.ListN.{length, get_or, replicate, length-append, length-replicate}
use lib.Seq.{get_or_at}
use Rattle.table.specs.Sum.{pick}
use Rattle.text.specs.Text.{digit, digits_of, decimal}
use Rattle.text.proofs.Decimal.{decimal_digit, decimal_more, decimal_length}
use Rattle.chart.specs.Chart.{right_texts, number_from, number_in}

-- blanks and digits as one text
abbrev pub right : ℕ → ℕ → List ℕ
right width n = replicate (width - length (decimal n)) 32 ++ decimal n

pub right_text : (width n : ℕ) → flatten (right_texts width n) ≡ right width n
unfolding right_texts flatten
right_text width n = ap (λ (l : List ℕ). replicate (width - length (decimal n)) 32 ++ l) (append-nil (decimal n))

pub right_length : (k n : ℕ) → n < 10 ^ suc k → length (right (suc k) n) ≡ suc k
right_length k n h = simp (length-append, length-replicate) (omega (arith, decimal_length k n h))

-- ---- the number

from_append : (n : ℕ) (s t : List ℕ) → number_from n (s ++ t) ≡ number_from (number_from n s) t
unfolding number_from
from_append n [] t = refl
from_append n (x ∷ s) t = from_append (pick (eqb x 32) n (10 * n + (x - 48))) s t

from_blanks : (n k : ℕ) → number_from n (replicate k 32) ≡ n
unfolding number_from
from_blanks n zero = refl
from_blanks n (suc k) = from_blanks n k

from_digit : (n d : ℕ) → d < 10 → number_from n (digit d ∷ []) ≡ 10 * n + d
unfolding number_from
from_digit n d h =
    let e : digit d - 48 ≡ d = omega arith in
    rw (ne_eqb (digit d) 32 (λ q. omega (arith, q)), e)

number_decimal : (k n : ℕ) → n < 10 ^ suc k → number_in (decimal n) ≡ n
number_decimal zero n h = rw (decimal_digit n h) (from_digit 0 n h ∙ omega arith)
number_decimal (suc k) n h = go (ltb n 10) refl (number_decimal k (n / 10) (omega (arith, pow-suc 10 (suc k))))
  where
    go : (t : Bool) → ltb n 10 ≡ t → number_in (decimal (n / 10)) ≡ n / 10 → number_in (decimal n) ≡ n
    go true e l = rw (decimal_digit n (ltb-true n 10 e)) (from_digit 0 n (ltb-true n 10 e) ∙ omega arith)
    go false e l =
        rw (decimal_more n (ltb-false n 10 e), from_append 0 (decimal (n / 10)) (digit (n % 10) ∷ []), l)
        (from_digit (n / 10) (n % 10) (omega arith) ∙ omega arith)

pub number_right : (k width n : ℕ) → n < 10 ^ suc k → number_in (right width n) ≡ n
number_right k width n h =
    rw (from_append 0 (replicate (width - length (decimal n)) 32) (decimal n), from_blanks 0 (width - length (decimal n))) (number_decimal k n h)

-- ---- its last column

pub right_last : (k n : ℕ) → n < 10 ^ suc k → get_or (right (suc k) n) k 0 ≡ digit (n % 10)
unfolding decimal
right_last k n h =
    let front : List ℕ = replicate (suc k - length (decimal n)) 32 ++ digits_of n (n / 10) in
    let e : front ++ (digit (n % 10) ∷ []) ≡ right (suc k) n = append_assoc (replicate (suc k - length (decimal n)) 32) (digits_of n (n / 10)) (digit (n % 10) ∷ []) in
    rw (← e) (get_or_at front (digit (n % 10)) [] 0 k (omega (arith, right_length k n h, ap length e, length-append front (digit (n % 10) ∷ []))))
