-- Sums, greatest elements, choices by a test, and a number with its bound: the few words of arithmetic that the other definitions are written in.
use Rattle.std.specs.Prelude.{◌≡◌, ℕ, zero, suc, ◌+◌, ◌<◌, max, List, [], ◌∷◌, Bool, true, false}

-- the first where the test holds, else the second
abbrev pub pick {ℓ} : {A : Type ℓ} → Bool → A → A → A
pick true a b = a
pick false a b = b

-- f 0 + f 1 + .. + f (k - 1)
unfoldable pub sum_to : (ℕ → ℕ) → ℕ → ℕ
sum_to f zero = 0
sum_to f (suc k) = sum_to f k + f k

-- the sum of f over a list
unfoldable pub sum_over : (ℕ → ℕ) → List ℕ → ℕ
sum_over f [] = 0
sum_over f (x ∷ l) = f x + sum_over f l

-- the greatest of f over a list, 0 where the list is empty
unfoldable pub greatest {ℓ} : {A : Type ℓ} → (A → ℕ) → List A → ℕ
greatest f [] = 0
greatest f (x ∷ l) = max (f x) (greatest f l)

-- some number below k passes the test
unfoldable pub any_below : (ℕ → Bool) → ℕ → Bool
any_below f zero = false
any_below f (suc k) = pick (f k) true (any_below f k)

-- the greatest of f 0 .. f (k - 1), 0 where k is 0
unfoldable pub greatest_to : (ℕ → ℕ) → ℕ → ℕ
greatest_to f zero = 0
greatest_to f (suc k) = max (greatest_to f k) (f k)

-- a number r that is x, and below a bound
pub record Read (x bound r : ℕ) : Type 0 where
  pub value : r ≡ x
  pub small : r < bound
