-- The least number that passes a test, against the least place at which a check applies.
use Rattle.std.specs.Prelude.{Err, Ok, Result, None, Some, Option, ⊤}
use Rattle.table.specs.declared.Refusal.{Refusal}
use mathlib.Core.Path.{◌≡◌, refl, sym, ap, ◌∙◌}
use Prim.Native.Nat.{ℕ, zero, suc, ◌+◌, ◌<◌}
use mathlib.Core.List.{[], ◌∷◌}
use mathlib.Core.Bool.{Bool, true, false}
use native.Mathlib.Numerals.{add-one}
use native.Mathlib.Omega.{arith}
use Rattle.table.specs.Sum.{pick}
use Rattle.table.specs.Pass.{Check, or_else, refusal, try_at, try_from}
use Rattle.table.proofs.Trying.{or_else_last, try_from_split}
use Rattle.checks.specs.Code.Steps.{first_next, first_that}

pub first_cong : (f g : ℕ → Bool) (k : ℕ) → ((i : ℕ) → i < k → f i ≡ g i) → first_that f k ≡ first_that g k
unfolding first_that
first_cong f g zero h = refl
first_cong f g (suc k) h = rw (first_cong f g k (λ i l. h i (omega arith)), h k (omega arith))

pub first_below : (f : ℕ → Bool) (k i : ℕ) → first_that f k ≡ Some i → i < k
unfolding first_that
first_below f zero i e = let z : ◌≡◌ {A = ℕ} 0 1 = cc in absurd (omega arith)
first_below f (suc k) i e = go (first_below f k i) (first_that f k) refl (f k) e
  where
    go : (first_that f k ≡ Some i → i < k) → (r : Option ℕ) → first_that f k ≡ r → (t : Bool) → first_next r t k ≡ Some i → i < suc k
    go b (Some j) d t w = let q : j ≡ i = cc in let l : i < k = b (rw q at d) in omega arith
    go b None d true w = let q : k ≡ i = cc in omega arith
    go b None d false w = let z : ◌≡◌ {A = ℕ} 0 1 = cc in absurd (omega arith)

-- what a check says at a place, if there is one
abbrev pub says : ℕ → ℕ → Option ℕ → Result ⊤ Refusal
says number from None = Ok tt
says number from (Some i) = Err (refusal number (from + i))

abbrev pub says_at : ℕ → Option ℕ → Result ⊤ Refusal
says_at number None = Ok tt
says_at number (Some i) = Err (refusal number i)

-- one place more
place_more : (c : Check) (from k : ℕ)
    → try_from (c ∷ []) from (suc k) ≡ or_else (try_from (c ∷ []) from k) (pick (c.applies (from + k)) (Err (refusal c.number (from + k))) (Ok tt))
unfolding try_from try_at
place_more c from k =
    ap (try_from (c ∷ []) from) (sym (add-one k))
    ∙ try_from_split (c ∷ []) from k 1
    ∙ ap (or_else (try_from (c ∷ []) from k)) (or_else_last _)

first_more : (number from k : ℕ) (r : Option ℕ) (t : Bool)
    → or_else (says number from r) (pick t (Err (refusal number (from + k))) (Ok tt)) ≡ says number from (first_next r t k)
first_more number from k None true = refl
first_more number from k None false = refl
first_more number from k (Some i) t = refl

-- what one check finds among k places is at the least that passes its test
pub first_found_at : (c : Check) (from k : ℕ) → try_from (c ∷ []) from k ≡ says c.number from (first_that (λ i. c.applies (from + i)) k)
unfolding first_that try_from
first_found_at c from zero = refl
first_found_at c from (suc k) =
    place_more c from k
    ∙ ap (λ (g : Result ⊤ Refusal). or_else g (pick (c.applies (from + k)) (Err (refusal c.number (from + k))) (Ok tt))) (first_found_at c from k)
    ∙ first_more c.number from k (first_that (λ i. c.applies (from + i)) k) (c.applies (from + k))
