-- A loop that asks a test of each number below a bound and stops at the first that fails it: what is known while all have passed, and what the answer is.
use mathlib.Core.Path.{◌≡◌, refl, sym, ◌∙◌}
use mathlib.Core.Logic.{inl, inr}
use Prim.Native.Nat.{ℕ, ◌+◌, ◌≤◌, ◌<◌}
use mathlib.Core.Bool.{Bool, true, false, not, ◌||◌, beq}
use native.Mathlib.Numerals.{add-one}
use native.Mathlib.Omega.{arith}
use lib.Dec.{ltb}
use borrow.Author.Tests.{not-true, not-false, lt-ltb, le-ltb}
use Rattle.order.specs.Words.{agree, all_below}
use Rattle.order.proofs.Words.{all_below_exactly, and_exactly, or_exactly, never_true, not_both}
pub use Rattle.order.proofs.Words.{same_truth}

pub beq_agree : (s t : Bool) → beq s t ≡ agree s t
beq_agree true true = refl
beq_agree true false = refl
beq_agree false true = refl
beq_agree false false = refl

module _ (f : ℕ → Bool) (t : ℕ) where
  all_more : all_below f t ≡ true → f t ≡ true → all_below f (t + 1) ≡ true
  unfolding all_below
  all_more h e = rw add-one ((and_exactly (all_below f t) (f t)).1 (h, e))

  pub all_fails : (k : ℕ) → t < k → f t ≡ false → false ≡ all_below f k
  all_fails k h e = sym (never_true _ (λ q. not_both (f t) ((all_below_exactly f k).0 q t h) e))

  all_pass : (k : ℕ) → k ≤ t → all_below f t ≡ true → true ≡ all_below f k
  all_pass k h e = sym ((all_below_exactly f k).1 (λ i l. (all_below_exactly f t).0 e i (omega arith)))

pub all_cong : (f g : ℕ → Bool) (k : ℕ) → ((i : ℕ) → i < k → f i ≡ g i) → all_below f k ≡ all_below g k
all_cong f g k h =
    same_truth (all_below f k) (all_below g k)
    (λ e. (all_below_exactly g k).1 (λ i l. rw (← (h i l)) ((all_below_exactly f k).0 e i l)))
    (λ e. (all_below_exactly f k).1 (λ i l. rw (h i l) ((all_below_exactly g k).0 e i l)))

-- ---- a loop that begins at 0

-- the numbers below t pass
pub record Passed (f : ℕ → Bool) (t : ℕ) : Type 0 where
  pub all : all_below f t ≡ true

pub passed_none : {f : ℕ → Bool} → Passed f 0
unfolding all_below
passed_none = record { all = refl }

module _ {f : ℕ → Bool} {t : ℕ} (p : Passed f t) where
  pub passed_more : f t ≡ true → Passed f (t + 1)
  passed_more e = record { all = all_more f t p.all e }

  pub passed_fails : {n : ℕ} → t < n → f t ≡ false → false ≡ all_below f n
  passed_fails {n} h e = all_fails f t n h e

  -- by what the test r at t says
  pub passed_next : {r : Bool} → r ≡ f t → not r ≡ false → Passed f (t + 1)
  passed_next {r} e d = passed_more (sym e ∙ not-false r d)

  pub passed_stop : {n : ℕ} {r : Bool} → t < n → r ≡ f t → not r ≡ true → false ≡ all_below f n
  passed_stop {n} {r} h e d = passed_fails h (sym e ∙ not-true r d)

  pub passed_all : {n : ℕ} → n ≤ t → true ≡ all_below f n
  passed_all {n} h = all_pass f t n h p.all

-- ---- a loop that begins at n

-- t is below n, or passes
abbrev pub from_on : ℕ → (ℕ → Bool) → ℕ → Bool
from_on n f t = ltb t n || f t

-- the numbers from n on and below t pass
pub record PassedFrom (n : ℕ) (f : ℕ → Bool) (t : ℕ) : Type 0 where
  pub from : n ≤ t
  pub all : Passed (from_on n f) t

pub from_none : (n : ℕ) (f : ℕ → Bool) → PassedFrom n f n
from_none n f =
    record { from = omega arith; all = record { all = (all_below_exactly (from_on n f) n).1 (λ i h. (or_exactly (ltb i n) (f i)).1 (inl (lt-ltb i n h))) } }

module _ {n : ℕ} {f : ℕ → Bool} {t : ℕ} (p : PassedFrom n f t) where
  pub from_more : f t ≡ true → PassedFrom n f (t + 1)
  from_more e =
      record { from = omega (arith, p.from); all = passed_more p.all ((or_exactly (ltb t n) (f t)).1 (inr e)) }

  pub from_fails : {k : ℕ} → t < k → f t ≡ false → false ≡ all_below (from_on n f) k
  from_fails h e = passed_fails p.all h (rw (le-ltb t n p.from, e))

  pub from_all : {k : ℕ} → k ≤ t → true ≡ all_below (from_on n f) k
  from_all h = passed_all p.all h
