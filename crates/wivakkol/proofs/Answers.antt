-- The numbers of each case of an answer are those of the paper's values; and 17 workers are refused as any higher number is.
use Rattle.std.specs.Prelude.{Err, Ok, Result, ⊤}
use mathlib.Core.Path.{◌≡◌, refl, ap, ◌∙◌}
use Prim.Native.Nat.{ℕ, min, ◌≤◌, ◌<◌}
use native.Mathlib.Decide.{dec_lt}
use native.Mathlib.Nat.{min-eq_left, min-eq_right}
use native.Mathlib.Omega.{arith}
use mathlib.Core.Logic.{by_cases}
use mathlib.Core.List.{List, [], ◌∷◌}
use borrow.Author.Tests.{lt-ltb, le-ltb}
use Rattle.table.specs.Format.{table_of}
use Rattle.table.specs.Pass.{or_else, refusal, first_found, try_at, try_from, try_pass}
use Rattle.table.specs.Checks.{passes}
use Rattle.table.specs.Load.{table_values, values_of}
use Rattle.table.specs.declared.Facts.{Facts}
use Rattle.table.specs.declared.Refusal.{Refusal}
use Rattle.quota.specs.Quota.{values_for, quota_values_with, most_quota, quota_passes}
use Rattle.quota.specs.Quota.{values_of as quota_values_of}
use Rattle.quota.proofs.Answers.{found_own}
use Rattle.most.specs.Most.{limit_of, most_found, most_values_of, most_values_with, most_values_for}
use Rattle.table.proofs.Passes.{first_found_append}
use Rattle.schedule.specs.Begin.{begin_passes}
use Rattle.wivakkol.specs.Rows.{facts_row, quota_row, most_row}

-- ---- a table

module _ (s : List ℕ) (x : Result Facts Refusal) (e : values_of x ≡ table_values s) where
  pub accepted_row : (f : Facts) → x ≡ Ok f
      → (0 ≡ (table_values s).number) × ((0 ∷ f.threads ∷ f.actions ∷ f.peak ∷ f.depth ∷ f.nested ∷ []) ≡ facts_row (table_values s))
  accepted_row f g = rw (← e, g) (refl, refl)

  pub refused_row : (r : Refusal) → x ≡ Err r
      → (r.number ≡ (table_values s).number) × ((r.place ∷ 0 ∷ 0 ∷ 0 ∷ 0 ∷ 0 ∷ []) ≡ facts_row (table_values s))
  refused_row r g = rw (← e, g) (refl, refl)

-- ---- more workers than there may be

-- where a check applies, the number behind it is not looked at
unread : {A : Type 0} (g : Result ⊤ Refusal → ℕ → A) → ((r : Refusal) (x y : ℕ) → g (Err r) x ≡ g (Err r) y) → (f : Result ⊤ Refusal) (r : Refusal) (x y : ℕ) → g (or_else f (Err r)) x ≡ g (or_else f (Err r)) y
unread g h (Ok _) r x y = h r x y
unread g h (Err q) r x y = h q x y

-- what a call hands on in place of p
pub as_handed : {A : Type 0} (v : ℕ → A) → ((p : ℕ) → 17 ≤ p → v 17 ≡ v p) → (p : ℕ) → v (min p 17) ≡ v p
as_handed v as_17 p =
    by_cases (dec_lt p 17)
    (λ (h : p < 17). ap v (min-eq_left (omega arith)))
    (λ (h : p < 17 → ⊥). let l : 17 ≤ p = omega arith in ap v (min-eq_right l) ∙ as_17 p l)

module _ (s : List ℕ) (b M : ℕ) where
  -- what the checks find with p above 16
  too_many : (p : ℕ) → 17 ≤ p → first_found (quota_passes s p b M) ≡ or_else (first_found (passes s)) (Err (refusal 20 0))
  unfolding try_pass try_from try_at
  too_many p h = found_own s p b M ∙ rw (le-ltb p 1 (omega arith), lt-ltb 16 p (omega arith))

  as_17 : (p : ℕ) → 17 ≤ p → values_for s 17 b M ≡ values_for s p b M
  unfolding values_for
  as_17 p h =
      rw (too_many p h, too_many 17 (omega arith))
      (unread quota_values_with (λ r x y. refl) (first_found (passes s)) (refusal 20 0) (most_quota (table_of s) 17 b M) (most_quota (table_of s) p b M))

module _ (s : List ℕ) (K : ℕ) where
  most_too_many : (p : ℕ) → 17 ≤ p → most_found s p K ≡ or_else (first_found (passes s)) (Err (refusal 20 0))
  unfolding first_found try_pass try_from try_at
  most_too_many p h = first_found_append (passes s) (begin_passes (table_of s) p K) ∙ rw (le-ltb p 1 (omega arith), lt-ltb 16 p (omega arith))

  most_as_17 : (p : ℕ) → 17 ≤ p → most_values_for s 17 K ≡ most_values_for s p K
  unfolding most_values_for
  most_as_17 p h =
      rw (most_too_many p h, most_too_many 17 (omega arith))
      (unread most_values_with (λ r x y. refl) (first_found (passes s)) (refusal 20 0) (limit_of s 17 K) (limit_of s p K))

-- ---- a quota

module _ (s : List ℕ) (p w b M : ℕ) (x : Result ℕ Refusal) (e : quota_values_of x ≡ values_for s w b M) (h : w ≡ min p 17) where
  abbrev asked : quota_values_of x ≡ values_for s p b M
  asked = e ∙ rw h (as_handed (λ (x : ℕ). values_for s x b M) (as_17 s b M) p)

  pub given_row : (K : ℕ) → x ≡ Ok K → (0 ≡ (values_for s p b M).number) × ((0 ∷ K ∷ []) ≡ quota_row (values_for s p b M))
  given_row K g = rw (← asked, g) (refl, refl)

  pub no_quota_row : (r : Refusal) → x ≡ Err r → (r.number ≡ (values_for s p b M).number) × ((r.place ∷ 0 ∷ []) ≡ quota_row (values_for s p b M))
  no_quota_row r g = rw (← asked, g) (refl, refl)

-- ---- a limit of turns

module _ (s : List ℕ) (p w K : ℕ) (x : Result ℕ Refusal) (e : most_values_of x ≡ most_values_for s w K) (h : w ≡ min p 17) where
  abbrev asked_most : most_values_of x ≡ most_values_for s p K
  asked_most = e ∙ rw h (as_handed (λ (x : ℕ). most_values_for s x K) (most_as_17 s K) p)

  pub limit_row_lem : (L : ℕ) → x ≡ Ok L → (0 ≡ (most_values_for s p K).number) × ((0 ∷ L ∷ []) ≡ most_row (most_values_for s p K))
  limit_row_lem L g = rw (← asked_most, g) (refl, refl)

  pub no_limit_row : (r : Refusal) → x ≡ Err r → (r.number ≡ (most_values_for s p K).number) × ((r.place ∷ 0 ∷ []) ≡ most_row (most_values_for s p K))
  no_limit_row r g = rw (← asked_most, g) (refl, refl)
