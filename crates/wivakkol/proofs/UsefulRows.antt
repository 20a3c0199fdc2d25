-- The numbers of each answer of the useful limit and of the quota that fits; and 17 workers are refused as any higher number is.
use Rattle.std.specs.Prelude.{Err, Ok, Result}
use mathlib.Core.Path.{◌≡◌, refl, ap, ◌∙◌}
use Prim.Native.Nat.{ℕ, min, ◌≤◌}
use native.Mathlib.Omega.{arith}
use mathlib.Core.List.{List, [], ◌∷◌}
use lib.ListN.{length}
use Rattle.table.specs.Format.{table_of}
use Rattle.table.specs.Pass.{first_found}
use Rattle.table.specs.Checks.{passes}
use Rattle.table.specs.declared.Refusal.{Refusal}
use Rattle.filling.specs.Filled.{fill_pass}
use Rattle.useful_limit.specs.declared.Numbers.{Numbers}
use Rattle.useful_limit.specs.declared.Fitted.{Fitted}
use Rattle.useful_limit.specs.declared.Fitted.TheVariants.{Fits, Short}
use Rattle.useful_limit.specs.Limits.{gap_check, quota_check, limit_passes, limits, limits_in, limits_into}
use Rattle.useful_limit.specs.Fit.{fit_passes, fitted}
use Rattle.useful_limit.proofs.Settings.{many_fault, many_found}
use Rattle.wivakkol.specs.Rows.{limit_number, limit_row, fit_number, fit_row}
use Rattle.wivakkol.proofs.Answers.{as_handed}

-- ---- more workers than there may be

module _ (s : List ℕ) (K b : ℕ) where
  limit_found : (p : ℕ) → 17 ≤ p → first_found (limit_passes s p K b) ≡ Err (many_fault (first_found (passes s)))
  limit_found p h = many_found s p h (gap_check b ∷ quota_check K ∷ []) (fill_pass (table_of s) K ∷ [])

  limit_17 : (room p : ℕ) → 17 ≤ p → limits_in s 17 K b room ≡ limits_in s p K b room
  unfolding limits_in limits
  limit_17 room p h = rw (limit_found p h, limit_found 17 (omega arith)) refl

  into_17 : (out : List ℕ) (p : ℕ) → 17 ≤ p → limits_into s 17 K b out ≡ limits_into s p K b out
  into_17 out p h = rw (limit_found p h, limit_found 17 (omega arith)) refl

  -- what the call on a byte answers is the answer
  pub limit_handed : (p : ℕ) (out : List ℕ) {w : ℕ} {a : Result Numbers Refusal} {buffer : List ℕ} → w ≡ min p 17 → a ≡ limits_in s w K b (length out) → buffer ≡ limits_into s w K b out
      → (a ≡ limits_in s p K b (length out)) × (buffer ≡ limits_into s p K b out)
  limit_handed p out d e f = (
    e ∙ ap (λ (x : ℕ). limits_in s x K b (length out)) d ∙ as_handed (λ (x : ℕ). limits_in s x K b (length out)) (limit_17 (length out)) p,
    f ∙ ap (λ (x : ℕ). limits_into s x K b out) d ∙ as_handed (λ (x : ℕ). limits_into s x K b out) (into_17 out) p,
  )

module _ (s : List ℕ) (b M : ℕ) where
  fit_found : (p : ℕ) → 17 ≤ p → first_found (fit_passes s p b) ≡ Err (many_fault (first_found (passes s)))
  fit_found p h = many_found s p h (gap_check b ∷ []) []

  fit_17 : (p : ℕ) → 17 ≤ p → fitted s 17 b M ≡ fitted s p b M
  unfolding fitted
  fit_17 p h = rw (fit_found p h, fit_found 17 (omega arith)) refl

  pub fit_handed : (p : ℕ) {w : ℕ} {a : Result Fitted Refusal} → w ≡ min p 17 → a ≡ fitted s w b M → a ≡ fitted s p b M
  fit_handed p d e = e ∙ ap (λ (x : ℕ). fitted s x b M) d ∙ as_handed (λ (x : ℕ). fitted s x b M) fit_17 p

-- ---- the rows

module _ {a y : Result Numbers Refusal} (e : a ≡ y) where
  pub limit_given : {x : Numbers} → a ≡ Ok x → (0 ≡ limit_number y) × ((0 ∷ x.memory ∷ x.serial ∷ x.peak ∷ x.parallel ∷ x.stretch ∷ []) ≡ limit_row y)
  limit_given g = rw (← e, g) (refl, refl)

  pub limit_refused : {r : Refusal} → a ≡ Err r → (r.number ≡ limit_number y) × ((r.place ∷ 0 ∷ 0 ∷ 0 ∷ 0 ∷ 0 ∷ []) ≡ limit_row y)
  limit_refused g = rw (← e, g) (refl, refl)

module _ {a y : Result Fitted Refusal} (e : a ≡ y) where
  pub fit_fits : {K X : ℕ} → a ≡ Ok (Fits K X) → (0 ≡ fit_number y) × ((0 ∷ 1 ∷ K ∷ X ∷ []) ≡ fit_row y)
  fit_fits g = rw (← e, g) (refl, refl)

  pub fit_short : {K X : ℕ} → a ≡ Ok (Short K X) → (0 ≡ fit_number y) × ((0 ∷ 0 ∷ K ∷ X ∷ []) ≡ fit_row y)
  fit_short g = rw (← e, g) (refl, refl)

  pub fit_refused : {r : Refusal} → a ≡ Err r → (r.number ≡ fit_number y) × ((r.place ∷ 0 ∷ 0 ∷ 0 ∷ []) ≡ fit_row y)
  fit_refused g = rw (← e, g) (refl, refl)
