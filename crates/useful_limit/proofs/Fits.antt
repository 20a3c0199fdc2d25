-- What `fitquota` answers is what is asked: the largest quota in the range whose useful limit is at most M, and that limit (`fit_exactly`); or, where there is none, the least that any in the
-- range needs, and the least such quota (`short_exactly`).
use Rattle.std.specs.Prelude.{Err, Ok, Result, ⊤}
use mathlib.Core.Path.{◌≡◌, refl, sym, ap, ◌∙◌}
use mathlib.Core.Logic.Iff
use mathlib.Core.Logic.{◌↔◌, ◌⊎◌, inl, inr, by_cases}
use Prim.Native.Nat.{ℕ, ◌≤◌, ◌<◌}
use native.Mathlib.Omega.{arith}
use native.Mathlib.Decide.{dec_lt}
use mathlib.Core.List.{List, [], ◌∷◌, ◌++◌}
use mathlib.Core.Bool.{Bool, true, false, ◌&&◌, ◌||◌}
use lib.Dec.{leb, ltb, eqb}
use borrow.Author.Tests.{le-ltb, leb-true, leb-false, lt-ltb, ltb-true, ltb-false, eqb-true, eqb-false}
use Rattle.table.specs.Sum.{pick}
use Rattle.table.specs.Format.{Table, table_of}
use Rattle.table.specs.Pass.{or_else, refusal, try_pass, first_found}
use Rattle.table.specs.Checks.{outside, passes}
use Rattle.table.specs.declared.Refusal.{Refusal}
use Rattle.table.proofs.Tests.{no_way}
use Rattle.table.proofs.Sizes.{inside}
use Rattle.table.proofs.Trying.{or_else_nothing, or_else_last}
use Rattle.table.proofs.Passes.{first_found_append, passes_rules, try_pass_from_0}
use Rattle.schedule.specs.Record.{max_workers}
use Rattle.schedule.specs.Begin.{max_quota}
use Rattle.schedule.specs.Memory.{limit}
use Rattle.peaks.specs.Rests.{useful_limit}
use Rattle.peaks.proofs.Useful.{useful_within}
use Rattle.quota.specs.Quota.{least_quota, InRange, max_gap, most_quota, no_quota}
use Rattle.quota.specs.Quota.{IsLargest as IsLargestRuled}
use Rattle.quota.proofs.Largest.{most_largest, none_exactly}
use Rattle.quota.proofs.Answers.{in_outside}
use Rattle.useful_limit.specs.declared.Fitted.{Fitted}
use Rattle.useful_limit.specs.declared.Fitted.TheVariants.{Fits, Short}
use Rattle.useful_limit.specs.Limits.{workers_check, gap_check, settings}
use Rattle.useful_limit.specs.Fit.{IsLargest, NoneFits, IsLeast, Asked, unruled, largest_fit, no_fit, least_need, fits_with, short_with, own_fit, fit_passes, fitted_as, fitted}
use Rattle.useful_limit.proofs.InRange.{least_in_range, top_in_range, useful_unruled, useful_either, unruled_least, least_need_lem}

-- ---- the computed answer is the one that is asked for

module _ (T : Table) (p b M : ℕ) (r : InRange T (least_quota T)) where
  -- where the rule with b matters, one fits exactly if it serves by demand 3's limit
  ruled_only : M < unruled T p → (K : ℕ) → InRange T K → useful_limit T p K b ≤ M → (1 ≤ b) × (limit T p K b ≤ M)
  ruled_only h K k l = go (useful_either T p K b M l)
    where
      go : (useful_limit T p K 0 ≤ M) ⊎ ((1 ≤ b) × (limit T p K b ≤ M)) → (1 ≤ b) × (limit T p K b ≤ M)
      go (inl e) = absurd (omega (arith, unruled_least T p K k, h, e))
      go (inr e) = e

  pub none_fits : no_fit T p b M ≡ true → NoneFits T p b M
  unfolding no_fit
  none_fits e K k = go (ltb M (unruled T p)) refl (eqb b 0) refl (no_quota T p b M) refl e
    where
      above : M < unruled T p → ((1 ≤ b) × (limit T p K b ≤ M) → ⊥) → M < useful_limit T p K b
      above h n = by_cases (dec_lt M (useful_limit T p K b)) (λ d. d) (λ d. absurd (n (ruled_only h K k (omega (arith, d)))))

      go : (x : Bool) → ltb M (unruled T p) ≡ x → (y : Bool) → eqb b 0 ≡ y → (z : Bool) → no_quota T p b M ≡ z → (x && (y || z)) ≡ true → M < useful_limit T p K b
      go true d true f z g h = above (ltb-true M (unruled T p) d) (λ q. omega (arith, q.0, eqb-true b 0 f))
      go true d false f true g h = above (ltb-true M (unruled T p) d) (λ q. (none_exactly T p b M).0 g K k q.1)
      go true d false f false g h = no_way (cc)
      go false d y f z g h = no_way (cc)

  pub largest_fits : no_fit T p b M ≡ false → IsLargest T p b M (largest_fit T p b M)
  unfolding no_fit largest_fit
  largest_fits e = go (leb (unruled T p) M) refl
    where
      top : InRange T max_quota
      top = top_in_range T (least_quota T) r

      ruled : M < unruled T p → (x : Bool) → eqb b 0 ≡ x → (y : Bool) → no_quota T p b M ≡ y → (x || y) ≡ false → IsLargest T p b M (most_quota T p b M)
      ruled h true f y g d = no_way (cc)
      ruled h false f true g d = no_way (cc)
      ruled h false f false g d =
          let l : IsLargestRuled T p b M (most_quota T p b M) = most_largest T p b M g in
          let some : 1 ≤ b = omega (arith, eqb-false b 0 f) in
          record {
            in_range = l.in_range;
            serves = omega (arith, useful_within T p (most_quota T p b M) b some, l.serves);
            none_above = λ L above k fits. l.none_above L above k (ruled_only h L k fits).1;
          }

      strict : M < unruled T p → (eqb b 0 || no_quota T p b M) ≡ false
      strict h = rw (lt-ltb M (unruled T p) h) at e

      go : (x : Bool) → leb (unruled T p) M ≡ x → IsLargest T p b M (pick x max_quota (most_quota T p b M))
      go true d =
          record {
            in_range = top;
            serves = omega (arith, useful_unruled T p max_quota b, leb-true (unruled T p) M d);
            none_above = λ L above k fits. omega (arith, above, k.high);
          }
      go false d =
          let h : M < unruled T p = leb-false (unruled T p) M d in
          ruled h (eqb b 0) refl (no_quota T p b M) refl (strict h)

  pub largest_one : (K L : ℕ) → IsLargest T p b M K → IsLargest T p b M L → K ≡ L
  largest_one K L k l =
      by_cases (dec_lt K L) (λ h. absurd (k.none_above L h l.in_range l.serves))
      (λ m. by_cases (dec_lt L K) (λ h. absurd (l.none_above K h k.in_range k.serves)) (λ n. omega (arith, m, n)))

  pub least_one : (K L : ℕ) → IsLeast T p b K → IsLeast T p b L → K ≡ L
  least_one K L k l =
      by_cases (dec_lt K L) (λ h. absurd (omega (arith, l.first K h k.in_range, k.least L l.in_range)))
      (λ m. by_cases (dec_lt L K) (λ h. absurd (omega (arith, k.first L h l.in_range, l.least K k.in_range))) (λ n. omega (arith, m, n)))

  pub own_fits : (K X : ℕ) → (own_fit T p b M ≡ Fits K X) ↔ (IsLargest T p b M K × (X ≡ useful_limit T p K b))
  unfolding own_fit
  own_fits K X = (go (no_fit T p b M) refl, λ h. back h.0 h.1 (no_fit T p b M) refl)
    where
      go : (x : Bool) → no_fit T p b M ≡ x → pick x (short_with T p b (least_need T p b)) (fits_with T p b (largest_fit T p b M)) ≡ Fits K X
          → IsLargest T p b M K × (X ≡ useful_limit T p K b)
      go true e d = no_way (cc)
      go false e d =
          let k : largest_fit T p b M ≡ K = cc in
          let x : useful_limit T p (largest_fit T p b M) b ≡ X = cc in
          (rw k at (largest_fits e), sym x ∙ ap (λ (L : ℕ). useful_limit T p L b) k)

      back : IsLargest T p b M K → X ≡ useful_limit T p K b → (x : Bool) → no_fit T p b M ≡ x → pick x (short_with T p b (least_need T p b)) (fits_with T p b (largest_fit T p b M)) ≡ Fits K X
      back k d true e = absurd (omega (arith, none_fits e K k.in_range, k.serves))
      back k d false e = rw (largest_one (largest_fit T p b M) K (largest_fits e) k, d)

  pub own_short : (K X : ℕ) → (own_fit T p b M ≡ Short K X) ↔ (NoneFits T p b M × IsLeast T p b K × (X ≡ useful_limit T p K b))
  unfolding own_fit
  own_short K X = (go (no_fit T p b M) refl, λ h. back h.0 h.1 h.2 (no_fit T p b M) refl)
    where
      go : (x : Bool) → no_fit T p b M ≡ x → pick x (short_with T p b (least_need T p b)) (fits_with T p b (largest_fit T p b M)) ≡ Short K X
          → NoneFits T p b M × IsLeast T p b K × (X ≡ useful_limit T p K b)
      go true e d =
          let k : least_need T p b ≡ K = cc in
          let x : useful_limit T p (least_need T p b) b ≡ X = cc in
          (none_fits e, rw k at (least_need_lem T p b r), sym x ∙ ap (λ (L : ℕ). useful_limit T p L b) k)
      go false e d = no_way (cc)

      back : NoneFits T p b M → IsLeast T p b K → X ≡ useful_limit T p K b → (x : Bool) → no_fit T p b M ≡ x
          → pick x (short_with T p b (least_need T p b)) (fits_with T p b (largest_fit T p b M)) ≡ Short K X
      back n k d true e = rw (least_one (least_need T p b) K (least_need_lem T p b r) k, d)
      back n k d false e = let l = largest_fits e in absurd (omega (arith, n (largest_fit T p b M) l.in_range, l.serves))

-- ---- the answer to any bytes

ok_inj : {x y : Fitted} → ◌≡◌ {A = Result Fitted Refusal} (Ok x) (Ok y) → x ≡ y
ok_inj h = cc

fitted_fits : (f : Result ⊤ Refusal) (x : Fitted) (K X : ℕ) → (fitted_as f x ≡ Ok (Fits K X)) ↔ ((f ≡ Ok tt) × (x ≡ Fits K X))
fitted_fits (Ok _) x K X = ((λ h. (refl, ok_inj h)), (λ h. ap Ok h.1))
fitted_fits (Err r) x K X = ((λ h. no_way (cc)), (λ h. no_way (cc)))

fitted_short : (f : Result ⊤ Refusal) (x : Fitted) (K X : ℕ) → (fitted_as f x ≡ Ok (Short K X)) ↔ ((f ≡ Ok tt) × (x ≡ Short K X))
fitted_short (Ok _) x K X = ((λ h. (refl, ok_inj h)), (λ h. ap Ok h.1))
fitted_short (Err r) x K X = ((λ h. no_way (cc)), (λ h. no_way (cc)))

module _ (s : List ℕ) (p b : ℕ) where
  own_passed : (try_pass (settings (workers_check p ∷ gap_check b ∷ [])) ≡ Ok tt) ↔ ((outside 1 max_workers p ≡ false) × (ltb max_gap b ≡ false))
  own_passed =
      Iff.trans (try_pass_from_0 1 (workers_check p ∷ gap_check b ∷ [])) (
        (λ h. (h.0 0 (omega arith), h.1.0 0 (omega arith))),
        (λ h. ((λ i l. h.0), ((λ i l. h.1), tt))),
      )

  pub all_passed : (first_found (fit_passes s p b) ≡ Ok tt) ↔ Asked s p b
  unfolding first_found
  all_passed =
      rw (first_found_append (passes s) (settings (workers_check p ∷ gap_check b ∷ []) ∷ []), or_else_last (try_pass (settings (workers_check p ∷ gap_check b ∷ []))))
      (Iff.trans (or_else_nothing (first_found (passes s)) (try_pass (settings (workers_check p ∷ gap_check b ∷ [])))) (
        (λ h.
            let o = own_passed.0 h.1 in
            let w = inside 1 max_workers p o.0 in
            record { rules = (passes_rules s).0 h.0; some_worker = w.0; few_workers = w.1; small_gap = ltb-false max_gap b o.1 }),
        (λ h. ((passes_rules s).1 h.rules, own_passed.1 (in_outside 1 max_workers p h.some_worker h.few_workers, le-ltb max_gap b h.small_gap))),
      ))

  -- a quota and a limit are given exactly when the checks pass, it is the largest that fits, and that is its limit
  pub fit_exactly : (M K X : ℕ) → (fitted s p b M ≡ Ok (Fits K X)) ↔ (Asked s p b × IsLargest (table_of s) p b M K × (X ≡ useful_limit (table_of s) p K b))
  unfolding fitted
  fit_exactly M K X =
      let o = own_fits (table_of s) p b M (least_in_range s) K X in
      Iff.trans (fitted_fits (first_found (fit_passes s p b)) (own_fit (table_of s) p b M) K X) (
        (λ h. let x = o.0 h.1 in (all_passed.0 h.0, x.0, x.1)),
        (λ h. (all_passed.1 h.0, o.1 (h.1, h.2))),
      )

  -- none is given exactly when the checks pass and none fits; and then the least that any in the range needs, and the least such quota
  pub short_exactly : (M K X : ℕ) → (fitted s p b M ≡ Ok (Short K X)) ↔ (Asked s p b × NoneFits (table_of s) p b M × IsLeast (table_of s) p b K × (X ≡ useful_limit (table_of s) p K b))
  unfolding fitted
  short_exactly M K X =
      let o = own_short (table_of s) p b M (least_in_range s) K X in
      Iff.trans (fitted_short (first_found (fit_passes s p b)) (own_fit (table_of s) p b M) K X) (
        (λ h. let x = o.0 h.1 in (all_passed.0 h.0, x.0, x.1, x.2)),
        (λ h. (all_passed.1 h.0, o.1 (h.1, h.2, h.3))),
      )
