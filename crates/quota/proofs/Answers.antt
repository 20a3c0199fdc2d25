-- What is answered, exactly: a quota where the checks pass and it is the largest, 42 where they pass and none serves, any refusal where its check is the first that applies.
use Rattle.std.specs.Prelude.{Err, Ok, Result, ⊤}
use mathlib.Core.Path.{◌≡◌, refl, ◌∙◌, ap}
use mathlib.Core.Logic.Iff
use mathlib.Core.Logic.{◌↔◌, ◌⊎◌, inl, inr, by_cases}
use Prim.Native.Nat.{ℕ, suc, ◌≤◌, ◌<◌}
use native.Mathlib.Omega.{arith}
use native.Mathlib.Decide.{dec_lt}
use mathlib.Core.List.{List, [], ◌∷◌}
use mathlib.Core.Bool.{Bool, true, false}
use borrow.Author.Tests.{le-ltb}
use Rattle.table.specs.Sum.{pick}
use Rattle.table.specs.Format.{table_of}
use Rattle.table.specs.Pass.{Check, Pass, or_else, refusal, try_at, try_from, try_pass, first_found}
use Rattle.table.specs.First.{Applies, FirstApplies}
use Rattle.table.specs.Checks.{outside, passes}
use Rattle.table.specs.declared.Refusal.{Refusal}
use Rattle.table.specs.Load.{found_number}
use Rattle.table.proofs.Tests.{no_way}
use Rattle.table.proofs.Sizes.{inside}
use Rattle.table.proofs.Trying.{Each, each_at, or_else_nothing, or_else_last}
use Rattle.table.proofs.Passes.{first_found_append, found_exactly, passes_rules, try_pass_from_0}
use Rattle.schedule.specs.Record.{max_workers}
use Rattle.schedule.specs.Begin.{max_quota}
use Rattle.schedule.specs.Memory.{limit}
use Rattle.quota.specs.Quota.{IsLargest, NoneServes, most_quota, no_quota, max_gap, quota_pass, quota_passes, answered_by, quoted, Asked}
use Rattle.quota.proofs.Largest.{none_exactly, largest_exactly}

-- ---- the answer and what the checks find

answered_given : (f : Result ⊤ Refusal) (x K : ℕ) → (answered_by f x ≡ Ok K) ↔ ((f ≡ Ok tt) × (x ≡ K))
answered_given (Ok _) x K = ((λ h. (refl, cc)), (λ h. cc))
answered_given (Err r) x K = ((λ h. no_way (cc)), (λ h. no_way (cc)))

answered_refused : (f : Result ⊤ Refusal) (x : ℕ) (r : Refusal) → (answered_by f x ≡ Err r) ↔ (f ≡ Err r)
answered_refused (Ok _) x r = ((λ h. no_way (cc)), (λ h. no_way (cc)))
answered_refused (Err q) x r = ((λ h. cc), (λ h. cc))

-- refused with a number and a place exactly when the first check that applies has that number and applies at that place
pub refused_exactly : (s : List ℕ) (p b M : ℕ) (r : Refusal) → (quoted s p b M ≡ Err r) ↔ FirstApplies (quota_passes s p b M) r.number r.place
unfolding quoted
refused_exactly s p b M r =
    Iff.trans (answered_refused (first_found (quota_passes s p b M)) (most_quota (table_of s) p b M) r) (found_exactly (quota_passes s p b M) r)

-- ---- the checks before 42

-- of three checks at place 0 the last is found
last_found : (x y z : Bool)
    → (or_else (pick x (Err (refusal 20 0)) (pick y (Err (refusal 41 0)) (pick z (Err (refusal 42 0)) (Ok tt)))) (Ok tt) ≡ Err (refusal 42 0)) ↔ ((x ≡ false) × (y ≡ false) × (z ≡ true))
last_found true y z = ((λ e. let d : ◌≡◌ {A = ℕ} 20 42 = ap found_number e in absurd (omega arith)), (λ h. no_way (cc)))
last_found false true z = ((λ e. let d : ◌≡◌ {A = ℕ} 41 42 = ap found_number e in absurd (omega arith)), (λ h. no_way (cc)))
last_found false false true = ((λ e. (refl, refl, refl)), (λ h. refl))
last_found false false false = ((λ e. no_way (cc)), (λ h. no_way (cc)))

pub in_outside : (low high x : ℕ) → low ≤ x → x ≤ high → outside low high x ≡ false
in_outside low high x l h = rw (le-ltb x low l, le-ltb high x h)

module _ (s : List ℕ) (p b M : ℕ) where
  abbrev pub own : Pass
  own = quota_pass (table_of s) p b M

  -- the table's checks, and then the three own ones
  pub found_own : first_found (quota_passes s p b M) ≡ or_else (first_found (passes s)) (try_pass own)
  unfolding first_found
  found_own = first_found_append (passes s) (own ∷ []) ∙ ap (or_else (first_found (passes s))) (or_else_last (try_pass own))

  -- of the three own checks none applies
  own_passed : (try_pass own ≡ Ok tt) ↔ ((outside 1 max_workers p ≡ false) × (outside 1 max_gap b ≡ false) × (no_quota (table_of s) p b M ≡ false))
  own_passed =
      Iff.trans (try_pass_from_0 1 own.checks) (
        (λ h. (h.0 0 (omega arith), h.1.0 0 (omega arith), h.1.1.0 0 (omega arith))),
        (λ h. ((λ i l. h.0), ((λ i l. h.1), ((λ i l. h.2), tt)))),
      )

  asked : first_found (passes s) ≡ Ok tt → outside 1 max_workers p ≡ false → outside 1 max_gap b ≡ false → Asked s p b
  asked t u v =
      let w = inside 1 max_workers p u in
      let g = inside 1 max_gap b v in
      record { rules = (passes_rules s).0 t; some_worker = w.0; few_workers = w.1; some_gap = g.0; small_gap = g.1 }

  -- no check applies exactly when those before 42 pass and 42 does not apply
  all_passed : (first_found (quota_passes s p b M) ≡ Ok tt) ↔ (Asked s p b × (no_quota (table_of s) p b M ≡ false))
  all_passed =
      rw found_own
      (Iff.trans (or_else_nothing (first_found (passes s)) (try_pass own)) (
        (λ h. let o = own_passed.0 h.1 in (asked h.0 o.0 o.1, o.2)),
        (λ h. (
          (passes_rules s).1 h.0.rules,
          own_passed.1 (in_outside 1 max_workers p h.0.some_worker h.0.few_workers, in_outside 1 max_gap b h.0.some_gap h.0.small_gap, h.1),
        )),
      ))

  -- a quota is given exactly when the checks pass and it is the largest
  pub given_exactly : (K : ℕ) → (quoted s p b M ≡ Ok K) ↔ (Asked s p b × IsLargest (table_of s) p b M K)
  unfolding quoted
  given_exactly K =
      Iff.trans (answered_given (first_found (quota_passes s p b M)) (most_quota (table_of s) p b M) K) (
        (λ h. let a = all_passed.0 h.0 in (a.0, (largest_exactly (table_of s) p b M K).0 (a.1, h.1))),
        (λ h. let k = (largest_exactly (table_of s) p b M K).1 h.1 in (all_passed.1 (h.0, k.0), k.1)),
      )

  -- ---- 42

  -- no check of a table has a number as high
  table_numbers : Each (λ (q : Pass). Each (λ (c : Check). c.number < 20) q.checks) (passes s)
  unfolding passes
  table_numbers = (
    (omega arith, (omega arith, (omega arith, tt))),
    (
      (omega arith, tt),
      (
        (omega arith, tt),
        (
          (omega arith, (omega arith, (omega arith, tt))),
          (
            (omega arith, (omega arith, (omega arith, tt))),
            (
              (omega arith, tt),
              ((omega arith, tt), tt),
            ),
          ),
        ),
      ),
    ),
  )

  table_number : (r : Refusal) → first_found (passes s) ≡ Err r → r.number < 20
  table_number r e =
      let a : Applies (passes s) r.number _ = ((found_exactly (passes s) r).0 e).applies in
      let l : a.check.number < 20 = each_at (λ (c : Check). c.number < 20) a.pass.checks
      (each_at (λ (q : Pass). Each (λ (c : Check). c.number < 20) q.checks) (passes s) table_numbers _ a.pass a.pass_there) _ a.check a.check_there in
      omega (arith, a.numbered)

  own_none : (try_pass own ≡ Err (refusal 42 0)) ↔ ((outside 1 max_workers p ≡ false) × (outside 1 max_gap b ≡ false) × (no_quota (table_of s) p b M ≡ true))
  unfolding try_pass try_from try_at
  own_none = last_found (outside 1 max_workers p) (outside 1 max_gap b) (no_quota (table_of s) p b M)

  found_none : (first_found (quota_passes s p b M) ≡ Err (refusal 42 0)) ↔ (Asked s p b × (no_quota (table_of s) p b M ≡ true))
  found_none =
      rw found_own (
        (λ h. go (first_found (passes s)) refl h),
        (λ h. rw ((passes_rules s).1 h.0.rules)
            (own_none.1 (in_outside 1 max_workers p h.0.some_worker h.0.few_workers, in_outside 1 max_gap b h.0.some_gap h.0.small_gap, h.1))),
      )
    where
      go : (f : Result ⊤ Refusal) → first_found (passes s) ≡ f → or_else f (try_pass own) ≡ Err (refusal 42 0) → Asked s p b × (no_quota (table_of s) p b M ≡ true)
      go (Ok _) e h = let o = own_none.0 h in (asked e o.0 o.1, o.2)
      go (Err r) e h =
          let n : r.number ≡ 42 = ap found_number h in
          absurd (omega (arith, table_number r e))

  -- 42 is given exactly when the checks pass and none serves
  pub none_quoted : (quoted s p b M ≡ Err (refusal 42 0)) ↔ (Asked s p b × NoneServes (table_of s) p b M)
  unfolding quoted
  none_quoted =
      Iff.trans (answered_refused (first_found (quota_passes s p b M)) (most_quota (table_of s) p b M) (refusal 42 0))
      (Iff.trans found_none (
        (λ h. (h.0, (none_exactly (table_of s) p b M).0 h.1)),
        (λ h. (h.0, (none_exactly (table_of s) p b M).1 h.1)),
      ))

  -- "such a K comes back and the next one up fails or is out of range"
  pub next_up : (K : ℕ) → quoted s p b M ≡ Ok K → (max_quota < suc K) ⊎ (M < limit (table_of s) p (suc K) b)
  next_up K e =
      let k = ((given_exactly K).0 e).1 in
      by_cases (dec_lt max_quota (suc K)) inl (λ n.
      by_cases (dec_lt M (limit (table_of s) p (suc K) b)) inr (λ m.
      absurd (k.none_above (suc K) (omega arith) (record { low = omega (arith, k.in_range.low); high = omega (arith, n) }) (omega (arith, m)))))
