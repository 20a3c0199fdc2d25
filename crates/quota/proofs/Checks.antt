-- The answer on an accepted table, check by check, and that an accepted table has a depth.
use Rattle.std.specs.Prelude.{Err, Ok, Result, ⊤}
use mathlib.Core.Path.{◌≡◌, refl, ap, ◌∙◌}
use Prim.Native.Nat.{ℕ, ◌-◌, ◌*◌, ◌≤◌, ◌<◌}
use native.Mathlib.Omega.{arith}
use mathlib.Core.List.{List}
use mathlib.Core.Bool.{true, false}
use borrow.Author.Tests.{lt-ltb, le-ltb}
use Rattle.table.specs.Format.{table_of}
use Rattle.table.specs.Pass.{refusal, first_found, try_at, try_from, try_pass}
use Rattle.table.specs.Checks.{outside, end_of, passes}
use Rattle.table.specs.Rules.{Rules}
use Rattle.table.specs.Serial.{S1}
use Rattle.table.specs.Level.{D}
use Rattle.table.specs.Load.{facts_of, loaded}
use Rattle.table.specs.declared.Facts.{Facts}
use Rattle.table.specs.declared.Refusal.{Refusal}
use Rattle.table.proofs.Bodies.{end_within}
use Rattle.table.proofs.Levels.{level_is}
use Rattle.table.proofs.Passes.{found_exactly, passes_rules, accepted_exactly, accepted_facts, refused_exactly}
use Rattle.schedule.specs.Record.{max_workers}
use Rattle.order.proofs.Lawful.{Lawful, lawful}
use Rattle.quota.specs.Quota.{least_quota, cost_of, most_within, most_quota, no_quota, max_gap, quota_passes, answered_by, quoted, values_of, quota_values_with, values_for}
use Rattle.quota.specs.Code.Steps.{Accepted, own_answer}
use Rattle.quota.proofs.Answers.{found_own}

-- ---- check by check

module _ (s : List ℕ) (p b M : ℕ) where
  pub many_workers : outside 1 max_workers p ≡ true → Err (refusal 20 0) ≡ own_answer s p b M
  unfolding own_answer try_pass try_from try_at
  many_workers h = rw h

  pub wide_gap : outside 1 max_workers p ≡ false → outside 1 max_gap b ≡ true → Err (refusal 41 0) ≡ own_answer s p b M
  unfolding own_answer try_pass try_from try_at
  wide_gap h k = rw (h, k)

  module _ (h : outside 1 max_workers p ≡ false) (k : outside 1 max_gap b ≡ false) where
    pub little_memory : M < S1 (table_of s) → Err (refusal 42 0) ≡ own_answer s p b M
    unfolding own_answer try_pass try_from try_at no_quota
    little_memory l = rw (h, k, lt-ltb M (S1 (table_of s)) l)

    module _ (l : S1 (table_of s) ≤ M) where
      pub below_least : most_quota (table_of s) p b M < least_quota (table_of s) → Err (refusal 42 0) ≡ own_answer s p b M
      unfolding own_answer try_pass try_from try_at no_quota
      below_least g = rw (h, k, le-ltb M (S1 (table_of s)) l, lt-ltb (most_quota (table_of s) p b M) (least_quota (table_of s)) g)

      pub at_most : least_quota (table_of s) ≤ most_quota (table_of s) p b M → Ok (most_quota (table_of s) p b M) ≡ own_answer s p b M
      unfolding own_answer try_pass try_from try_at no_quota
      at_most g = rw (h, k, le-ltb M (S1 (table_of s)) l, le-ltb (most_quota (table_of s) p b M) (least_quota (table_of s)) g)

-- ---- the facts of an accepted table

pub depth_some : (s : List ℕ) → Rules s → 1 ≤ D (table_of s)
unfolding D
depth_some s r =
    let l : Lawful (table_of s) = lawful s r in
    let w : end_of (table_of s) 0 < (table_of s).actions = end_within (table_of s) l.contents 0 l.some_thread in
    omega (arith, level_is (table_of s) l.contents l.bodies l.nesting l.forking (end_of (table_of s) 0) w)

module _ {s : List ℕ} {f : Facts} (a : Accepted s f) where
  pub peak_is : f.peak ≡ S1 (table_of s)
  unfolding facts_of
  peak_is = ap (λ (x : Facts). x.peak) a.facts

  pub depth_is : f.depth ≡ D (table_of s)
  unfolding facts_of
  depth_is = ap (λ (x : Facts). x.depth) a.facts

  -- the most, from the facts
  pub most_is : (p b M : ℕ) → most_within (b * (p - 1) * (f.depth - 1)) (M - f.peak) ≡ most_quota (table_of s) p b M
  unfolding most_quota cost_of
  most_is p b M = rw (peak_is, depth_is)

-- ---- the whole answer

-- the answer to a table that its own checks refuse
pub refused_own : (s : List ℕ) (p b M : ℕ) (r : Refusal) → loaded s ≡ Err r → Err r ≡ quoted s p b M
unfolding quoted
refused_own s p b M r e =
    let f : first_found (passes s) ≡ Err r = (found_exactly (passes s) r).1 ((refused_exactly s r).0 e) in
    rw (found_own s p b M, f)

pub accepted_own : (s : List ℕ) (f : Facts) → loaded s ≡ Ok f → Accepted s f
accepted_own s f e =
    let d : f ≡ facts_of (table_of s) = accepted_facts s f e in
    record { rules = (accepted_exactly s).0 (cc); facts = d }

-- and to one that they accept
pub own_whole : (s : List ℕ) (p b M : ℕ) → Rules s → own_answer s p b M ≡ quoted s p b M
unfolding quoted own_answer
own_whole s p b M r = rw (found_own s p b M, (passes_rules s).1 r)

-- its values are those that the checks give
values_found : (f : Result ⊤ Refusal) (K : ℕ) → values_of (answered_by f K) ≡ quota_values_with f K
values_found (Ok _) K = refl
values_found (Err r) K = refl

pub values_are : (s : List ℕ) (p b M : ℕ) {x : Result ℕ Refusal} → x ≡ quoted s p b M → (x ≡ quoted s p b M) × (values_of x ≡ values_for s p b M)
unfolding quoted values_for
values_are s p b M e = (e, ap values_of e ∙ values_found (first_found (quota_passes s p b M)) (most_quota (table_of s) p b M))
