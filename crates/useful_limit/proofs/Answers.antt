-- The answer to any bytes, check by check.
use Rattle.std.specs.Prelude.{Err, Ok}
use mathlib.Core.Path.{◌≡◌, sym, ◌∙◌}
use Prim.Native.Nat.{ℕ, ◌≤◌, ◌<◌}
use mathlib.Core.List.{List, [], ◌∷◌}
use mathlib.Core.Bool.{true, false}
use lib.Dec.{ltb}
use borrow.Author.Tests.{lt-ltb, le-ltb}
use Rattle.table.specs.Format.{table_of}
use Rattle.table.specs.Pass.{or_else, refusal, try_at, try_from, try_pass, first_found}
use Rattle.table.specs.Checks.{outside, passes}
use Rattle.table.specs.Rules.{Rules}
use Rattle.table.specs.Load.{loaded}
use Rattle.table.specs.declared.Refusal.{Refusal}
use Rattle.table.proofs.Trying.{or_else_last}
use Rattle.table.proofs.Passes.{first_found_append, found_exactly, passes_rules, refused_exactly}
use Rattle.schedule.specs.Record.{max_workers}
use Rattle.schedule.specs.Begin.{max_quota}
use Rattle.quota.specs.Quota.{max_gap}
use Rattle.useful_limit.specs.declared.Parts.{Parts}
use Rattle.useful_limit.specs.declared.Fitted.{Fitted}
use Rattle.useful_limit.specs.Limits.{workers_check, gap_check, settings}
use Rattle.useful_limit.specs.Fit.{own_fit, fit_passes, fitted}
use Rattle.useful_limit.specs.Code.Parts.{parts_of, fit_with, own_answer}
use Rattle.useful_limit.proofs.InRange.{least_in_range}
use Rattle.useful_limit.proofs.FromParts.{fit_of}

module _ (s : List ℕ) (p b M : ℕ) where
  pub many_workers : outside 1 max_workers p ≡ true → Err (refusal 20 0) ≡ own_answer s p b M
  unfolding own_answer try_pass try_from try_at
  many_workers h = rw h

  module _ (h : outside 1 max_workers p ≡ false) where
    pub wide_gap : max_gap < b → Err (refusal 41 0) ≡ own_answer s p b M
    unfolding own_answer try_pass try_from try_at
    wide_gap g = rw (h, lt-ltb max_gap b g)

    pub own_fit_lem : b ≤ max_gap → {x : Parts} {y : Fitted} → x ≡ parts_of (table_of s) p b max_quota → y ≡ fit_with x M → Ok y ≡ own_answer s p b M
    unfolding own_answer try_pass try_from try_at
    own_fit_lem g e d = rw (h, le-ltb max_gap b g, ← fit_of (table_of s) p b M (least_in_range s), ← e, d)

  -- ---- the whole answer

  found_own : first_found (fit_passes s p b) ≡ or_else (first_found (passes s)) (try_pass (settings (workers_check p ∷ gap_check b ∷ [])))
  unfolding first_found
  found_own = first_found_append (passes s) (settings (workers_check p ∷ gap_check b ∷ []) ∷ []) ∙ rw (or_else_last (try_pass (settings (workers_check p ∷ gap_check b ∷ []))))

  pub refused_own : (r : Refusal) → loaded s ≡ Err r → Err r ≡ fitted s p b M
  unfolding fitted
  refused_own r e =
      let f : first_found (passes s) ≡ Err r = (found_exactly (passes s) r).1 ((refused_exactly s r).0 e) in
      rw (found_own, f)

  pub own_whole : Rules s → own_answer s p b M ≡ fitted s p b M
  unfolding fitted own_answer
  own_whole r = rw (found_own, (passes_rules s).1 r)
