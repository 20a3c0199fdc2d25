-- What the checks of p and of the numbers behind it find, for `memlimit`, `fitquota` and `dequelimit` alike: 17 workers are refused as any higher number is; and a check between p's and K's
-- applies, or the checks are those of a beginning.
use Rattle.std.specs.Prelude.{Err, Ok, Result, ⊤}
use mathlib.Core.Path.{◌≡◌, refl, sym, ap, ◌∙◌}
use Prim.Native.Nat.{ℕ, ◌≤◌}
use native.Mathlib.Omega.{arith}
use mathlib.Core.List.{List, [], ◌∷◌, ◌++◌}
use mathlib.Core.Bool.{Bool, true, false}
use borrow.Author.Tests.{lt-ltb, le-ltb}
use Rattle.table.specs.Sum.{pick}
use Rattle.table.specs.Format.{table_of}
use Rattle.table.specs.Pass.{Check, Pass, or_else, refusal, try_at, try_from, try_pass, first_found}
use Rattle.table.specs.Checks.{outside, passes}
use Rattle.table.specs.declared.Refusal.{Refusal}
use Rattle.table.proofs.Passes.{first_found_append}
use Rattle.filling.specs.Filled.{fill_pass}
use Rattle.schedule.specs.Record.{max_workers}
use Rattle.schedule.specs.Begin.{begin_passes}
use Rattle.soundness.specs.Tested.{begin_found}
use Rattle.useful_limit.specs.Limits.{workers_check, quota_check, settings}
use Rattle.useful_limit.specs.Code.Parts.{wide_fault}

-- ---- more workers than there may be

-- the table's own check, or 20
abbrev pub many_fault : Result ⊤ Refusal → Refusal
many_fault (Err r) = r
many_fault (Ok _) = refusal 20 0

first_check : (p : ℕ) → 17 ≤ p → (l : List Check) → try_pass (settings (workers_check p ∷ l)) ≡ Err (refusal 20 0)
unfolding try_pass try_from try_at
first_check p h l = rw (le-ltb p 1 (omega arith), lt-ltb 16 p (omega arith))

own_first : (f : Result ⊤ Refusal) → or_else f (Err (refusal 20 0)) ≡ Err (many_fault f)
own_first (Ok _) = refl
own_first (Err r) = refl

-- whatever checks and passes come after p's
pub many_found : (s : List ℕ) (p : ℕ) → 17 ≤ p → (l : List Check) (rest : List Pass) → first_found (passes s ++ (settings (workers_check p ∷ l) ∷ rest)) ≡ Err (many_fault (first_found (passes s)))
unfolding first_found
many_found s p h l rest = first_found_append (passes s) (settings (workers_check p ∷ l) ∷ rest) ∙ rw (first_check p h l) (own_first (first_found (passes s)))

-- ---- a check between p's and K's

module _ (s : List ℕ) (p : ℕ) (x : Check) where
  wide_settings : x.applies 0 ≡ true → (l : List Check) (q : Bool) → outside 1 max_workers p ≡ q → try_pass (settings (workers_check p ∷ x ∷ l)) ≡ Err (refusal (pick q 20 x.number) 0)
  unfolding try_pass try_from try_at
  wide_settings h l true e = rw e
  wide_settings h l false e = rw (e, h)

  -- it applies
  pub wide_found : x.applies 0 ≡ true → (l : List Check) (rest : List Pass)
      → first_found (passes s ++ (settings (workers_check p ∷ x ∷ l) ∷ rest)) ≡ Err (wide_fault (first_found (passes s)) (outside 1 max_workers p) x.number)
  unfolding first_found
  wide_found h l rest =
      first_found_append (passes s) (settings (workers_check p ∷ x ∷ l) ∷ rest) ∙ rw (wide_settings h l (outside 1 max_workers p) refl) (go (first_found (passes s)))
    where
      go : (f : Result ⊤ Refusal) → or_else f (Err (refusal (pick (outside 1 max_workers p) 20 x.number) 0)) ≡ Err (wide_fault f (outside 1 max_workers p) x.number)
      go (Ok _) = refl
      go (Err r) = refl

  narrow_settings : x.applies 0 ≡ false → (l : List Check) → try_pass (settings (workers_check p ∷ x ∷ l)) ≡ try_pass (settings (workers_check p ∷ l))
  unfolding try_pass try_from try_at
  narrow_settings h l = rw h

  -- it does not
  pub narrow_found : x.applies 0 ≡ false → (K : ℕ) → first_found (passes s ++ (settings (workers_check p ∷ x ∷ quota_check K ∷ []) ∷ fill_pass (table_of s) K ∷ [])) ≡ begin_found s p K
  unfolding first_found
  narrow_found h K =
      first_found_append (passes s) (settings (workers_check p ∷ x ∷ quota_check K ∷ []) ∷ fill_pass (table_of s) K ∷ [])
      ∙ ap (λ (f : Result ⊤ Refusal). or_else (first_found (passes s)) (or_else f (first_found (fill_pass (table_of s) K ∷ [])))) (narrow_settings h (quota_check K ∷ []))
      ∙ sym (first_found_append (passes s) (begin_passes (table_of s) p K))
