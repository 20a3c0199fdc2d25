-- What `fitquota` answers to any bytes, p, b and M: first as it is asked, over all K in the range, then as it is computed. `fit_exactly` and `short_exactly` (proofs/Fits) say that the
-- two are the same.
use Rattle.std.specs.Prelude.{ℕ, ◌≤◌, ◌<◌, max, List, [], ◌∷◌, ◌++◌, Bool, ◌&&◌, ◌||◌, ltb, leb, eqb, Err, Ok, Result, ⊤}
use Rattle.table.specs.declared.Refusal.{Refusal}
use Rattle.table.specs.Sum.{pick}
use Rattle.table.specs.Format.{Table, table_of}
use Rattle.table.specs.Pass.{Pass, first_found}
use Rattle.table.specs.Checks.{passes}
use Rattle.table.specs.Rules.{Rules}
use Rattle.schedule.specs.Record.{max_workers}
use Rattle.schedule.specs.Begin.{max_quota}
use Rattle.peaks.specs.Rests.{stretch, useful_limit}
use Rattle.quota.specs.Quota.{least_quota, InRange, max_gap, most_quota, no_quota}
use Rattle.useful_limit.specs.declared.Fitted.{Fitted}
use Rattle.useful_limit.specs.declared.Fitted.TheVariants.{Fits, Short}
use Rattle.useful_limit.specs.Limits.{workers_check, gap_check, settings}

-- ---- as it is asked

-- the largest from the table's largest alloc (1 if it has none) up to 16,777,215 whose useful limit is at most M; in that range no alloc is above K, so that the table as given runs
pub record IsLargest (T : Table) (p b M K : ℕ) : Type 0 where
  pub in_range : InRange T K
  pub serves : useful_limit T p K b ≤ M
  pub none_above : (L : ℕ) → K < L → InRange T L → useful_limit T p L b ≤ M → ⊥

-- there is none
abbrev pub NoneFits : Table → ℕ → ℕ → ℕ → Type 0
NoneFits T p b M = (K : ℕ) → InRange T K → M < useful_limit T p K b

-- the least that any K in that range needs, and the least such K
pub record IsLeast (T : Table) (p b K : ℕ) : Type 0 where
  pub in_range : InRange T K
  pub least : (L : ℕ) → InRange T L → useful_limit T p K b ≤ useful_limit T p L b
  pub first : (L : ℕ) → L < K → InRange T L → useful_limit T p K b < useful_limit T p L b

-- the table's own checks, 20 and 41 pass
pub record Asked (s : List ℕ) (p b : ℕ) : Type 0 where
  pub rules : Rules s
  pub some_worker : 1 ≤ p
  pub few_workers : p ≤ max_workers
  pub small_gap : b ≤ max_gap

-- ---- as it is computed

-- the least limit with which the rule with b has nothing to do: with the largest quota of all
abbrev pub unruled : Table → ℕ → ℕ
unruled T p = useful_limit T p max_quota 0

-- if that is within M every other quota is no better; if it is not, only demand 3's limit is left, for b at least 1
unfoldable pub largest_fit : Table → ℕ → ℕ → ℕ → ℕ
largest_fit T p b M = pick (leb (unruled T p) M) max_quota (most_quota T p b M)

unfoldable pub no_fit : Table → ℕ → ℕ → ℕ → Bool
no_fit T p b M = ltb M (unruled T p) && (eqb b 0 || no_quota T p b M)

-- the least quota that covers every stretch: in the range a stretch draws the same whatever K
unfoldable pub cover_quota : Table → ℕ
cover_quota T = max (least_quota T) (stretch T max_quota)

-- the limit rises with K up to where every stretch is covered, may fall there, and rises from there on
unfoldable pub least_need : Table → ℕ → ℕ → ℕ
least_need T p b =
    pick (leb (cover_quota T) max_quota && ltb (useful_limit T p (cover_quota T) b) (useful_limit T p (least_quota T) b)) (cover_quota T) (least_quota T)

abbrev pub fits_with : Table → ℕ → ℕ → ℕ → Fitted
fits_with T p b K = Fits K (useful_limit T p K b)

abbrev pub short_with : Table → ℕ → ℕ → ℕ → Fitted
short_with T p b K = Short K (useful_limit T p K b)

unfoldable pub own_fit : Table → ℕ → ℕ → ℕ → Fitted
own_fit T p b M = pick (no_fit T p b M) (short_with T p b (least_need T p b)) (fits_with T p b (largest_fit T p b M))

-- ---- the answer

-- the checks in their order: 1 to 11, 20, 41
abbrev pub fit_passes : List ℕ → ℕ → ℕ → List Pass
fit_passes s p b = passes s ++ (settings (workers_check p ∷ gap_check b ∷ []) ∷ [])

abbrev pub fitted_as : Result ⊤ Refusal → Fitted → Result Fitted Refusal
fitted_as (Ok _) x = Ok x
fitted_as (Err r) x = Err r

unfoldable pub fitted : List ℕ → ℕ → ℕ → ℕ → Result Fitted Refusal
fitted s p b M = fitted_as (first_found (fit_passes s p b)) (own_fit (table_of s) p b M)
