-- What `fitquota` and `memlimit` answer, from a few numbers of a table.
use Rattle.std.specs.Prelude.{ℕ, ◌+◌, ◌-◌, ◌*◌, ◌≤◌, ◌<◌, min, max, Bool, ◌&&◌, ◌||◌, List, [], ◌∷◌, leb, ltb, eqb, Err, Ok, Result, ⊤}
use Rattle.table.specs.Sum.{pick}
use Rattle.table.specs.Format.{Table, table_of}
use Rattle.table.specs.Pass.{refusal, try_pass}
use Rattle.table.specs.Serial.{S1}
use Rattle.table.specs.declared.Refusal.{Refusal}
use Rattle.schedule.specs.Begin.{max_quota}
use Rattle.peaks.specs.Peak.{workers_peak}
use Rattle.peaks.specs.Rests.{resting_peak}
use Rattle.peaks.specs.Rests.{stretch as stretch_of}
use Rattle.quota.specs.Quota.{least_quota, cost_of, most_within, max_gap}
use Rattle.useful_limit.specs.declared.Parts.{Parts}
use Rattle.useful_limit.specs.declared.Fitted.{Fitted}
use Rattle.useful_limit.specs.declared.Fitted.TheVariants.{Fits, Short}
use Rattle.useful_limit.specs.Limits.{workers_check, gap_check, settings}
use Rattle.useful_limit.specs.Fit.{own_fit, fitted_as}

-- of a table; the stretches draw under K
abbrev pub parts_of : Table → ℕ → ℕ → ℕ → Parts
parts_of T p b K =
    record {
      serial = S1 T;
      cost = cost_of T p b;
      free = eqb b 0;
      peak = workers_peak T p;
      resting = resting_peak T p;
      stretch = stretch_of T K;
      least = least_quota T;
    }

-- no sum is too large
pub record Sums (x : Parts) : Type 0 where
  pub limited : x.serial + 16777215 * x.cost < 18446744073709551616
  pub low : x.least ≤ 16777215

-- demand 3's limit where b is at least 1
abbrev pub ruled_need : Parts → ℕ → ℕ
ruled_need x K = pick x.free x.peak (x.serial + K * x.cost)

-- over resting places, where K covers every stretch
abbrev pub rested_need : Parts → ℕ → ℕ
rested_need x K = pick (leb x.stretch K) x.resting x.peak

unfoldable pub need_with : Parts → ℕ → ℕ
need_with x K = min x.peak (min (ruled_need x K) (rested_need x K))

unfoldable pub unruled_with : Parts → ℕ
unruled_with x = min x.peak (rested_need x max_quota)

abbrev pub fits_at : Parts → ℕ → Fitted
fits_at x K = Fits K (need_with x K)

abbrev pub short_at : Parts → ℕ → Fitted
short_at x K = Short K (need_with x K)

abbrev pub cover_with : Parts → ℕ
cover_with x = max x.least x.stretch

unfoldable pub short_with : Parts → Fitted
short_with x = pick (leb (cover_with x) max_quota && ltb (need_with x (cover_with x)) (need_with x x.least)) (short_at x (cover_with x)) (short_at x x.least)

abbrev pub most_with : Parts → ℕ → ℕ
most_with x M = most_within x.cost (M - x.serial)

unfoldable pub fit_with : Parts → ℕ → Fitted
fit_with x M =
    pick (leb (unruled_with x) M) (fits_at x max_quota)
    (pick (x.free || (ltb M x.serial || ltb (most_with x M) x.least)) (short_with x) (fits_at x (most_with x M)))

-- the answer where the table's own checks pass: 20, 41
unfoldable pub own_answer : List ℕ → ℕ → ℕ → ℕ → Result Fitted Refusal
own_answer s p b M = fitted_as (try_pass (settings (workers_check p ∷ gap_check b ∷ []))) (own_fit (table_of s) p b M)

-- ---- memlimit

-- p, K and b in range
pub record Asked (p K b : ℕ) : Type 0 where
  pub some_worker : 1 ≤ p
  pub few_workers : p ≤ 16
  pub few_quota : K ≤ 16777215
  pub small_gap : b ≤ max_gap

-- where a number behind p is out of its range: the table's own check, or 20, or that number's
abbrev pub wide_fault : Result ⊤ Refusal → Bool → ℕ → Refusal
wide_fault (Err r) q k = r
wide_fault (Ok _) q k = refusal (pick q 20 k) 0
