-- The answer from a few numbers of a table is the answer for the table.
use mathlib.Core.Path.{◌≡◌, refl, sym, ap, ◌∙◌}
use Prim.Native.Nat.{ℕ, ◌+◌, ◌-◌, ◌*◌, ◌≤◌, ◌<◌, min, max}
use native.Mathlib.Omega.{arith}
use mathlib.Core.List.{List}
use mathlib.Core.Bool.{Bool, true, false, not, ◌&&◌, ◌||◌}
use lib.Dec.{leb, ltb, eqb}
use borrow.Author.Tests.{le-leb, lt-leb, leb-true, leb-false, le-ltb, lt-ltb, ltb-false}
use Rattle.table.specs.Sum.{pick}
use Rattle.table.specs.Format.{Table, table_of}
use Rattle.table.specs.Serial.{S1}
use Rattle.schedule.specs.Begin.{max_quota}
use Rattle.schedule.specs.Memory.{limit}
use Rattle.peaks.specs.Peak.{workers_peak}
use Rattle.peaks.specs.Rests.{covered, resting_peak, useful_limit}
use Rattle.peaks.specs.Rests.{stretch as stretch_of}
use Rattle.quota.specs.Quota.{least_quota, InRange, cost_of, most_within, most_quota, no_quota}
use Rattle.quota.proofs.Largest.{limit_cost, most_small}
use Rattle.useful_limit.specs.declared.Parts.{Parts}
use Rattle.useful_limit.specs.declared.Fitted.{Fitted}
use Rattle.useful_limit.specs.declared.Fitted.TheVariants.{Fits, Short}
use Rattle.useful_limit.specs.Fit.{unruled, largest_fit, no_fit, cover_quota, least_need, own_fit}
use Rattle.useful_limit.specs.Fit.{fits_with, short_with as short_of}
use Rattle.useful_limit.specs.Code.Parts.{parts_of, need_with, unruled_with, fits_at, short_at, cover_with, short_with, most_with, fit_with}
use Rattle.useful_limit.proofs.InRange.{top_in_range, stretch_same, cover_low}

module _ (T : Table) (p b M : ℕ) (r : InRange T (least_quota T)) where
  abbrev x : Parts
  x = parts_of T p b max_quota

  need_of : (K : ℕ) → InRange T K → need_with (parts_of T p b max_quota) K ≡ useful_limit T p K b
  unfolding need_with useful_limit covered
  need_of K k = rw (stretch_same T K max_quota k (top_in_range T (least_quota T) r), limit_cost T p K b)

  unruled_of : unruled_with (parts_of T p b max_quota) ≡ unruled T p
  unfolding unruled_with useful_limit covered
  unruled_of = omega arith

  pick_short : (z : Bool) (K L : ℕ) → pick z (short_of T p b K) (short_of T p b L) ≡ short_of T p b (pick z K L)
  pick_short true K L = refl
  pick_short false K L = refl

  short_of_lem : short_with (parts_of T p b max_quota) ≡ short_of T p b (least_need T p b)
  unfolding short_with least_need cover_quota
  short_of_lem = rw (need_of (least_quota T) r) (go (leb (max (least_quota T) (stretch_of T max_quota)) max_quota) refl)
    where
      c : ℕ
      c = max (least_quota T) (stretch_of T max_quota)

      go : (q : Bool) → leb c max_quota ≡ q
          → pick (q && ltb (need_with (parts_of T p b max_quota) c) (useful_limit T p (least_quota T) b)) (short_at (parts_of T p b max_quota) c) (short_of T p b (least_quota T))
          ≡ short_of T p b (pick (q && ltb (useful_limit T p c b) (useful_limit T p (least_quota T) b)) c (least_quota T))
      go false e = refl
      go true e =
          rw (need_of c (record { low = omega arith; high = leb-true c max_quota e }))
          (pick_short (ltb (useful_limit T p c b) (useful_limit T p (least_quota T) b)) c (least_quota T))

  pub fit_of : fit_with (parts_of T p b max_quota) M ≡ own_fit T p b M
  unfolding fit_with own_fit no_fit largest_fit no_quota most_quota
  fit_of = rw (unruled_of, short_of_lem) (go (leb (unruled T p) M) refl (eqb b 0) refl (ltb M (S1 T)) refl (ltb k (least_quota T)) refl)
    where
      k : ℕ
      k = most_within (cost_of T p b) (M - S1 T)

      within : k ≤ max_quota
      within = most_small (cost_of T p b) (M - S1 T)

      test : (q : Bool) → leb (unruled T p) M ≡ q → ltb M (unruled T p) ≡ not q
      test true e = le-ltb M (unruled T p) (leb-true (unruled T p) M e)
      test false e = lt-ltb M (unruled T p) (leb-false (unruled T p) M e)

      go : (q : Bool) → leb (unruled T p) M ≡ q → (f : Bool) → eqb b 0 ≡ f → (g : Bool) → ltb M (S1 T) ≡ g → (h : Bool) → ltb k (least_quota T) ≡ h
          → pick q (fits_at (parts_of T p b max_quota) max_quota) (pick (f || (g || h)) (short_of T p b (least_need T p b)) (fits_at (parts_of T p b max_quota) k))
          ≡ pick (ltb M (unruled T p) && (f || (g || h))) (short_of T p b (least_need T p b)) (fits_with T p b (pick q max_quota k))
      go true e f ef g eg h eh = rw (test true e, need_of max_quota (top_in_range T (least_quota T) r))
      go false e true ef g eg h eh = rw (test false e)
      go false e false ef true eg h eh = rw (test false e)
      go false e false ef false eg true eh = rw (test false e)
      go false e false ef false eg false eh = rw (test false e, need_of k (record { low = ltb-false k (least_quota T) eh; high = within }))
