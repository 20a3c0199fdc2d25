-- The few numbers of an accepted table: that they are small, and what the code's parts come to.
use Rattle.std.specs.Prelude.{Err, Ok, Result}
use Rattle.std.specs.Result.{result_unwrap_or}
use mathlib.Core.Path.{◌≡◌, refl, sym, ap, ◌∙◌}
use Prim.Native.Nat.{ℕ, ◌+◌, ◌-◌, ◌*◌, ◌≤◌, ◌<◌}
use native.Mathlib.Omega.{arith}
use native.Mathlib.Nat.{mul-le-mul, mul-le-mul_left}
use mathlib.Core.List.{List}
use mathlib.Core.Bool.{Bool, true, false}
use lib.Dec.{eqb}
use borrow.Author.Tests.{le-ltb}
use Rattle.table.specs.Sum.{pick, greatest_to}
use Rattle.table.specs.Format.{is, kind, Table, table_of}
use Rattle.table.specs.declared.kinds.Kind.TheVariants.{Alloc as alloc}
use Rattle.table.specs.Checks.{alloc_of, free_of, passes}
use Rattle.table.specs.Rules.{Rules}
use Rattle.table.specs.Serial.{S1}
use Rattle.table.specs.Level.{D}
use Rattle.table.specs.declared.Facts.{Facts}
use Rattle.table.specs.declared.Refusal.{Refusal}
use Rattle.table.proofs.Tests.{no_way}
use Rattle.table.proofs.Passes.{passes_rules}
use Rattle.table.proofs.NestedThreads.{greatest_under}
use Rattle.facts.proofs.Accepted.{kept, shallow}
use Rattle.order.proofs.Lawful.{Lawful, lawful}
use Rattle.schedule.specs.Begin.{max_quota}
use Rattle.peaks.specs.Peak.{peak_on, workers_peak}
use Rattle.peaks.specs.Rests.{resting_peak, parallel_peak}
use Rattle.peaks.specs.Rests.{stretch as stretch_of}
use Rattle.peaks.proofs.PeakSizes.{peak_bound}
use Rattle.peaks.proofs.OneWorker.{one_worker}
use Rattle.peak_walk.specs.Peaked.{standing, peaked, paralleled}
use Rattle.peak_walk.specs.Along.{since_rest, rise_along}
use Rattle.peak_walk.proofs.RiseAlong.{since_small, rise_along_lem}
use Rattle.quota.specs.Quota.{least_quota, cost_of, max_gap}
use Rattle.quota.specs.Code.Steps.{Accepted}
use Rattle.quota.proofs.Checks.{peak_is, depth_is}
use Rattle.useful_limit.specs.declared.Parts.{Parts}
use Rattle.useful_limit.specs.Code.Parts.{Sums, parts_of}
use Rattle.useful_limit.proofs.InRange.{alloc_short, least_in_range}

module _ (s : List ℕ) (rules : Rules s) where
  abbrev T : Table
  T = table_of s

  abbrev l : Lawful (table_of s)
  l = lawful s rules

  -- 2^24 for each of 8,192 actions
  pub peak_small : (stop : ℕ → Bool) (r : ℕ) → peak_on (table_of s) stop 0 r ≤ 137438945280
  peak_small stop r = omega (arith, peak_bound T l max_quota (λ a h. alloc_short s a) stop 0 r l.some_thread, mul-le-mul_left max_quota l.few_actions)

  pub serial_small : S1 (table_of s) ≤ 137438945280
  unfolding workers_peak
  serial_small = rw (← one_worker T l) (peak_small (λ a. true) 0)

  pub rise_small : rise_along (table_of s) ≤ 137438945280
  unfolding rise_along
  rise_small =
      greatest_under _ T.actions _
      (λ a h. omega (arith, since_small T (alloc_of T) (λ i. alloc_short s i) a, l.few_actions))

  -- ---- the code's parts

  -- no check applies to it
  pub peak_given : (load : ℕ) (resting : Bool) {a : Result ℕ Refusal} {v : ℕ} → load ≤ 16 → a ≡ peaked s load resting → v ≡ result_unwrap_or a 0
      → v ≡ peak_on (table_of s) (standing (table_of s) resting) 0 load
  unfolding peaked
  peak_given load resting h e d = d ∙ rw (e, (passes_rules s).1 rules, le-ltb 16 load h)

  pub parallel_given : {a : Result ℕ Refusal} {v : ℕ} → a ≡ paralleled s → v ≡ result_unwrap_or a 0 → v ≡ parallel_peak (table_of s)
  unfolding paralleled
  parallel_given e d = d ∙ rw (e, (passes_rules s).1 rules)

  pub resting_is : (p : ℕ) {x y : ℕ} → x ≡ peak_on (table_of s) (standing (table_of s) true) 0 (p - 1) → y ≡ rise_along (table_of s) → x + p * y ≡ resting_peak (table_of s) p
  unfolding resting_peak
  resting_is p e d = rw (e, d, rise_along_lem T l)

  pub resting_fits : (p : ℕ) {x y : ℕ} → p ≤ 16 → x ≡ peak_on (table_of s) (standing (table_of s) true) 0 (p - 1) → y ≡ rise_along (table_of s) → (p * y < 18446744073709551616) × (x + p * y < 18446744073709551616)
  resting_fits p {x} {y} h e d =
      let u : y ≤ 137438945280 = omega (arith, d, rise_small) in
      let m : p * y ≤ 16 * 137438945280 = mul-le-mul h u in
      (omega (arith, m), omega (arith, m, e, peak_small (standing T true) (p - 1)))

  pub sums_of_lem : (p b K : ℕ) → p ≤ 16 → b ≤ max_gap → Sums (parts_of (table_of s) p b K)
  unfolding cost_of
  sums_of_lem p b K h g =
      let few : p - 1 ≤ 15 = omega arith in
      let deep : D T - 1 ≤ 8191 = omega (arith, shallow (kept s ((passes_rules s).1 rules) refl refl)) in
      record {
        limited = omega (arith, serial_small, mul-le-mul (mul-le-mul g few) deep);
        low = (least_in_range s).high;
      }

module _ {s : List ℕ} {f : Facts} (a : Accepted s f) (p b K : ℕ) where
  -- put together
  pub parts_are : {cost peak resting stretch least : ℕ}
      → cost ≡ b * (p - 1) * (f.depth - 1)
      → peak ≡ peak_on (table_of s) (standing (table_of s) false) 0 (p - 1)
      → resting ≡ resting_peak (table_of s) p
      → stretch ≡ stretch_of (table_of s) K
      → least ≡ least_quota (table_of s)
      → record { serial = f.peak; cost = cost; free = eqb b 0; peak = peak; resting = resting; stretch = stretch; least = least } ≡ parts_of (table_of s) p b K
  unfolding cost_of workers_peak
  parts_are e₁ e₂ e₃ e₄ e₅ = rw (e₁, e₂, e₃, e₄, e₅, peak_is a, depth_is a)

  pub both : {x : Parts} → p ≤ 16 → b ≤ max_gap → x ≡ parts_of (table_of s) p b K → (x ≡ parts_of (table_of s) p b K) × Sums x
  both h g e = (e, rw e (sums_of_lem s a.rules p b K h g))
