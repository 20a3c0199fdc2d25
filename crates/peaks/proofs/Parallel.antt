-- The parallel peak bounds what every sound record holds and the peak of any number of workers; with enough workers it is their peak.
use mathlib.Core.Path.{◌≡◌, refl, ap}
use Prim.Native.Nat.{ℕ, zero, suc, ◌+◌, ◌-◌, ◌*◌, ◌≤◌, ◌<◌}
use native.Mathlib.Omega.{arith}
use native.Mathlib.Nat.{mul-suc, mul-le-mul_left}
use mathlib.Core.List.{List, [], ◌∷◌, Memᴰ}
use mathlib.Core.Bool.{Bool, true, false}
use lib.ListN.{length}
use Rattle.table.specs.Sum.{pick, sum_over, greatest_to}
use Rattle.table.specs.Format.{Table, kind}
use Rattle.table.specs.declared.kinds.Kind.{Kind}
use Rattle.table.specs.declared.kinds.Kind.TheVariants.{End as end, Work as work, Alloc as alloc, Free as free, Fork as fork, Join as join, Unknown as unknown}
use Rattle.table.specs.Checks.{open_before, opened}
use Rattle.table.proofs.Sums.{sum_to_zero}
use Rattle.table.proofs.Bodies.{body_within}
use Rattle.table.proofs.NestedThreads.{greatest_at, greatest_under}
use Rattle.schedule.specs.declared.Run.{Run}
use Rattle.schedule.specs.declared.Worker.{Worker}
use Rattle.schedule.specs.Machine.{State}
use Rattle.schedule.specs.Record.{state_of, table_in}
use Rattle.schedule.specs.Sound.{balance_to, progress, Common, Steady}
use Rattle.order.proofs.Lawful.{Lawful}
use Rattle.schedule.proofs.Sound.Facts.{Facts}
use Rattle.schedule.proofs.Sound.Shares.{progress_within}
use Rattle.schedule.proofs.Stores.{steady_lawful, steady_facts}
use Rattle.peaks.specs.Peak.{fresh, final, gain, most, peak_there, peak_on, peak_at, workers_peak}
use Rattle.peaks.specs.Rests.{best_within, best, parallel_peak}
use Rattle.peaks.proofs.Opens.{reach, open_child, open_over}
use Rattle.table.proofs.Sums.{greatest_to_cong, sum_over_cong}
use Rattle.peaks.proofs.Weights.{within_weights}
use Rattle.schedule.proofs.SerialLive.{with_live, common_facts}
use Rattle.peaks.proofs.Peaks.{peak_is, peak_at_lem}
use Rattle.peaks.proofs.PeakSizes.{most_under}

module _ (T : Table) (l : Lawful T) where
  abbrev reaches : (ℕ → ℕ) → ℕ → ℕ → ℕ
  reaches v t k = balance_to T t k + sum_over v (open_before T (T.first t + k))

  best_fuel : (f g t : ℕ) → t < T.threads → T.threads ≤ f + t → T.threads ≤ g + t → best_within f T t ≡ best_within g T t
  unfolding best_within
  best_fuel zero g t h i j = absurd (omega arith)
  best_fuel (suc f) zero t h i j = absurd (omega arith)
  best_fuel (suc f) (suc g) t h i j =
      greatest_to_cong (reaches (best_within f T) t) (reaches (best_within g T) t) (suc (T.count t))
      (λ k m.
      ap (balance_to T t k +◌)
      (sum_over_cong (best_within f T) (best_within g T) (open_before T (T.first t + k))
      (λ d n. let (a, b) = open_child T l t k d h (omega arith) n in best_fuel f g d b (omega arith) (omega arith))))

  pub best_is : (t : ℕ) → t < T.threads → best T t ≡ greatest_to (λ k. balance_to T t k + sum_over (best T) (open_before T (T.first t + k))) (suc (T.count t))
  unfolding best_within
  best_is t h = best_fuel T.threads (suc T.threads) t h (omega arith) (omega arith)

  best_at : (t k : ℕ) → t < T.threads → k ≤ T.count t → balance_to T t k + sum_over (best T) (open_before T (T.first t + k)) ≤ best T t
  best_at t k h i = rw (best_is t h) (greatest_at (reaches (best T) t) (suc (T.count t)) k (omega arith))

  best_final : (t : ℕ) → t < T.threads → final T t ≤ best T t
  unfolding sum_over
  best_final t h = omega (arith, rw (open_over T l t h) at (best_at t (T.count t) h (omega arith)))

  pub peak_best : (stop : ℕ → Bool) (t r : ℕ) → t < T.threads → peak_on T stop t r ≤ best T t
  unfolding peak_there
  peak_best stop t r h = go T.threads t r (omega arith) h
    where
      go : (fuel t r : ℕ) → T.threads ≤ fuel + t → t < T.threads → peak_on T stop t r ≤ best T t
      go zero t r b h = absurd (omega arith)
      go (suc fuel) t r b h = rw (peak_is T l stop t r h) (greatest_under _ (suc (T.count t)) _ (λ k i. each k (omega arith) (stop (T.first t + k)) (λ d s a c. go fuel d s (omega arith) c)))
        where
          each : (k : ℕ) → k ≤ T.count t → (q : Bool) → ((d s : ℕ) → t < d → d < T.threads → peak_on T stop d s ≤ best T d) → pick q (peak_there T (peak_on T stop) t r k) 0 ≤ best T t
          each k i false ih = omega arith
          each k i true ih =
              omega (
                arith,
                best_at t k h i,
                most_under T (peak_on T stop) (best T) r (fresh T (T.first t + k)) (open_before T (T.first t + k))
                    (λ d m. let (a, b) = open_child T l t k d h i m in (best_final d b, λ s. ih d s a b)),
              )

  pub workers_parallel : (p : ℕ) → workers_peak T p ≤ parallel_peak T
  unfolding workers_peak parallel_peak
  workers_parallel p = peak_best (λ a. true) 0 (p - 1) l.some_thread

-- ---- every sound record

pub parallel_held : (T : Table) (l : Lawful T) (p K : ℕ) (st : State) → Facts T p K st → st.held ≤ parallel_peak T
unfolding parallel_peak reach
parallel_held T l p K st f =
    omega (
      arith,
      within_weights T l p K st f (best T) (λ t. 0) (λ t h n j. omega (arith, best_at T l t (progress T st t) h (progress_within T l p K st f t h))),
      sum_to_zero (λ t. 0) T.threads (λ t h. refl),
    )

-- of every state with what any kind of run keeps
pub parallel_common : (T : Table) (l : Lawful T) (p K : ℕ) (next status amounts : List ℕ) (workers : List Worker) (amount highest : ℕ)
    → Common T p K next status amounts workers amount highest → amount ≤ parallel_peak T
parallel_common T l p K next status amounts workers amount highest c =
    parallel_held T l p K (with_live T l next status amounts workers amount highest) (common_facts T l next status amounts workers amount highest p K c)

-- also of one made up by hand
pub parallel_record : (r : Run) → Steady r → r.held ≤ parallel_peak (table_in r)
parallel_record r h = parallel_held (table_in r) (steady_lawful r h) r.workers r.quota (state_of r) (steady_facts r h)

-- ---- enough workers

-- all open children unended, with the load that the last of them has left
all_unended : (T : Table) (peak : ℕ → ℕ → ℕ) (B : ℕ → ℕ) (r : ℕ) (l : List ℕ) → ((d s : ℕ) → Memᴰ d l → r ≤ s + length l → B d ≤ peak d s)
    → sum_over B l ≤ gain T peak r l (length l)
unfolding gain sum_over
all_unended T peak B r [] h = omega arith
all_unended T peak B r (c ∷ l) h =
    omega (
      arith,
      all_unended T peak B r l (λ d s m e. h d s (Memᴰ.tail m) (omega arith)),
      h c (r - length l) (Memᴰ.head refl) (omega arith),
    )

-- no more stand open than actions were passed
opened_length : (k : Kind) (x : ℕ) (l : List ℕ) → length (opened k x l) ≤ suc (length l)
opened_length end x l = omega arith
opened_length work x l = omega arith
opened_length alloc x l = omega arith
opened_length free x l = omega arith
opened_length fork x l = omega arith
opened_length join x [] = omega arith
opened_length join x (c ∷ l) = omega arith
opened_length unknown x l = omega arith

open_length : (T : Table) (a : ℕ) → length (open_before T a) ≤ a
unfolding open_before
open_length T zero = omega arith
open_length T (suc a) = omega (arith, open_length T a, opened_length (kind T a) (T.argument a) (open_before T a))

module _ (T : Table) (l : Lawful T) where
  enough : (t r : ℕ) → t < T.threads → T.actions * (T.threads - t) ≤ r → best T t ≤ peak_at T t r
  unfolding most
  enough t r h b = go T.threads t r (omega arith) h b
    where
      -- a thread more, all actions more
      less : (t d : ℕ) → t < d → d < T.threads → T.actions * (T.threads - d) + T.actions ≤ T.actions * (T.threads - t)
      less t d a c =
          let e : suc (T.threads - d) ≤ T.threads - t = omega arith in
          omega (arith, mul-le-mul_left T.actions e, mul-suc T.actions (T.threads - d))

      at_least : (t : ℕ) → t < T.threads → T.actions ≤ T.actions * (T.threads - t)
      at_least t h =
          let e : 1 ≤ T.threads - t = omega arith in
          omega (arith, mul-le-mul_left T.actions e)

      go : (fuel t r : ℕ) → T.threads ≤ fuel + t → t < T.threads → T.actions * (T.threads - t) ≤ r → best T t ≤ peak_at T t r
      go zero t r e h b = absurd (omega arith)
      go (suc fuel) t r e h b =
          rw (best_is T l t h) (greatest_under _ (suc (T.count t)) _ (λ k i. each k (omega arith) (λ d s a c q. go fuel d s (omega arith) c q)))
        where
          each : (k : ℕ) → k ≤ T.count t → ((d s : ℕ) → t < d → d < T.threads → T.actions * (T.threads - d) ≤ s → best T d ≤ peak_at T d s)
              → balance_to T t k + sum_over (best T) (open_before T (T.first t + k)) ≤ peak_at T t r
          each k i ih =
              let cs : List ℕ = open_before T (T.first t + k) in
              let short : length cs ≤ T.actions = omega (arith, open_length T (T.first t + k), body_within T l.contents t h) in
              omega (
                arith,
                peak_at_lem T l (λ a. true) t r k h i refl,
                greatest_at (gain T (peak_at T) r cs) (suc r) (length cs) (omega (arith, short, b, at_least t h)),
                all_unended T (peak_at T) (best T) r cs
                    (λ d s m q. let (a, c) = open_child T l t k d h i m in ih d s a c (omega (arith, short, b, q, less t d a c))),
              )

  pub enough_workers : (p : ℕ) → T.actions * T.threads < p → workers_peak T p ≡ parallel_peak T
  unfolding workers_peak parallel_peak
  enough_workers p h =
      let z : T.threads - 0 ≡ T.threads = omega arith in
      omega (arith, peak_best T l (λ a. true) 0 (p - 1) l.some_thread, enough 0 (p - 1) l.some_thread (rw z (omega arith)))
