-- Rows of turns from the beginning: every live thread that nobody holds stands at a resting place under K, and what is held is within the peak of p workers with
-- quota K, and within the peak under both laws.
use mathlib.Core.Path.{◌≡◌, refl}
use Prim.Native.Nat.{ℕ, ◌-◌, ◌≤◌, ◌<◌}
use native.Mathlib.Omega.{arith}
use native.Mathlib.Decide.{ℕ_discrete}
use mathlib.Core.List.{List}
use mathlib.Core.Bool.{Bool, true, false, not, ◌&&◌}
use lib.Dec.{eqb}
use borrow.Author.Tests.{not-true, eqb-false, eq-eqb}
use Rattle.table.specs.Sum.{pick}
use Rattle.table.specs.Format.{Table}
use Rattle.table.proofs.Tests.{no_way, and_both}
use Rattle.table.proofs.Sums.{sum_to_le}
use Rattle.schedule.specs.Machine.{State, unborn, held, ended, status_of, next_of}
use Rattle.schedule.specs.Begin.{start_state}
use Rattle.schedule.specs.Memory.{row_state, row_memory, peak_memory}
use Rattle.schedule.specs.Sound.{live_in}
use Rattle.order.specs.Words.{count_below}
use Rattle.order.proofs.Lawful.{Lawful}
use Rattle.order.proofs.Lists.{Below}
use Rattle.schedule.proofs.Preservation.Starts.{start_facts}
use Rattle.schedule.proofs.Runs.Rows.{front_workers, row_facts, row_held}
use Rattle.schedule.proofs.Sound.Facts.{Facts}
use Rattle.peaks.proofs.LoadLaw.{row_light}
use Rattle.peaks.proofs.Unpreempted.{Stands}
use Rattle.sharp.specs.Off.{rests_under, is_off, quota_peak}
use Rattle.sharp.specs.Need.{need_peak}
use Rattle.sharp.proofs.OffRests.{under_end}
use Rattle.sharp.proofs.Unheld.{unheld_start, unheld_row}
use Rattle.sharp.proofs.OffHeld.{few_held, off_held}
use Rattle.sharp.proofs.NeedLaw.{row_need_light}
use Rattle.sharp.proofs.NeedHeld.{need_held}
use Rattle.table.proofs.Tests.{pick_most}
use Rattle.schedule.proofs.Runs.Rows.{peak_within_lem}

-- at most p threads are off where those that nobody holds are not
few_off : (T : Table) (p K : ℕ) (st : State) → Facts T p K st → ((t : ℕ) → t < T.threads → Stands (status_of st t) → rests_under T K (next_of st t) ≡ true)
    → count_below (is_off T K st.next st.status) T.threads ≤ p
unfolding is_off live_in
few_off T p K st f placed =
    omega (
      arith,
      few_held T p K st f,
      sum_to_le (λ t. pick (is_off T K st.next st.status t) 1 0) (λ t. pick (eqb (status_of st t) held) 1 0) T.threads
          (λ t h. go t h (ℕ_discrete (status_of st t) held) (is_off T K st.next st.status t) refl),
    )
  where
    go : (t : ℕ) → t < T.threads → Dec (status_of st t ≡ held) → (q : Bool) → is_off T K st.next st.status t ≡ q → pick q 1 0 ≤ pick (eqb (status_of st t) held) 1 0
    go t h (yes e) q i = rw (eq-eqb (status_of st t) held e) (pick_most q 1)
    go t h (no n) false i = omega arith
    go t h (no n) true i =
        let (a, b) = and_both (not (eqb (status_of st t) unborn) && not (eqb (status_of st t) ended)) _ i in
        let (c, d) = and_both (not (eqb (status_of st t) unborn)) _ a in
        let z : rests_under T K (next_of st t) ≡ true = placed t h (eqb-false (status_of st t) unborn (not-true _ c), eqb-false (status_of st t) ended (not-true _ d), n) in
        no_way (cc (not-true (rests_under T K (next_of st t)) b))

module _ (T : Table) (l : Lawful T) (p K : ℕ) (few : p ≤ 16) where
  -- (R)
  pub row_placed : (row : List ℕ) → Below p row → (t : ℕ) → t < T.threads → Stands (status_of (row_state T K (start_state T) row) t)
      → rests_under T K (next_of (row_state T K (start_state T) row) t) ≡ true
  row_placed row h = (unheld_row T l p K few row h (start_state T) (start_facts T l p K) (unheld_start T l p K few)).placed.at_rest

  pub row_off : (row : List ℕ) → Below p row → count_below (is_off T K (row_state T K (start_state T) row).next (row_state T K (start_state T) row).status) T.threads ≤ p
  row_off row h = few_off T p K (row_state T K (start_state T) row) (row_facts T l p K few (start_state T) (start_facts T l p K) row h) (row_placed row h)

  -- C
  pub row_quota : (row : List ℕ) → Below p row → row_memory T K row ≤ quota_peak T p K
  unfolding quota_peak
  row_quota row h =
      rw (row_held T l p K few row h)
      at (off_held T l p K (row_state T K (start_state T) row) (row_facts T l p K few (start_state T) (start_facts T l p K) row h) (p - 1) (row_light T l p K few row h) (rests_under T K) (under_end T K)
      (row_placed row h))

  pub row_quotas : (row : List ℕ) → Below p row → peak_memory T K row ≤ quota_peak T p K
  row_quotas row h = peak_within_lem T K (quota_peak T p K) row (λ front rest e. row_quota front (front_workers (λ w. w < p) row front rest e h))

  -- CE
  pub row_need : (row : List ℕ) → Below p row → row_memory T K row ≤ need_peak T p K
  unfolding need_peak
  row_need row h =
      rw (row_held T l p K few row h)
      at (need_held T l p K (row_state T K (start_state T) row) (row_facts T l p K few (start_state T) (start_facts T l p K) row h) (p - 1) (row_need_light T l p K few row h) (rests_under T K) (under_end T K)
      (row_placed row h))

  pub row_needs : (row : List ℕ) → Below p row → peak_memory T K row ≤ need_peak T p K
  row_needs row h = peak_within_lem T K (need_peak T p K) row (λ front rest e. row_need front (front_workers (λ w. w < p) row front rest e h))
