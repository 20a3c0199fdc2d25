-- Rows of turns from the beginning: what they hold is within the peak of p workers, and where K covers every stretch within the peak over resting places and R for each worker.
use Prim.Native.Nat.{ℕ, ◌-◌, ◌≤◌}
use mathlib.Core.List.{List, Memᴰ}
use Rattle.table.specs.Format.{Table}
use Rattle.schedule.specs.declared.Reply.{Reply}
use Rattle.schedule.specs.Begin.{start_state}
use Rattle.schedule.specs.Memory.{row_state, replies, row_memory}
use Rattle.order.proofs.Lawful.{Lawful}
use Rattle.order.proofs.Lists.{Below}
use Rattle.schedule.proofs.Preservation.Starts.{start_facts}
use Rattle.schedule.proofs.Runs.Rows.{row_facts, row_held}
use Rattle.peaks.specs.Peak.{workers_peak}
use Rattle.peaks.specs.Rests.{stretch, resting_peak}
use Rattle.peaks.proofs.Held.{peak_held}
use Rattle.peaks.proofs.LoadLaw.{row_light}
use Rattle.peaks.proofs.Unpreempted.{NoQuota, unpreempted_start, unpreempted_row}
use Rattle.peaks.proofs.Resting.{rest_held}

module _ (T : Table) (l : Lawful T) (p K : ℕ) (few : p ≤ 16) where
  pub row_peak : (row : List ℕ) → Below p row → row_memory T K row ≤ workers_peak T p
  unfolding workers_peak
  row_peak row h =
      rw (row_held T l p K few row h)
      at (peak_held T l p K (row_state T K (start_state T) row) (row_facts T l p K few (start_state T) (start_facts T l p K) row h) _ (row_light T l p K few row h))

  module _ (covers : stretch T K ≤ K) where
    pub row_rests : (row : List ℕ) → Below p row → row_memory T K row ≤ resting_peak T p
    unfolding resting_peak
    row_rests row h =
        let f = start_facts T l p K in
        rw (row_held T l p K few row h)
        at (rest_held T l p K (row_state T K (start_state T) row) (row_facts T l p K few (start_state T) f row h) (p - 1) (row_light T l p K few row h)
        (unpreempted_row T l p K covers few row h (start_state T) f (unpreempted_start T l p K covers few)).0.placed)

    -- no turn replies quota
    pub row_quiet : (row : List ℕ) → Below p row → (q : Reply) → Memᴰ q (replies T K (start_state T) row) → NoQuota q
    row_quiet row h = (unpreempted_row T l p K covers few row h (start_state T) (start_facts T l p K) (unpreempted_start T l p K covers few)).1
