-- What a worker's action leaves in lent memory.
use Rattle.std.specs.Prelude.{◌≡◌, ℕ, ◌+◌, ◌^◌, ◌<◌, List, [], ◌∷◌, Bool, true, false, get_or, set, None, Option, Some}
use Rattle.table.specs.Sum.{pick}
use Rattle.table.specs.Format.{Table}
use Rattle.table.specs.declared.kinds.Kind.{Kind}
use Rattle.schedule.specs.declared.Worker.{Worker}
use Rattle.schedule.specs.declared.Reply.{Reply}
use Rattle.schedule.specs.declared.Reply.TheVariants.{Idle}
use Rattle.schedule.specs.Machine.{ready, held}
use Rattle.table.specs.Checks.{max_threads}
use Rattle.schedule.specs.Record.{max_workers}
use Rattle.array_machine.specs.Arrays.{with_statuses}
use Rattle.array_machine.specs.Turn.{Outcome, act_on}
use Rattle.array_machine.specs.Counted.{busy_after}
use Rattle.run_memory.specs.Memory.{Memory, memory, worker_in, moved_in}

-- whether all fitted; if not, nothing was moved
pub record Gone : Type 0 where
  pub fits : Bool
  pub reply : Reply
  pub memory : Memory

-- of a reply, or none where something does not fit
abbrev pub gone : Option Reply → Memory → Gone
gone None M = record { fits = false; reply = Idle; memory = M }
gone (Some r) M = record { fits = true; reply = r; memory = M }

-- the memory after it, the turn not yet counted
abbrev pub went_to : Memory → ℕ → Outcome → Memory
went_to M w o =
    memory M.settings M.parents o.arrays (set M.holds w (pick o.worker.holds 1 0)) (set M.threads w o.worker.thread) (set M.quotas w o.worker.quota)
    (o.totals.leftmost ∷ o.totals.first ∷ busy_after (moved_in M).busy (worker_in M w).holds o.worker.holds w ∷ [])
    (o.totals.held ∷ o.totals.highest ∷ (moved_in M).turns ∷ [])

unfoldable pub went_in : Memory → ℕ → Outcome → Gone
went_in M w o = pick o.fits (record { fits = true; reply = o.reply; memory = went_to M w o }) (record { fits = false; reply = Idle; memory = M })

-- once worker w has thread t: its own, or one that it takes
abbrev pub seated_status : Memory → ℕ → ℕ → List ℕ
seated_status M w t = pick (worker_in M w).holds M.arrays.status (set M.arrays.status t held)

abbrev pub seated_quota : Memory → ℕ → ℕ
seated_quota M w = pick (worker_in M w).holds (get_or M.quotas w 0) (get_or M.settings 1 0)

abbrev pub seated_worker : Memory → ℕ → ℕ → Worker
seated_worker M w t = record { holds = true; thread = t; quota = seated_quota M w }

-- it does action a of kind k with argument x
abbrev pub acted : Kind → Table → ℕ → ℕ → ℕ → ℕ → Memory → Gone
acted k T w t a x M = went_in M w (act_on k T (get_or M.settings 1 0) M.parents t a x (with_statuses (seated_status M w t) M.arrays) (moved_in M).totals (seated_worker M w t))

-- worker w has thread t or takes it, and the set has room for its bit; the thread is at action a
pub record Seated (M : Memory) (w t a : ℕ) : Type 0 where
  pub few : w < max_workers
  pub thread : t < max_threads
  pub action : a ≡ get_or M.arrays.next t 0
  pub room : (worker_in M w).holds ≡ false → (moved_in M).busy + 2 ^ w < 65536
  pub taken : (worker_in M w).holds ≡ false → get_or M.arrays.status t 0 ≡ ready
