-- What every sound record of DFDeques has, reached by a run or not: N13's statements on threads and deques, and N9's on amounts.
use mathlib.Core.Path.{◌≡◌, refl}
use mathlib.Core.Logic.{◌⊎◌, inl, inr, ◌↔◌}
use Prim.Native.Nat.{ℕ, zero, suc, ◌+◌, ◌≤◌, ◌<◌}
use native.Mathlib.Omega.{arith}
use mathlib.Core.List.Memᴰ
use mathlib.Core.List.{List, [], ◌∷◌, Memᴰ}
use lib.ListN.{get_or}
use lib.Dec.{eqb}
use borrow.Author.Tests.{eqb-true}
use Rattle.table.specs.Sum.{pick, sum_to}
use Rattle.schedule.specs.Machine.{held}
use Rattle.schedule.specs.Record.{table_in, max_workers}
use Rattle.schedule.specs.Sound.{holds_thread, one_holder}
use Rattle.order.specs.Words.{count_below}
use Rattle.schedule.proofs.Sound.Facts.{Facts}
use Rattle.schedule.proofs.ThreadMemory.{amounts_total}
use Rattle.deques.specs.declared.DequeRun.{DequeRun}
use Rattle.deques.specs.Deques.{Deque}
use Rattle.deques.specs.DequeRecord.{deques_in, deques_of}
use Rattle.deques.specs.DequeSound.{SteadyDeques}
use Rattle.deques.specs.Partition.{occurs, owned_by, InUse, AllInUse, status_is, ready_at, holds_at, places_of}
use Rattle.deques.proofs.DequeTurns.{with_serial, serial_facts}
use Rattle.deques.proofs.DequeStores.{steady_lawful}

one_status : (x : ℕ) → x ≤ 4
    → pick {A = ℕ} (eqb x 1) 1 0 + (pick {A = ℕ} (eqb x 2) 1 0 + (pick {A = ℕ} (eqb x 3) 1 0 + (pick {A = ℕ} (eqb x 0) 1 0 + pick {A = ℕ} (eqb x 4) 1 0))) ≡ 1
one_status zero h = refl
one_status (suc zero) h = refl
one_status (suc (suc zero)) h = refl
one_status (suc (suc (suc zero))) h = refl
one_status (suc (suc (suc (suc zero)))) h = refl
one_status (suc (suc (suc (suc (suc x))))) h = absurd (omega arith)

-- of a thread with one of the five statuses: it stands once in the deques where it is ready and else in none, exactly when it is one of the five
pub once_exactly : (status : List ℕ) (ds : List Deque) (t : ℕ) → get_or status t 0 ≤ 4 → (occurs t ds ≡ ready_at status t) ↔ (places_of status ds t ≡ 1)
unfolding places_of
once_exactly status ds t h =
    let o = one_status (get_or status t 0) h in
    ((λ e. omega (arith, e, o)), (λ e. omega (arith, e, o)))

in_use_each : (ds : List Deque) → AllInUse ds → (d : Deque) → Memᴰ d ds → InUse d
unfolding AllInUse
in_use_each [] m d i = absurd (Memᴰ.not-nil i)
in_use_each (x ∷ ds) m d i = go (Memᴰ.cases_cons i) (in_use_each ds m.1 d)
  where
    go : (d ≡ x) ⊎ Memᴰ d ds → (Memᴰ d ds → InUse d) → InUse d
    go (inl e) ih = rw e m.0
    go (inr j) ih = ih j

module _ (r : DequeRun) (h : SteadyDeques r) where
  known : Facts (table_in r.run) r.run.workers r.run.quota (with_serial (table_in r.run) (steady_lawful r h) (deques_of r).state)
  known = serial_facts (table_in r.run) (steady_lawful r h) r.run.workers r.run.quota (deques_of r).state h.common

  -- "every thread of the table is exactly one of these: in one deque, held, waiting, unborn, ended"
  pub thread_once : (t : ℕ) → t < (table_in r.run).threads → places_of r.run.status (deques_in r) t ≡ 1
  thread_once t i = (once_exactly r.run.status (deques_in r) t (known.status_known t i)).0 (h.placed.once t i)

  -- held by as many workers as its status says: one or none
  pub thread_held : (t : ℕ) → t < (table_in r.run).threads → count_below (holds_thread r.run.worker t) max_workers ≡ status_is held r.run.status t
  unfolding one_holder
  thread_held t i = eqb-true _ _ (h.common.holders t i)

  -- "A worker owns one deque while it holds a thread and otherwise none"
  pub owns_one : (w : ℕ) → w < max_workers → owned_by w (deques_in r) ≡ holds_at r.run.worker w
  owns_one w i = h.placed.owned w i

  -- "a deque has at most one owner", of which there is one number, "and an owner or a thread"
  pub owner_or_thread : (d : Deque) → Memᴰ d (deques_in r) → InUse d
  owner_or_thread = in_use_each (deques_in r) h.placed.in_use

  -- "The total over all threads equals the memory held" (N9)
  pub total_held : sum_to (λ t. get_or r.run.amounts t 0) 1024 ≡ r.run.held
  total_held =
      amounts_total (table_in r.run) (steady_lawful r h) r.run.workers r.run.quota (with_serial (table_in r.run) (steady_lawful r h) (deques_of r).state) known
