-- What every sound record has, reached by a run or not.
use mathlib.Core.Path.{◌≡◌, refl, ap, ◌∙◌}
use Prim.Native.Nat.{ℕ, ◌+◌, ◌*◌, ◌^◌, ◌≤◌, ◌<◌}
use native.Mathlib.Omega.{arith}
use mathlib.Core.List.Memᴰ
use mathlib.Core.List.{List, [], ◌∷◌}
use mathlib.Core.Bool.{Bool, true, false}
use mathlib.Core.Logic.{◌⊎◌}
use lib.Count.{ones}
use lib.ListN.{length}
use borrow.Author.Tests.{eqb-false}
use Rattle.table.specs.Sum.{pick, sum_to}
use Rattle.table.specs.Format.{kind}
use Rattle.table.specs.declared.kinds.Kind.TheVariants.{Free as free}
use Rattle.table.specs.Checks.{end_of, alloc_of}
use Rattle.table.proofs.ReadBack.{alloc_short}
use Rattle.schedule.specs.declared.Run.{Run}
use Rattle.schedule.specs.Machine.{unborn, ready, held, ended, next_of, status_of, worker_of}
use Rattle.schedule.specs.Record.{bytes_of, state_of, table_in}
use Rattle.schedule.specs.Sound.{Steady, is_done, of_done, share}
use Rattle.order.specs.Words.{member, count_below}
use Rattle.order.specs.Order.{number_of}
use Rattle.schedule.specs.Turn.{root_ended}
use Rattle.schedule.proofs.Sound.Facts.{Facts}
use Rattle.schedule.proofs.Sound.Done.{unborn_first as unborn_next}
use Rattle.schedule.proofs.Sound.Shares.{held_shares, free_held}
use Rattle.schedule.proofs.Stores.{steady_lawful, steady_facts}
use Rattle.schedule.proofs.Sound.Leftmost.{leftmost_enabled}
use Rattle.order.proofs.Totals.{sum_to_bound}
use Rattle.schedule.proofs.Sound.WorkerSet.{set_ones}
use Rattle.order.proofs.CountBelow.{count_bound, ascending_count}

module _ (r : Run) (h : Steady r) where
  -- "An unborn thread's next action is its first; an ended one's remains its end."
  pub unborn_first : (t : ℕ) → t < (table_in r).threads → status_of (state_of r) t ≡ unborn → next_of (state_of r) t ≡ (table_in r).first t
  unborn_first = unborn_next (table_in r) (steady_lawful r h) r.workers r.quota (state_of r) (steady_facts r h)

  pub ended_last : (t : ℕ) → t < (table_in r).threads → status_of (state_of r) t ≡ ended → next_of (state_of r) t ≡ end_of (table_in r) t
  ended_last = (steady_facts r h).ended_last

  -- the threads in the list, counted
  list_count : count_below (λ t. member t (state_of r).list) (table_in r).threads ≡ length (state_of r).list
  list_count =
      ascending_count (λ t. number_of (table_in r) (next_of (state_of r) t)) (table_in r).threads (state_of r).list (steady_facts r h).serial (steady_facts r h).list_below

  -- the list has room for every thread of the table
  pub list_short : length (state_of r).list ≤ (table_in r).threads
  list_short = omega (arith, list_count, count_bound (λ t. member t (state_of r).list) (table_in r).threads)

  -- while the root has not ended, the leftmost thread is ready or held
  pub leftmost_goes : root_ended r ≡ false → (t : ℕ) × (rest : List ℕ) × ((state_of r).list ≡ t ∷ rest) × ((status_of (state_of r) t ≡ ready) ⊎ (status_of (state_of r) t ≡ held))
  unfolding root_ended
  leftmost_goes e = go (state_of r).list refl
    where
      f : Facts (table_in r) r.workers r.quota (state_of r)
      f = steady_facts r h

      go : (l : List ℕ) → (state_of r).list ≡ l
          → (t : ℕ) × (rest : List ℕ) × ((state_of r).list ≡ t ∷ rest) × ((status_of (state_of r) t ≡ ready) ⊎ (status_of (state_of r) t ≡ held))
      go [] q = absurd (Memᴰ.not-nil (rw q at (f.live_listed 0 (steady_lawful r h).some_thread f.root_born (eqb-false (status_of (state_of r) 0) ended e))))
      go (t ∷ rest) q = (t, rest, q, (leftmost_enabled (table_in r) (steady_lawful r h) r.workers r.quota (state_of r) f t rest q).taken)

  -- memory held is the sum over the threads of their balances so far, 0 once joined
  pub held_by_thread : r.held ≡ sum_to (share (table_in r) (state_of r)) (table_in r).threads
  held_by_thread = held_shares (table_in r) (steady_lawful r h) r.workers r.quota (state_of r) (steady_facts r h)

  -- "the number busy is the count of ones": it is the number of workers that hold a thread
  pub busy_count : ones r.busy ≡ count_below (λ w. (worker_of (state_of r) w).holds) 16
  busy_count = ap ones h.set ∙ set_ones r.worker ∙ ap (count_below (λ w. (worker_of (state_of r) w).holds)) (steady_facts r h).holding.worker_size

  -- a free never takes more than is held
  pub free_within : (t : ℕ) → t < (table_in r).threads → (status_of (state_of r) t ≡ ended → ⊥) → kind (table_in r) (next_of (state_of r) t) ≡ free
      → (table_in r).argument (next_of (state_of r) t) ≤ r.held
  free_within t i e k = free_held (table_in r) (steady_lawful r h) r.workers r.quota (state_of r) (steady_facts r h) t i e k

  -- nothing overflows: held stays below 2^37, and with any alloc on top below 2^38
  pub held_small : r.held ≤ 16777215 * (table_in r).actions
  held_small =
      omega (
        arith,
        (steady_facts r h).amount,
        sum_to_bound (of_done (table_in r) (state_of r) (alloc_of (table_in r))) 16777215 (table_in r).actions (λ a i. part (is_done (table_in r) (state_of r) a) _ (alloc_short (bytes_of r) a)),
      )
    where
      part : (s : Bool) (x : ℕ) → x ≤ 16777215 → pick s x 0 ≤ 16777215
      part true x i = i
      part false x i = omega arith

  pub held_fits : r.held + 16777215 < 2 ^ 38
  held_fits = omega (arith, held_small, (steady_lawful r h).few_actions)
