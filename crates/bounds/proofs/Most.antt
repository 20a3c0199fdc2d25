-- How many turns at most (N8), over every list of calls from a beginning: turns that are not idle, runs in rounds that finish, and the number that any run in rounds reports.
--
-- What it cites, in crates/schedule/specs: `begin` (Begin) answers with the record of an accepted beginning; `row_of_calls` (Calls) is the row of turns of a list of calls; `replies`
-- (Memory) are the replies of a row; `not_idle` (Most) counts those that aren't idle; `rounds_run` (Runs) is a run in rounds, and `turns_in` (Calls) the number that it reports. `turns_of` (crates/order/specs/Turns) is
-- m + A + J.
use Rattle.std.specs.Prelude.{Ok}
use mathlib.Core.Path.{◌≡◌, refl, ap}
use Prim.Native.Nat.{ℕ, zero, suc, ◌+◌, ◌*◌, ◌^◌, ◌≤◌, ◌<◌}
use native.Mathlib.Nat.{mul-le-mul, mul-le-mul_left, one-mul}
use native.Mathlib.Omega.{arith}
use native.Mathlib.Decide.{dec_lt}
use mathlib.Core.List.Memᴰ
use mathlib.Core.List.{List, [], ◌∷◌}
use mathlib.Core.Bool.{Bool, true, false, not, ◌&&◌}
use lib.Dec.{eqb}
use Rattle.table.specs.Sum.{pick, sum_to}
use Rattle.table.specs.Format.{is, Table, kind, table_of}
use Rattle.table.specs.declared.kinds.Kind.TheVariants.{Alloc as alloc, Join as join}
use Rattle.table.proofs.Sums.{sum_to_le}
use Rattle.schedule.specs.declared.Run.{Run}
use Rattle.schedule.specs.declared.Report.TheVariants.{Finished}
use Rattle.schedule.specs.Machine.{State, ready, waiting, ended, status_of, turn_of}
use Rattle.schedule.specs.Record.{table_in, state_of}
use Rattle.filling.specs.Filled.{filled_out}
use Rattle.schedule.specs.Begin.{begin, start_state}
use Rattle.schedule.specs.Sound.{is_done, Steady, Sound}
use Rattle.schedule.specs.Runs.{rounds_run}
use Rattle.schedule.specs.Calls.{Call, turns_in, row_of_calls}
use Rattle.schedule.specs.Memory.{row_state, replies}
use Rattle.schedule.specs.Most.{not_idle}
use Rattle.order.specs.Turns.{turns_of}
use Rattle.order.proofs.Lawful.{Lawful}
use Rattle.schedule.proofs.Sound.Facts.{Facts}
use Rattle.order.proofs.Lists.{Below}
use Rattle.order.proofs.Totals.{sum_to_bound}
use Rattle.schedule.proofs.Preservation.Turns.{turn_facts}
use Rattle.schedule.proofs.Stores.{steady_lawful, steady_fits, steady_facts}
use Rattle.schedule.proofs.Runs.Histories.{begin_sound, start_state_lem, calls_left}
use Rattle.bounds.proofs.Potential.{stands_at, put_back_still, wait_still, to_go, potential}
use Rattle.bounds.proofs.Lowers.{turn_sum}
use Rattle.bounds.proofs.Finishing.{sound_finishes, FinishesAfter, finishes_after}

-- ---- the potential of any state is at most m + A + J

module _ (T : Table) where
  one_most : (q : Bool) → pick q 1 0 ≤ 1
  one_most true = omega arith
  one_most false = omega arith

  part_most : (q r : Bool) → pick (q && r) 1 0 ≤ pick q 1 0
  part_most true r = one_most r
  part_most false r = omega arith

  -- what an action counts at most
  abbrev pub most : ℕ → ℕ
  most a = 1 + pick (is alloc (kind T a)) 1 0 + pick (is join (kind T a)) 1 0

  to_go_most : (st : State) (a : ℕ) → to_go T st a ≤ most a
  unfolding to_go put_back_still wait_still
  to_go_most st a =
      go (is_done T st a) (part_most (is alloc (kind T a)) (not (stands_at T st a ready)))
      (part_most (is join (kind T a)) (not (eqb (status_of st (T.argument a)) ended) && not (stands_at T st a waiting)))
    where
      go : (q : Bool) {x y : ℕ} → x ≤ pick (is alloc (kind T a)) 1 0 → y ≤ pick (is join (kind T a)) 1 0 → pick q 0 (suc (x + y)) ≤ most a
      go true h k = omega arith
      go false h k = omega arith

  -- and so m + A + J action by action, as a loop adds it up
  pub sum_most : (k : ℕ) → sum_to most k ≡ k + sum_to (λ a. pick (is alloc (kind T a)) 1 0) k + sum_to (λ a. pick (is join (kind T a)) 1 0) k
  unfolding sum_to
  sum_most zero = refl
  sum_most (suc k) = omega (arith, sum_most k)

  pub potential_most : (st : State) → potential T st ≤ turns_of T
  unfolding potential turns_of
  potential_most st = omega (arith, sum_to_le (to_go T st) most T.actions (λ a i. to_go_most st a), sum_most T.actions)

  pub turns_of_few : T.actions ≤ 8192 → turns_of T ≤ 24576
  unfolding turns_of
  turns_of_few h =
      omega (
        arith,
        sum_to_bound (λ a. pick (is alloc (kind T a)) 1 0) 1 T.actions (λ a i. one_most (is alloc (kind T a))),
        sum_to_bound (λ a. pick (is join (kind T a)) 1 0) 1 T.actions (λ a i. one_most (is join (kind T a))),
        one-mul T.actions,
      )

-- ---- rows and lists of calls

module _ (T : Table) (l : Lawful T) (p K : ℕ) (few : p ≤ 16) where
  -- from any sound state, the turns of a row that aren't idle are at most what the potential falls by
  pub row_moves : (st : State) → Facts T p K st → (row : List ℕ) → Below p row → not_idle (replies T K st row) + potential T (row_state T K st row) ≤ potential T st
  unfolding not_idle replies row_state
  row_moves st f [] h = omega arith
  row_moves st f (w ∷ row) h =
      let b : w < p = h w (Memᴰ.head refl) in
      omega (
        arith,
        turn_sum T l p K few w b st f,
        row_moves (turn_of T K w st).state (turn_facts T l p K few w b st f) row (λ v m. h v (Memᴰ.tail m)),
      )

  pub row_most : (st : State) → Facts T p K st → (row : List ℕ) → Below p row → not_idle (replies T K st row) ≤ turns_of T
  row_most st f row h = omega (arith, row_moves st f row h, potential_most T st)

-- from any sound record
pub sound_turns : (r : Run) → Steady r → (calls : List Call) → not_idle (replies (table_in r) r.quota (state_of r) (row_of_calls calls r)) ≤ turns_of (table_in r)
sound_turns r h calls =
    let f = steady_fits r h in
    row_most (table_in r) (steady_lawful r h) r.workers r.quota f.few_workers (state_of r) (steady_facts r h) (row_of_calls calls r)
    (calls_left r h calls).workers_below

-- "in a run from its beginning the turns that aren't idle are at most m + A + J": for every accepted table, p and K and every list of calls from the record of the beginning
pub turns_most : (s : List ℕ) (p K : ℕ) (r : Run) → begin s p K ≡ record { answer = Ok tt; run = r } → (calls : List Call)
    → not_idle (replies (table_of (filled_out s K)) K (start_state (table_of (filled_out s K))) (row_of_calls calls r)) ≤ turns_of (table_of (filled_out s K))
turns_most s p K r e calls =
    let (t, w, q, st) = start_state_lem s p K r e in
    let row : List ℕ = row_of_calls calls r in
    let same : replies (table_in r) r.quota (state_of r) row ≡ replies (table_of (filled_out s K)) K (start_state (table_of (filled_out s K))) row = cc in
    omega (arith, sound_turns r (begin_sound s p K r e).steady calls, ap not_idle same, ap turns_of t)

-- ---- runs in rounds

-- from any sound record, short of the limit on turns taken
pub sound_rounds : (r : Run) → Sound r → (limit : ℕ) → r.workers * turns_of (table_in r) ≤ limit → r.turns + limit < 2 ^ 64 → (k : ℕ) × ((rounds_run r limit).report ≡ Finished k)
sound_rounds r h limit b few =
    sound_finishes r h limit few (omega (arith, b, mul-le-mul_left r.workers (potential_most (table_in r) (state_of r))))

-- "from the beginning L = p × (m + A + J) turns in rounds always reply finished"
pub rounds_finish : (s : List ℕ) (p K : ℕ) (r : Run) → begin s p K ≡ record { answer = Ok tt; run = r } → (k : ℕ) × ((rounds_run r (p * turns_of (table_of (filled_out s K)))).report ≡ Finished k)
unfolding start_state
rounds_finish s p K r e =
    let h : Sound r = begin_sound s p K r e in
    let (t, w, q, st) = start_state_lem s p K r e in
    let same : r.workers * turns_of (table_in r) ≡ p * turns_of (table_of (filled_out s K)) = rw (t, w) in
    let zero_turns : r.turns ≡ 0 = ap (λ (x : State). x.turns) st in
    let few : r.workers * turns_of (table_in r) ≤ 16 * 24576 =
    mul-le-mul (steady_fits r h.steady).few_workers (turns_of_few (table_in r) (steady_lawful r h.steady).few_actions) in
    sound_rounds r h (p * turns_of (table_of (filled_out s K))) (omega arith) (omega arith)

-- "in rounds .. a run takes turns until the root's end or L of them": there is one number of turns, at most p × (m + A + J) of the table as run, after which the root has ended; with a limit not below it
-- a run in rounds from the beginning says finished with it, with a lower one spent with all of them
pub rounds_number : (s : List ℕ) (p K : ℕ) (r : Run) → begin s p K ≡ record { answer = Ok tt; run = r }
    → (k : ℕ) × (k ≤ p * turns_of (table_of (filled_out s K))) × FinishesAfter r k
rounds_number s p K r e =
    let (k, f) = rounds_finish s p K r e in
    let a = finishes_after r (begin_sound s p K r e) (p * turns_of (table_of (filled_out s K))) k f in
    (k, a.0, a.1)

-- so the number that it reports is at most p × (m + A + J), whatever its limit
pub rounds_turns : (s : List ℕ) (p K : ℕ) (r : Run) → begin s p K ≡ record { answer = Ok tt; run = r } → (limit : ℕ)
    → turns_in (rounds_run r limit).report ≤ p * turns_of (table_of (filled_out s K))
rounds_turns s p K r e limit = go (rounds_number s p K r e)
  where
    go : (k : ℕ) × (k ≤ p * turns_of (table_of (filled_out s K))) × FinishesAfter r k → turns_in (rounds_run r limit).report ≤ p * turns_of (table_of (filled_out s K))
    go (k, b, f) = at (dec_lt limit k)
      where
        at : Dec (limit < k) → turns_in (rounds_run r limit).report ≤ p * turns_of (table_of (filled_out s K))
        at (yes l) = rw (f.spent limit l) (omega arith)
        at (no l) = rw (f.finished limit (omega arith)) b
