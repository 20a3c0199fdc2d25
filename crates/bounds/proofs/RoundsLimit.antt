-- One run in rounds from an accepted beginning is within the limits with b = 1, with no condition on its turns: rounds keep the rule with 1 (Rounds), and its row is rounds.
use Rattle.std.specs.Prelude.{Ok}
use mathlib.Core.Path.{◌≡◌, refl, sym}
use Prim.Native.Nat.{ℕ, ◌+◌, ◌-◌, ◌*◌, ◌≤◌}
use native.Mathlib.Omega.{arith}
use native.Mathlib.Nat.{one-mul}
use mathlib.Core.List.{List, [], ◌∷◌, ◌++◌, append-nil}
use lib.ListN.{length}
use Rattle.table.specs.Format.{Table, table_of}
use Rattle.table.specs.Serial.{S1}
use Rattle.table.specs.Nested.{N}
use Rattle.table.specs.Level.{D}
use Rattle.schedule.specs.declared.Run.{Run}
use Rattle.schedule.specs.Record.{list_in}
use Rattle.order.proofs.Lawful.{Within}
use Rattle.filling.specs.Filled.{filled_out}
use Rattle.filling.proofs.FilledTable.{in_place}
use Rattle.schedule.specs.Begin.{begin}
use Rattle.schedule.specs.Runs.{rounds_run}
use Rattle.schedule.specs.Calls.{Call, in_rounds, turns_in, after_call, after_calls, row_of, row_of_calls}
use Rattle.schedule.specs.Memory.{Keeps, limit}
use Rattle.schedule.specs.Threads.{thread_limit}
use Rattle.schedule.proofs.Runs.Histories.{begin_started, start_state_lem}
use Rattle.bounds.proofs.Rounds.{rounds_keep}
use Rattle.bounds.proofs.Limit.{MemoryLimit, memory_limit}
use Rattle.bounds.proofs.ThreadLimit.{ThreadLimit, thread_limit_lem}

-- ---- the row of one run in rounds

pub one_call : (c : Call) (r : Run) → (after_calls (c ∷ []) r ≡ after_call c r) × (row_of_calls (c ∷ []) r ≡ row_of c r)
unfolding after_calls row_of_calls
one_call c r = (refl, append-nil (row_of c r))

pub rounds_row_keeps : (r : Run) → 1 ≤ r.workers → (turns : ℕ) → Keeps 1 (row_of_calls (in_rounds turns ∷ []) r)
unfolding row_of
rounds_row_keeps r some turns = rw (one_call (in_rounds turns) r).1 (rounds_keep r.workers some (turns_in (rounds_run r turns).report))

-- ---- the limits

-- of the record after one run in rounds: memory held, and the highest ever, at most S1 + K·(p − 1)·(D − 1); threads in the list at most N + (p − 1)·(D − 1)
pub record RoundsLimit (T : Table) (p K : ℕ) (r : Run) : Type 0 where
  pub held : r.held ≤ S1 T + K * (p - 1) * (D T - 1)
  pub highest : r.highest ≤ S1 T + K * (p - 1) * (D T - 1)
  pub listed : length (list_in r) ≤ N T + (p - 1) * (D T - 1)

pub within_rounds : {T : Table} {p K : ℕ} {r : Run} {row : List ℕ} → MemoryLimit T p K 1 r row → ThreadLimit T p K 1 r row → Keeps 1 row → RoundsLimit T p K r
unfolding limit thread_limit
within_rounds {T} {p} {K} {r} {row} m t k =
    let whole : row ≡ row ++ [] = sym (append-nil row) in
    let w = m.bounded row [] whole k in
    let n = t.bounded row [] whole k in
    let e = one-mul K in
    let d = one-mul (p - 1) in
    record {
      held = rw m.held (rw e at w.0);
      highest = rw m.highest (rw e at w.1);
      listed = rw t.listed (rw d at n);
    }

-- for every accepted table, p and K, and one run in rounds of any length from the record of the beginning
pub rounds_limit : (s : List ℕ) (p K : ℕ) (r : Run) → begin s p K ≡ record { answer = Ok tt; run = r } → (turns : ℕ) → RoundsLimit (table_of (filled_out s K)) p K (rounds_run r turns).run
unfolding after_calls after_call
rounds_limit s p K r e turns =
    let workers : r.workers ≡ p = (start_state_lem s p K r e).1 in
    let some : 1 ≤ r.workers = omega (arith, (begin_started s p K r e).some_worker) in
    let calls : List Call = in_rounds turns ∷ [] in
    within_rounds (memory_limit s p K r e 1 (omega arith) calls) (thread_limit_lem s p K r e 1 (omega arith) calls) (rounds_row_keeps r some turns)

-- where no alloc is above K, of the table as given
pub rounds_limit_given : (s : List ℕ) (p K : ℕ) (r : Run) → begin s p K ≡ record { answer = Ok tt; run = r } → Within (table_of s) K → (turns : ℕ)
    → RoundsLimit (table_of s) p K (rounds_run r turns).run
rounds_limit_given s p K r e n turns = rw (in_place s K n) at (rounds_limit s p K r e turns)
