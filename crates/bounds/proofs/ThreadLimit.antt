-- Change request N2, entire: the limit on the threads in the list, over every list of calls.
--
-- What it cites, in crates/schedule/specs: `begin` (Begin) answers with the record of an accepted beginning; `after_calls` and `row_of_calls` (Calls) are the record that a list of calls
-- leaves and its row of turns; `listed_after` (Threads) is how many threads the list has after a row; `Keeps` (Memory) is the rule with b; `thread_limit` (Threads) is
-- N + b·(p − 1)·(D − 1), with N and D of crates/table/specs.
use Rattle.std.specs.Prelude.{Ok}
use mathlib.Core.Path.{◌≡◌, ap}
use Prim.Native.Nat.{ℕ, ◌≤◌}
use mathlib.Core.List.{List, ◌++◌}
use lib.ListN.{length}
use Rattle.table.specs.Format.{Table, table_of}
use Rattle.table.specs.Nested.{N}
use Rattle.schedule.specs.declared.Run.{Run}
use Rattle.schedule.specs.Machine.{State}
use Rattle.schedule.specs.Record.{list_in}
use Rattle.order.proofs.Lawful.{Within}
use Rattle.filling.specs.Filled.{filled_out}
use Rattle.filling.proofs.FilledTable.{in_place}
use Rattle.schedule.specs.Begin.{begin}
use Rattle.schedule.specs.Calls.{Call, after_calls, row_of_calls}
use Rattle.schedule.specs.Memory.{Keeps}
use Rattle.schedule.specs.Threads.{listed_after, thread_limit}
use Rattle.schedule.proofs.Runs.Histories.{Started, Traced, calls_traced}
use Rattle.bounds.proofs.Listed.{row_listed, row_listed_alone}

-- of a record r and the row of turns that led to it
pub record ThreadLimit (T : Table) (p K b : ℕ) (r : Run) (row : List ℕ) : Type 0 where
  -- the record's list has as many threads as the row leaves in it
  pub listed : length (list_in r) ≡ listed_after T K row
  -- after every front part that keeps the rule with b, they are within the limit
  pub bounded : (front rest : List ℕ) → row ≡ front ++ rest → Keeps b front → listed_after T K front ≤ thread_limit T p b
  -- with one worker they are never more than N, whatever the row
  pub alone : p ≡ 1 → (front rest : List ℕ) → row ≡ front ++ rest → listed_after T K front ≤ N T

-- for every accepted table, p and K, every b at least 1 and every list of calls from the record of the beginning
pub thread_limit_lem : (s : List ℕ) (p K : ℕ) (r : Run) → begin s p K ≡ record { answer = Ok tt; run = r } → (b : ℕ) → 1 ≤ b → (calls : List Call)
    → ThreadLimit (table_of (filled_out s K)) p K b (after_calls calls r) (row_of_calls calls r)
unfolding listed_after
thread_limit_lem s p K r e b g calls =
    let T : Table = table_of (filled_out s K) in
    let t : Traced s p K r calls = calls_traced s p K r e calls in
    let i : Started s p K r = t.started in
    record {
      listed = ap (λ (x : State). length x.list) t.state;
      bounded = λ front rest d keeps. row_listed T i.lawful p K i.some_worker i.few_workers b front (t.below front rest d) keeps;
      alone = λ one front rest d. row_listed_alone T i.lawful p K i.some_worker i.few_workers one front (t.below front rest d);
    }

-- where no alloc is above K, of the table as given
pub thread_limit_given : (s : List ℕ) (p K : ℕ) (r : Run) → begin s p K ≡ record { answer = Ok tt; run = r } → Within (table_of s) K → (b : ℕ) → 1 ≤ b → (calls : List Call)
    → ThreadLimit (table_of s) p K b (after_calls calls r) (row_of_calls calls r)
thread_limit_given s p K r e n b g calls = rw (in_place s K n) at (thread_limit_lem s p K r e b g calls)
