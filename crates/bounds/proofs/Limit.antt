-- Demand 3, entire: the memory limit over every list of calls.
--
-- What it cites, in crates/schedule/specs: `begin` (Begin) answers with the record of an accepted beginning; `after_calls` and `row_of_calls` (Calls) are the record that a list of calls
-- leaves and its row of turns; `row_memory` and `peak_memory` (Memory) are what the row's turns hold, from the replies and the table alone; `row_sum` (Memory) sums the allocs
-- or the frees done; `Keeps` (Memory) is the rule with b; `limit` (Memory) is S1 + b·K·(p − 1)·(D − 1), with S1 and D of crates/table/specs.
use Rattle.std.specs.Prelude.{Ok}
use mathlib.Core.Path.{◌≡◌, sym, ap, ◌∙◌}
use Prim.Native.Nat.{ℕ, ◌+◌, ◌-◌, ◌*◌, ◌≤◌, ◌<◌}
use mathlib.Core.List.{List, [], ◌++◌, append-nil, Memᴰ}
use Rattle.table.specs.Format.{Table, table_of}
use Rattle.table.specs.Checks.{alloc_of, free_of}
use Rattle.table.specs.Serial.{S1}
use Rattle.table.specs.Level.{D}
use Rattle.schedule.specs.declared.Run.{Run}
use Rattle.schedule.specs.Machine.{State}
use Rattle.schedule.specs.Begin.{begin}
use Rattle.schedule.specs.Calls.{Call, after_calls, row_of_calls}
use Rattle.schedule.specs.Memory.{row_sum, row_memory, peak_memory, Keeps, limit}
use Rattle.schedule.proofs.Runs.Rows.{row_balanced, row_held, row_highest}
use Rattle.order.proofs.Lawful.{Within}
use Rattle.filling.specs.Filled.{filled_out}
use Rattle.filling.proofs.FilledTable.{in_place}
use Rattle.schedule.proofs.Runs.Histories.{Started, begin_started, Traced, calls_traced}
use Rattle.filling.proofs.Delay.{drawn_cost, Delayed}
use Rattle.bounds.proofs.FrontParts.{front_bound, front_alone}
use Rattle.schedule.proofs.Runs.Rows.{peak_within_lem}

-- of a record r and the row of turns that led to it
pub record MemoryLimit (T : Table) (p K b : ℕ) (r : Run) (row : List ℕ) : Type 0 where
  -- the record's held is the row's memory, and its highest the greatest after any front part
  pub held : r.held ≡ row_memory T K row
  pub highest : r.highest ≡ peak_memory T K row
  -- that memory is allocs done less frees done, and no front part frees more than it drew
  pub balanced : (front rest : List ℕ) → row ≡ front ++ rest → row_sum free_of T K front ≤ row_sum alloc_of T K front
  -- after every front part that keeps the rule with b, both are within the limit
  pub bounded : (front rest : List ℕ) → row ≡ front ++ rest → Keeps b front → (row_memory T K front ≤ limit T p K b) × (peak_memory T K front ≤ limit T p K b)
  -- one worker alone never holds more than the serial peak
  pub alone : p ≡ 1 → (row_memory T K row ≤ S1 T) × (peak_memory T K row ≤ S1 T)

-- "users may rely on the memory and thread limits with D and N of the filled-out table" (N6), whose S1 is the given table's (`peak`): for every accepted table, p and K, every b at least 1
-- and every list of calls from the record of the beginning
pub memory_limit : (s : List ℕ) (p K : ℕ) (r : Run) → begin s p K ≡ record { answer = Ok tt; run = r } → (b : ℕ) → 1 ≤ b → (calls : List Call)
    → MemoryLimit (table_of (filled_out s K)) p K b (after_calls calls r) (row_of_calls calls r)
memory_limit s p K r e b g calls =
    let T : Table = table_of (filled_out s K) in
    let t : Traced s p K r calls = calls_traced s p K r e calls in
    let i : Started s p K r = t.started in
    let delayed : Delayed T (drawn_cost T K) = i.filling.delayed in
    let row : List ℕ = row_of_calls calls r in
    let whole : row ≡ row ++ [] = sym (append-nil row) in
    let h : (w : ℕ) → Memᴰ w row → w < p = t.below row [] whole in
    let alone : p ≡ 1 → (front rest : List ℕ) → row ≡ front ++ rest → row_memory T K front ≤ S1 T =
    front_alone T i.lawful p K i.some_worker i.few_workers delayed row h in
    record {
      held = ap (λ (x : State). x.held) t.state ∙ row_held T i.lawful p K i.few_workers row h;
      highest = ap (λ (x : State). x.highest) t.state ∙ row_highest T i.lawful p K i.few_workers row h;
      balanced = λ front rest d. row_balanced T i.lawful p K i.few_workers front (t.below front rest d);
      bounded = λ front rest d keeps.
          let within : (f z : List ℕ) → front ≡ f ++ z → row_memory T K f ≤ limit T p K b =
          front_bound T i.lawful p K i.some_worker i.few_workers delayed front (t.below front rest d) b g keeps in
          (within front [] (sym (append-nil front)), peak_within_lem T K (limit T p K b) front within);
      alone = λ one. (alone one row [] whole, peak_within_lem T K (S1 T) row (alone one));
    }

-- "S1 is the same as before filling": the limit with S1 of the table as given
pub limit_given : (s : List ℕ) (p K : ℕ) (r : Run) → begin s p K ≡ record { answer = Ok tt; run = r } → (b : ℕ)
    → limit (table_of (filled_out s K)) p K b ≡ S1 (table_of s) + b * K * (p - 1) * (D (table_of (filled_out s K)) - 1)
unfolding limit
limit_given s p K r e b = rw (begin_started s p K r e).filling.peak

-- The statement with no word of filling: where no alloc is above K (`Within`, crates/order/proofs/Lawful) the table as given is the one that runs, and the limit is its own.
pub memory_limit_given : (s : List ℕ) (p K : ℕ) (r : Run) → begin s p K ≡ record { answer = Ok tt; run = r } → Within (table_of s) K → (b : ℕ) → 1 ≤ b → (calls : List Call)
    → MemoryLimit (table_of s) p K b (after_calls calls r) (row_of_calls calls r)
memory_limit_given s p K r e n b g calls = rw (in_place s K n) at (memory_limit s p K r e b g calls)
