-- Beginning a run of DFDeques: AsyncDF's checks and filling, "a second kind of run over the same tables".
use Rattle.std.specs.Prelude.{ℕ, List, ◌++◌, Err, Ok, Result, ⊤}
use Rattle.table.specs.declared.Refusal.{Refusal}
use Rattle.table.specs.Format.{table_of}
use Rattle.table.specs.Pass.{first_found}
use Rattle.table.specs.Checks.{passes}
use Rattle.filling.specs.Filled.{filled_out}
use Rattle.schedule.specs.Begin.{begin_passes, start_run}
use Rattle.deques.specs.declared.DequeRun.{DequeRun}
use Rattle.deques.specs.declared.DequeBegun.{DequeBegun}
use Rattle.deques.specs.Deques.{start_deques}
use Rattle.deques.specs.DequeRecord.{deque_stored, blank_deques}

-- "At the start the root lies in one deque that nobody owns."
unfoldable pub start_deque_run : List ℕ → ℕ → ℕ → DequeRun
start_deque_run s p K = deque_stored (start_run s p K) (start_deques (table_of s))

abbrev pub deque_begun_as : Result ⊤ Refusal → DequeRun → DequeBegun
deque_begun_as (Ok _) r = record { answer = Ok tt; run = r }
deque_begun_as (Err x) r = record { answer = Err x; run = blank_deques }

unfoldable pub deque_begin : List ℕ → ℕ → ℕ → DequeBegun
deque_begin s p K = deque_begun_as (first_found (passes s ++ begin_passes (table_of s) p K)) (start_deque_run (filled_out s K) p K)
