-- Beginning a run: the table's own checks, then 20, 21 and 44; the record that it gives, of the filled-out table (document 01, "The run" and "Where each check stands"; N6).
use Rattle.std.specs.Prelude.{ℕ, List, [], ◌∷◌, ◌++◌, length, replicate, set, Err, Ok, Result, ⊤}
use Rattle.table.specs.declared.Refusal.{Refusal}
use Rattle.table.specs.Format.{Table, table_of}
use Rattle.table.specs.Pass.{Pass, first_found}
use Rattle.table.specs.Checks.{max_threads, outside, passes}
use Rattle.schedule.specs.declared.Run.{Run}
use Rattle.schedule.specs.declared.Begun.{Begun}
use Rattle.schedule.specs.Machine.{State, nobody, ready}
use Rattle.order.specs.Firsts.{firsts}
use Rattle.schedule.specs.Record.{max_workers, max_bytes, blank, stored}
use Rattle.order.specs.Words.{filled}
use Rattle.filling.specs.Filled.{filled_out, fill_pass}

abbrev pub max_quota : ℕ
max_quota = 16777215

-- 20: "p outside 1 to 16"; 21: "K outside its range", 1 to 16,777,215
abbrev pub setting_passes : ℕ → ℕ → List Pass
setting_passes p K =
    record { from = 0; places = 1; checks = record { number = 20; applies = λ i. outside 1 max_workers p } ∷ record { number = 21; applies = λ i. outside 1 max_quota K } ∷ [] } ∷ []

-- then 44, "in the place of 22": the filled-out table would pass a limit
abbrev pub begin_passes : Table → ℕ → ℕ → List Pass
begin_passes T p K = setting_passes p K ++ (fill_pass T K ∷ [])

-- "An unborn thread's next action is its first", "Threads from n on are unborn with next action 0"; "at the start only thread 0, ready"; "all 0 at the start"
unfoldable pub start_state : Table → State
start_state T =
    record {
      next = filled max_threads (firsts T.first 0 T.threads);
      status = set (replicate max_threads 0) 0 ready;
      amounts = replicate max_threads 0;
      list = 0 ∷ [];
      workers = replicate max_workers nobody;
      held = 0;
      highest = 0;
      turns = 0;
    }

-- "Beginning fixes p .. and K .."
unfoldable pub start_run : List ℕ → ℕ → ℕ → Run
start_run s p K =
    stored
    (record {
      table = filled max_bytes s;
      length = length s;
      workers = p;
      quota = K;
      next = [];
      status = [];
      amounts = [];
      left = [];
      right = [];
      leftmost = 0;
      worker = [];
      busy = 0;
      held = 0;
      highest = 0;
      turns = 0;
    })
    (start_state (table_of s))

abbrev pub begun_as : Result ⊤ Refusal → Run → Begun
begun_as (Ok _) r = record { answer = Ok tt; run = r }
begun_as (Err x) r = record { answer = Err x; run = blank }

-- what beginning from bytes, p and K answers: "A refused beginning hands back the blank record"; "Replies, records .. name the filled-out table" (N6)
unfoldable pub begin : List ℕ → ℕ → ℕ → Begun
begin s p K = begun_as (first_found (passes s ++ begin_passes (table_of s) p K)) (start_run (filled_out s K) p K)
