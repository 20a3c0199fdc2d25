-- The paper's number and values of each call from its checks, its turns and their replies, with no answer between. The answers' values (Answers) are these: proofs/Runs/Values.
use Rattle.std.specs.Prelude.{ℕ, zero, suc, ◌-◌, ◌^◌, ◌%◌, List, [], ◌∷◌, ◌++◌, Bool, true, false, ◌||◌, length, get_or, eqb, Ok, Result, ⊤}
use Rattle.table.specs.declared.Refusal.{Refusal}
use Rattle.table.specs.Sum.{pick}
use Rattle.table.specs.Format.{table_of}
use Rattle.table.specs.Pass.{Check, or_else, try_at, first_found}
use Rattle.table.specs.Checks.{passes}
use Rattle.table.specs.Load.{found_number, found_place, if_found}
use Rattle.schedule.specs.declared.Run.{Run}
use Rattle.schedule.specs.Begin.{begin_passes}
use Rattle.schedule.specs.Turn.{unsound, root_ended, no_worker, turn_checks, step_run, passed_in}
use Rattle.schedule.specs.Runs.{moved}
use Rattle.schedule.specs.Answers.{Said, nothing, begun, finished, spent, Values, reply_values, passing}

-- number and place of what checks have found; where they have found nothing, what is said, with the thread and the action, amount or child that it names; the turns taken
abbrev pub said_values : Result ⊤ Refusal → Said → ℕ → ℕ → ℕ → Values
said_values found x thread value turns =
    record {
      number = found_number found;
      place = found_place found;
      said = if_found found nothing x;
      thread = if_found found 0 thread;
      value = if_found found 0 value;
      passed = 0;
      turns = turns;
    }

-- ---- a beginning and a turn

-- the table's checks, then 20, 21 and 44
unfoldable pub begin_values : List ℕ → ℕ → ℕ → Values
begin_values s p K = said_values (first_found (passes s ++ begin_passes (table_of s) p K)) begun 0 0 0

-- 32, 30, 31, or what the machine's reply says, with how many threads it passed over; a refused turn is not taken
unfoldable pub turn_values : Run → ℕ → Values
turn_values r w =
    let found : Result ⊤ Refusal = try_at (turn_checks r w) 0 in
    let reply : Values = reply_values (step_run r w).reply in
    passing (if_found found 0 (passed_in r w)) (said_values found reply.said reply.thread reply.value (if_found found 0 1))

-- ---- the turns of a run, of which the one after n turns is worker `who n`'s

-- the record after n turns
unfoldable pub after_turns : (ℕ → ℕ) → ℕ → Run → Run
after_turns who zero r = r
after_turns who (suc n) r = moved (after_turns who n r) (who n)

-- the checks before a turn of worker w: "a run that reaches [2^64 − 1 turns] before the root's end and has a turn to go stops with 32"; "worker not below p"
unfoldable pub run_checks : Run → ℕ → List Check
run_checks r w = record { number = 32; applies = λ i. eqb r.turns (2 ^ 64 - 1) } ∷ record { number = 30; applies = λ i. no_worker r w } ∷ []

-- "a run stops at the root's end, a refusal": before a turn of worker w
unfoldable pub stops : Run → ℕ → Bool
stops r w = root_ended r || if_found (try_at (run_checks r w) 0) true false

-- the least number below k that passes, k where none does (`first_that_lem`, proofs/Runs/Values)
unfoldable pub first_that : (ℕ → Bool) → ℕ → ℕ
first_that f zero = 0
first_that f (suc k) = pick (f 0) 0 (suc (first_that (λ n. f (suc n)) k))

-- the turns that a run of at most k takes: "until the root's end or L of them, a refusal apart"
unfoldable pub turns_taken : (ℕ → ℕ) → ℕ → Run → ℕ
turns_taken who k r = first_that (λ n. stops (after_turns who n r) (who n)) k

-- what refuses the turn after them, if one is to go and the root has not ended: "In a run, 31 isn't met: it finishes."
unfoldable pub stopped_by : (ℕ → ℕ) → ℕ → Run → Result ⊤ Refusal
stopped_by who k r =
    let n : ℕ = turns_taken who k r in
    let left : Run = after_turns who n r in
    pick (eqb n k || root_ended left) (Ok tt) (try_at (run_checks left (who n)) 0)

-- "replies finished if the root has then ended, spent if not, with their number"; "A run of either sort stopped by a refusal gives it, the number of turns before it". What the checks
-- before the first turn have found is given.
unfoldable pub run_values : Result ⊤ Refusal → (ℕ → ℕ) → ℕ → Run → Values
run_values before who k r =
    let n : ℕ = turns_taken who k r in
    said_values (or_else before (stopped_by who k r)) (pick (root_ended (after_turns who n r)) finished spent) 0 0 (if_found before 0 n)

-- "Over a list of worker numbers"; "A call over many turns tests this first."
unfoldable pub list_values : Run → List ℕ → Values
list_values r l = run_values (try_at (record { number = 32; applies = λ i. unsound r } ∷ []) 0) (λ i. get_or l i 0) (length l) r

-- "In rounds (0 to p − 1, again and again, starting with worker 0)"; on the blank record "any turn or run in rounds on it gets 30"
unfoldable pub rounds_values : Run → ℕ → Values
rounds_values r limit =
    let before : Result ⊤ Refusal = try_at (record { number = 32; applies = λ i. unsound r } ∷ record { number = 30; applies = λ i. eqb r.workers 0 } ∷ []) 0 in
    run_values before (λ i. i % r.workers) limit r
