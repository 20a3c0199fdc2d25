-- A turn on any record whatever: 32, 30, 31, or the reply and the record after (document 01, "Where each check stands").
use Rattle.std.specs.Prelude.{ℕ, List, [], ◌∷◌, Bool, not, ◌&&◌, length, get_or, ltb, eqb, Err, Ok, Result, ⊤}
use Rattle.table.specs.declared.Refusal.{Refusal}
use Rattle.table.specs.Pass.{Check, try_at}
use Rattle.schedule.specs.declared.Run.{Run}
use Rattle.schedule.specs.declared.Worker.{Worker}
use Rattle.schedule.specs.declared.Reply.{Reply}
use Rattle.schedule.specs.declared.Taken.{Taken}
use Rattle.schedule.specs.declared.Turned.{Turned}
use Rattle.schedule.specs.Machine.{Stepped, ended, status_of, nobody, turn_of, passed_by}
use Rattle.schedule.specs.Record.{max_workers, table_in, state_of, stored, blank}
use Rattle.schedule.specs.Sound.{sound}
use Rattle.order.specs.Words.{same_list, all_below}

-- a worker's record with nothing in it
abbrev pub is_nobody : Worker → Bool
is_nobody x = not x.holds && (eqb x.thread 0 && eqb x.quota 0)

-- "every number 0, every status unborn, the list empty"
unfoldable pub is_blank : Run → Bool
is_blank r =
    same_list r.table blank.table
    && (eqb r.length 0
    && (eqb r.workers 0
    && (eqb r.quota 0
    && (same_list r.next blank.next
    && (same_list r.status blank.status
    && (same_list r.amounts blank.amounts
    && (same_list r.left blank.left
    && (same_list r.right blank.right
    && (eqb r.leftmost 0
    && (eqb (length r.worker) max_workers
    && (all_below (λ w. is_nobody (get_or r.worker w nobody)) max_workers
    && (eqb r.busy 0
    && (eqb r.held 0
    && (eqb r.highest 0
    && eqb r.turns 0))))))))))))))

-- 32: "record not sound and not blank"
unfoldable pub unsound : Run → Bool
unsound r = not (sound r) && not (is_blank r)

-- 31: "root ended"
unfoldable pub root_ended : Run → Bool
root_ended r = eqb (status_of (state_of r) 0) ended

-- 30: "worker not below p"
unfoldable pub no_worker : Run → ℕ → Bool
no_worker r w = not (ltb w r.workers)

-- the checks of a turn, in their order; their place is 0
unfoldable pub turn_checks : Run → ℕ → List Check
turn_checks r w =
    record { number = 32; applies = λ i. unsound r }
    ∷ record { number = 30; applies = λ i. no_worker r w }
    ∷ record { number = 31; applies = λ i. root_ended r }
    ∷ []

-- what the turn of worker w does to the record
unfoldable pub step_run : Run → ℕ → Stepped
step_run r w = turn_of (table_in r) r.quota w (state_of r)

-- how many threads it passes over to take one
unfoldable pub passed_in : Run → ℕ → ℕ
passed_in r w = passed_by w (state_of r)

-- the answer of a turn that is taken: its reply, and how many threads it passed over
abbrev pub taken_turn : Reply → ℕ → Result Taken Refusal
taken_turn reply passed = Ok (record { reply = reply; passed = passed })

abbrev pub turned_as : Result ⊤ Refusal → Run → ℕ → Stepped → Turned
turned_as (Ok _) r k s = record { answer = taken_turn s.reply k; run = stored r s.state }
turned_as (Err x) r k s = record { answer = Err x; run = r }

-- "A refused turn hands back its record untouched."
unfoldable pub turned : Run → ℕ → Turned
turned r w = turned_as (try_at (turn_checks r w) 0) r (passed_in r w) (step_run r w)
