-- The run record as it was before N10, its list "the row of numbers" and their count, and document 01's calls on it: soundness, a turn, runs, what they answer. For a record with links to be held against,
-- call by call (proofs/RowList); RowList has the same turn by turn.
use Rattle.std.specs.Prelude.{ℕ, zero, suc, ◌-◌, ◌^◌, ◌%◌, List, [], ◌∷◌, Bool, not, ◌&&◌, length, take, get_or, replicate, ltb, eqb, Err, Ok, Result, ⊤}
use Rattle.schedule.specs.declared.Taken.{Taken}
use Rattle.schedule.specs.Turn.{taken_turn}
use Rattle.table.specs.declared.Refusal.{Refusal}
use Rattle.table.specs.Sum.{pick}
use Rattle.table.specs.Format.{Table, table_of}
use Rattle.table.specs.Pass.{Check, refusal, try_at}
use Rattle.table.specs.Checks.{max_threads}
use Rattle.order.specs.Words.{same_list, filled}
use Rattle.schedule.specs.declared.Run.{Run}
use Rattle.schedule.specs.declared.Worker.{Worker}
use Rattle.schedule.specs.declared.Report.{Report}
use Rattle.schedule.specs.declared.Report.TheVariants.{Finished, Spent, Refused}
use Rattle.schedule.specs.Machine.{State, Stepped, ended, status_of, nobody, turn_of, passed_by}
use Rattle.schedule.specs.Record.{max_workers, max_bytes, set_of, list_in}
use Rattle.schedule.specs.Begin.{begin}
use Rattle.schedule.specs.Sound.{common_sound, listed}
use Rattle.schedule.specs.Turn.{is_blank}
use Rattle.schedule.specs.Calls.{Call, turn, over_list, in_rounds, Answer, turning, report}
use Rattle.schedule.specs.RowList.{Row, rowed, read_row}

-- ---- the record

pub record OldRun : Type 0 where
  pub table : List ℕ
  pub length : ℕ
  pub workers : ℕ
  pub quota : ℕ
  pub next : List ℕ
  pub status : List ℕ
  pub amounts : List ℕ
  pub row : Row
  pub worker : List Worker
  pub busy : ℕ
  pub held : ℕ
  pub highest : ℕ
  pub turns : ℕ

abbrev pub old_bytes : OldRun → List ℕ
old_bytes o = take o.length o.table

abbrev pub old_table : OldRun → Table
old_table o = table_of (old_bytes o)

abbrev pub old_list : OldRun → List ℕ
old_list o = read_row o.row

abbrev pub old_state : OldRun → State
old_state o =
    record {
      next = o.next;
      status = o.status;
      amounts = o.amounts;
      list = old_list o;
      workers = o.worker;
      held = o.held;
      highest = o.highest;
      turns = o.turns;
    }

abbrev pub old_stored : OldRun → State → OldRun
old_stored o st =
    record {
      table = o.table;
      length = o.length;
      workers = o.workers;
      quota = o.quota;
      next = st.next;
      status = st.status;
      amounts = st.amounts;
      row = rowed st.list;
      worker = st.workers;
      busy = set_of st.workers;
      held = st.held;
      highest = st.highest;
      turns = st.turns;
    }

-- the record that a record with links has in the old layout: the list that is read off the links in the row of numbers, and the rest as it is
abbrev pub old_of : Run → OldRun
old_of r =
    record {
      table = r.table;
      length = r.length;
      workers = r.workers;
      quota = r.quota;
      next = r.next;
      status = r.status;
      amounts = r.amounts;
      row = rowed (list_in r);
      worker = r.worker;
      busy = r.busy;
      held = r.held;
      highest = r.highest;
      turns = r.turns;
    }

-- the rest of it, with 0 for every link
unfoldable pub unlisted : OldRun → Run
unlisted o =
    record {
      table = o.table;
      length = o.length;
      workers = o.workers;
      quota = o.quota;
      next = o.next;
      status = o.status;
      amounts = o.amounts;
      left = replicate max_threads 0;
      right = replicate max_threads 0;
      leftmost = 0;
      worker = o.worker;
      busy = o.busy;
      held = o.held;
      highest = o.highest;
      turns = o.turns;
    }

-- "the blank record: every number 0, every status unborn, the list empty"
unfoldable pub old_blank : OldRun
old_blank =
    record {
      table = replicate max_bytes 0;
      length = 0;
      workers = 0;
      quota = 0;
      next = replicate max_threads 0;
      status = replicate max_threads 0;
      amounts = replicate max_threads 0;
      row = record { list = replicate max_threads 0; listed = 0 };
      worker = replicate max_workers nobody;
      busy = 0;
      held = 0;
      highest = 0;
      turns = 0;
    }

-- ---- 32, 30 and 31

abbrev pub same_row : Row → Row → Bool
same_row k l = same_list k.list l.list && eqb k.listed l.listed

-- "A record is sound if its table passes 1 to 11 ..": clause by clause that of a record with links (specs/Sound), N9's on amounts among them. For N10's clause, "Soundness requires that the links describe
-- that list", it has what document 01 fixed of the row of numbers: "unused parts are as fixed above", ".. unused list places .. are 0".
unfoldable pub old_sound : OldRun → Bool
old_sound o =
    common_sound (old_bytes o) o.workers o.quota o.next o.status o.amounts o.worker o.busy o.held o.highest
    && (listed (old_table o) o.next o.status (old_list o)
    && (eqb (length (old_bytes o)) o.length
    && (same_list o.table (filled max_bytes (old_bytes o))
    && (same_row o.row (rowed (old_list o))
    && ltb o.turns (2 ^ 64 - 1)))))

-- "every number 0, every status unborn, the list empty"
unfoldable pub old_is_blank : OldRun → Bool
old_is_blank o = is_blank (unlisted o) && same_row o.row (record { list = replicate max_threads 0; listed = 0 })

-- 32: "record not sound and not blank"
unfoldable pub old_unsound : OldRun → Bool
old_unsound o = not (old_sound o) && not (old_is_blank o)

-- 31: "root ended"
unfoldable pub old_root_ended : OldRun → Bool
old_root_ended o = eqb (status_of (old_state o) 0) ended

-- 30: "worker not below p"
unfoldable pub old_no_worker : OldRun → ℕ → Bool
old_no_worker o w = not (ltb w o.workers)

-- ---- a turn

-- the machine of specs/Machine, on the list that is read off the row
abbrev pub old_step : OldRun → ℕ → Stepped
old_step o w = turn_of (old_table o) o.quota w (old_state o)

abbrev pub old_moved : OldRun → ℕ → OldRun
old_moved o w = old_stored o (old_step o w).state

unfoldable pub old_checks : OldRun → ℕ → List Check
old_checks o w =
    record { number = 32; applies = λ i. old_unsound o }
    ∷ record { number = 30; applies = λ i. old_no_worker o w }
    ∷ record { number = 31; applies = λ i. old_root_ended o }
    ∷ []

pub record OldTurned : Type 0 where
  pub answer : Result Taken Refusal
  pub run : OldRun

abbrev pub old_turned_as : Result ⊤ Refusal → OldRun → ℕ → Stepped → OldTurned
old_turned_as (Ok _) o k s = record { answer = taken_turn s.reply k; run = old_stored o s.state }
old_turned_as (Err x) o k s = record { answer = Err x; run = o }

-- "A refused turn hands back its record untouched."
unfoldable pub old_turned : OldRun → ℕ → OldTurned
old_turned o w = old_turned_as (try_at (old_checks o w) 0) o (passed_by w (old_state o)) (old_step o w)

-- ---- runs

pub record OldRan : Type 0 where
  pub report : Report
  pub run : OldRun

abbrev pub old_ran : Report → OldRun → OldRan
old_ran x o = record { report = x; run = o }

-- as `drive`, `list_run` and `rounds_run` (specs/Runs), which have the sentences
unfoldable pub old_drive : (ℕ → ℕ) → ℕ → ℕ → OldRun → OldRan
old_drive who zero i o = old_ran (pick (old_root_ended o) (Finished i) (Spent i)) o
old_drive who (suc k) i o =
    let rest : OldRan = old_drive who k (suc i) (old_moved o (who i)) in
    pick (old_root_ended o) (old_ran (Finished i) o)
    (pick (eqb o.turns (2 ^ 64 - 1)) (old_ran (Refused i (refusal 32 0)) o)
    (pick (old_no_worker o (who i)) (old_ran (Refused i (refusal 30 0)) o)
    rest))

unfoldable pub old_list_run : OldRun → List ℕ → OldRan
old_list_run o l =
    let go : OldRan = old_drive (λ i. get_or l i 0) (length l) 0 o in
    pick (old_unsound o) (old_ran (Refused 0 (refusal 32 0)) o) go

unfoldable pub old_rounds_run : OldRun → ℕ → OldRan
old_rounds_run o limit =
    let go : OldRan = old_drive (λ i. i % o.workers) limit 0 o in
    pick (old_unsound o) (old_ran (Refused 0 (refusal 32 0)) o) (pick (eqb o.workers 0) (old_ran (Refused 0 (refusal 30 0)) o) go)

-- ---- calls and what they answer

unfoldable pub old_answer : Call → OldRun → Answer
old_answer (turn w) o = turning (old_turned o w).answer
old_answer (over_list l) o = report (old_list_run o l).report
old_answer (in_rounds limit) o = report (old_rounds_run o limit).report

unfoldable pub old_after_call : Call → OldRun → OldRun
old_after_call (turn w) o = (old_turned o w).run
old_after_call (over_list l) o = (old_list_run o l).run
old_after_call (in_rounds limit) o = (old_rounds_run o limit).run

unfoldable pub old_answers : List Call → OldRun → List Answer
old_answers [] o = []
old_answers (c ∷ cs) o = old_answer c o ∷ old_answers cs (old_after_call c o)

unfoldable pub old_after_calls : List Call → OldRun → OldRun
old_after_calls [] o = o
old_after_calls (c ∷ cs) o = old_after_calls cs (old_after_call c o)

-- ---- a beginning

abbrev pub begun_in : Result ⊤ Refusal → Run → OldRun
begun_in (Ok _) r = old_of r
begun_in (Err x) r = old_blank

-- the record of a beginning; a refused one "hands back the blank record"
abbrev pub old_begun : List ℕ → ℕ → ℕ → OldRun
old_begun s p K = begun_in (begin s p K).answer (begin s p K).run
