-- N10: "Reading from the left gives the old list after every turn, and all replies agree with the old layout." (What no neighbour is written as, the blank record and what is sound stand
-- in specs/: Links, Record, Sound.)
--
-- What it cites, in crates/schedule/specs: `list_in` (Record) reads the list off a record's links; `after_row` and `said_row` (RowList) are the record after a row of turns and what these say;
-- `old_after` and `old_said` (RowList) are the same of a run that keeps its list in a row of numbers; `after_calls` and `row_of_calls` (Calls) are the record that a list of calls leaves and its row of
-- turns. `answers_of` (Calls) are what the calls answer, and `old_answers` (OldRuns) the same on a record in the old layout: `all_answers` says that they agree, in replies, finished, spent and refusals
-- with their turns, of any list of calls from any beginning.
use Rattle.std.specs.Prelude.{Err, Ok, Result, ⊤}
use Rattle.schedule.specs.Turn.{taken_turn}
use Rattle.table.specs.declared.Refusal.{Refusal}
use mathlib.Core.Path.{◌≡◌, refl, sym, ap, ◌∙◌}
use Prim.Native.Nat.{ℕ, zero, suc, ◌-◌, ◌^◌, ◌%◌, ◌<◌}
use native.Mathlib.Omega.{arith}
use mathlib.Core.List.{List, [], ◌∷◌, ◌++◌, Memᴰ}
use mathlib.Core.Bool.{Bool, true, false, ◌&&◌}
use lib.ListN.{length, get_or, replicate}
use lib.Dec.{eqb}
use Rattle.std.proofs.lemmas.Bool.{and_left}
use borrow.Author.Tests.{eq-eqb, le-ltb}
use Rattle.table.specs.Sum.{pick}
use Rattle.table.specs.Pass.{refusal, try_at}
use Rattle.table.specs.Format.{Table}
use Rattle.schedule.specs.declared.Run.{Run}
use Rattle.schedule.specs.declared.Ran.{Ran}
use Rattle.schedule.specs.declared.Turned.{Turned}
use Rattle.schedule.specs.declared.Report.TheVariants.{Finished, Spent, Refused}
use Rattle.schedule.specs.Machine.{State, with_list, turn_of, passed_by}
use Rattle.table.specs.Checks.{max_threads}
use Rattle.schedule.specs.Record.{table_in, links_in, list_in, state_of, blank}
use Rattle.schedule.specs.Links.{Links, laid}
use Rattle.schedule.specs.Begin.{begin}
use Rattle.schedule.specs.Sound.{Steady, same_links, sound}
use Rattle.schedule.specs.Turn.{is_blank, unsound, root_ended, no_worker, turn_checks, step_run, passed_in, turned_as, turned}
use Rattle.schedule.specs.Runs.{ran, moved, drive, list_run, rounds_run}
use Rattle.schedule.specs.Calls.{Call, turn, over_list, in_rounds, after_call, after_calls, row_of_calls, Answer, turning, report, answer_of, answers_of}
use Rattle.schedule.specs.OldRuns.{OldRun, old_state, old_stored, old_of, unlisted, old_blank, same_row, old_sound, old_is_blank, old_unsound, old_root_ended, old_no_worker, old_step, old_moved, old_checks, OldTurned, old_turned_as, old_turned, OldRan, old_ran, old_drive, old_list_run, old_rounds_run, old_answer, old_after_call, old_answers, old_after_calls, begun_in, old_begun}
use Rattle.schedule.specs.RowList.{TurnSaid, Row, rowed, Old, read_row, kept, read_old, old_after, old_said, after_row, said_row}
use Rattle.order.specs.Words.{same_list}
use Rattle.order.proofs.Lists.{filled_front}
use Rattle.order.proofs.Words.{same_list_exactly}
use Rattle.schedule.proofs.Stores.{steady_fits, moved_steady, moved_state}
use Rattle.schedule.proofs.Sound.Tests.{blank_exactly}
use Rattle.schedule.proofs.Beginnings.{begin_refused_record}
use Rattle.schedule.proofs.Runs.Rows.{front_workers}
use Rattle.schedule.proofs.Runs.Histories.{worker_there, begin_sound, turn_steady, list_steady, rounds_steady, calls_left}
use Rattle.schedule.proofs.Runs.Blank.{passes_blank, on_blank, blank_call}

-- a state is read back from its row
kept_read : (st : State) → read_old (kept st) ≡ st
kept_read st = rw (filled_front max_threads st.list)

-- of a row of turns of a record
pub record Agrees (r : Run) (row : List ℕ) : Type 0 where
  pub list : list_in (after_row r row) ≡ read_row (old_after (table_in r) r.quota (kept (state_of r)) row).row
  pub said : said_row r row ≡ old_said (table_in r) r.quota (kept (state_of r)) row

-- the two runs stand for the same state, and go on so
rows_same : (r : Run) → Steady r → (row : List ℕ) → ((w : ℕ) → Memᴰ w row → w < r.workers) → (o : Old) → read_old o ≡ state_of r
    → (read_old (old_after (table_in r) r.quota o row) ≡ state_of (after_row r row)) × (said_row r row ≡ old_said (table_in r) r.quota o row)
unfolding old_after old_said after_row said_row step_run passed_in
rows_same r h [] b o e = (e, refl)
rows_same r h (w ∷ row) b o e =
    let in_row : w < r.workers = b w (Memᴰ.head refl) in
    let T : Table = table_in r in
    let same : read_old (kept (turn_of T r.quota w (read_old o)).state) ≡ state_of (moved r w) =
    kept_read (turn_of T r.quota w (read_old o)).state ∙ ap (λ (x : State). (turn_of T r.quota w x).state) e ∙ sym (moved_state r h w in_row) in
    let (after, says) = rows_same (moved r w) (moved_steady r h w in_row) row (λ v m. b v (Memᴰ.tail m)) (kept (turn_of T r.quota w (read_old o)).state) same in (
      after,
      ap (λ (x : State). record { reply = (turn_of T r.quota w x).reply; passed = passed_by w x } ∷ said_row (moved r w) row) (sym e)
          ∙ ap (λ (l : List TurnSaid). record { reply = (turn_of T r.quota w (read_old o)).reply; passed = passed_by w (read_old o) } ∷ l) says,
    )

-- every row of turns of a sound record
pub rows_agree : (r : Run) → Steady r → (row : List ℕ) → ((w : ℕ) → Memᴰ w row → w < r.workers) → Agrees r row
rows_agree r h row b =
    let (after, says) = rows_same r h row b (kept (state_of r)) (kept_read (state_of r)) in
    record { list = sym (ap (λ (x : State). x.list) after); said = says }

-- every list of calls on it: after every front part of the row of their turns, and the record that they leave is the one after the whole row
pub record CallsAgree (r : Run) (calls : List Call) : Type 0 where
  pub left : after_calls calls r ≡ after_row r (row_of_calls calls r)
  pub agrees : (front rest : List ℕ) → row_of_calls calls r ≡ front ++ rest → Agrees r front

pub calls_agree : (r : Run) → Steady r → (calls : List Call) → CallsAgree r calls
calls_agree r h calls =
    record {
      left = (calls_left r h calls).after;
      agrees = λ front rest e. rows_agree r h front (front_workers (λ w. w < r.workers) (row_of_calls calls r) front rest e (calls_left r h calls).workers_below);
    }

-- ---- whole answers

-- ---- the list is read back, and so is the state

row_back : (l : List ℕ) → read_row (rowed l) ≡ l
row_back l = filled_front max_threads l

state_back : (r : Run) → old_state (old_of r) ≡ state_of r
state_back r = rw (row_back (list_in r))

blank_none : blank.workers ≡ 0
unfolding blank
blank_none = refl

-- ---- the tests agree on a sound record

same_list_self : (l : List ℕ) → same_list l l ≡ true
same_list_self l = (same_list_exactly l l).1 refl

same_row_self : (k : Row) → same_row k k ≡ true
same_row_self k = rw (same_list_self k.list) (eq-eqb k.listed k.listed refl)

same_links_self : (k : Links) → same_links k k ≡ true
unfolding same_links
same_links_self k = rw (same_list_self k.left, same_list_self k.right) (eq-eqb k.head k.head refl)

module _ (r : Run) (h : Steady r) where
  same_links_lem : same_links (links_in r) (laid (list_in r)) ≡ true
  same_links_lem = ap (λ (k : Links). same_links (links_in r) k) (sym h.links) ∙ same_links_self (links_in r)

  same_sound : old_sound (old_of r) ≡ sound r
  unfolding old_sound sound
  same_sound = rw (row_back (list_in r), same_row_self (rowed (list_in r)), same_links_lem)

  never_blank : old_is_blank (old_of r) ≡ false
  unfolding old_is_blank unlisted
  never_blank = and_left _ _ (go (is_blank (unlisted (old_of r))) refl)
    where
      go : (q : Bool) → is_blank (unlisted (old_of r)) ≡ q → q ≡ false
      go true e = absurd (omega (arith, (steady_fits r h).some_worker, ap (λ (x : Run). x.workers) ((blank_exactly (unlisted (old_of r))).0 e) ∙ blank_none))
      go false e = refl

  not_blank : is_blank r ≡ false
  not_blank = go (is_blank r) refl
    where
      go : (q : Bool) → is_blank r ≡ q → is_blank r ≡ false
      go true e = absurd (omega (arith, (steady_fits r h).some_worker, ap (λ (x : Run). x.workers) ((blank_exactly r).0 e) ∙ blank_none))
      go false e = e

  same_unsound : old_unsound (old_of r) ≡ unsound r
  unfolding old_unsound unsound
  same_unsound = rw (same_sound, never_blank, not_blank)

  moved_old : (w : ℕ) → w < r.workers → old_moved (old_of r) w ≡ old_of (moved r w)
  unfolding step_run
  moved_old w b =
      let st : State = (step_run r w).state in
      ap (λ (x : State). old_stored (old_of r) (turn_of (table_in r) r.quota w x).state) (state_back r)
      ∙ ap (λ (l : List ℕ). old_stored (old_of r) (with_list l st)) (sym (ap (λ (x : State). x.list) (moved_state r h w b)))

-- ---- runs

-- what an old run and a run with links say and leave
pub record SameRan (o : OldRan) (x : Ran) : Type 0 where
  pub report : o.report ≡ x.report
  pub run : o.run ≡ old_of x.run

drive_same : (who : ℕ → ℕ) (k i : ℕ) (r : Run) → Steady r → SameRan (old_drive who k i (old_of r)) (drive who k i r)
unfolding old_drive drive old_root_ended root_ended old_no_worker no_worker
drive_same who zero i r h = record { report = refl; run = refl }
drive_same who (suc k) i r h =
    go (root_ended r) (eqb r.turns (2 ^ 64 - 1)) (no_worker r (who i)) refl (λ b. drive_same who k (suc i) (moved r (who i)) (moved_steady r h (who i) b))
  where
    go : (a b c : Bool) → no_worker r (who i) ≡ c → (who i < r.workers → SameRan (old_drive who k (suc i) (old_of (moved r (who i)))) (drive who k (suc i) (moved r (who i))))
        → SameRan
        (pick a (old_ran (Finished i) (old_of r)) (pick b (old_ran (Refused i (refusal 32 0)) (old_of r)) (pick c (old_ran (Refused i (refusal 30 0)) (old_of r)) (old_drive who k (suc i) (old_moved (old_of r) (who i))))))
        (pick a (ran (Finished i) r) (pick b (ran (Refused i (refusal 32 0)) r) (pick c (ran (Refused i (refusal 30 0)) r) (drive who k (suc i) (moved r (who i))))))
    go true b c e ih = record { report = refl; run = refl }
    go false true c e ih = record { report = refl; run = refl }
    go false false true e ih = record { report = refl; run = refl }
    go false false false e ih =
        let w : who i < r.workers = worker_there r (who i) e in
        rw (moved_old r h (who i) w) (ih w)

-- a test before it that answers with a refusal
before_same : (q : Bool) (n : ℕ) (o : OldRan) (x : Ran) (r : Run) → SameRan o x → SameRan (pick q (old_ran (Refused 0 (refusal n 0)) (old_of r)) o) (pick q (ran (Refused 0 (refusal n 0)) r) x)
before_same true n o x r s = record { report = refl; run = refl }
before_same false n o x r s = s

pub list_same : (r : Run) → Steady r → (l : List ℕ) → SameRan (old_list_run (old_of r) l) (list_run r l)
unfolding old_list_run list_run
list_same r h l = rw (same_unsound r h) (before_same (unsound r) 32 _ _ r (drive_same (λ i. get_or l i 0) (length l) 0 r h))

pub rounds_same : (r : Run) → Steady r → (limit : ℕ) → SameRan (old_rounds_run (old_of r) limit) (rounds_run r limit)
unfolding old_rounds_run rounds_run
rounds_same r h limit =
    rw (same_unsound r h)
    (before_same (unsound r) 32 _ _ r (before_same (eqb r.workers 0) 30 _ _ r (drive_same (λ i. i % r.workers) limit 0 r h)))

-- ---- a turn

pub record SameTurned (o : OldTurned) (x : Turned) : Type 0 where
  pub answer : o.answer ≡ x.answer
  pub run : o.run ≡ old_of x.run

pub turn_same : (r : Run) → Steady r → (w : ℕ) → SameTurned (old_turned (old_of r) w) (turned r w)
unfolding old_turned turned old_checks turn_checks try_at old_no_worker no_worker old_root_ended root_ended passed_in step_run
turn_same r h w = rw (same_unsound r h) (go (unsound r) (no_worker r w) (root_ended r) refl)
  where
    go : (a b c : Bool) → no_worker r w ≡ b
        → SameTurned
        (old_turned_as (pick a (Err (refusal 32 0)) (pick b (Err (refusal 30 0)) (pick c (Err (refusal 31 0)) (Ok tt)))) (old_of r) (passed_by w (old_state (old_of r))) (old_step (old_of r) w))
        (turned_as (pick a (Err (refusal 32 0)) (pick b (Err (refusal 30 0)) (pick c (Err (refusal 31 0)) (Ok tt)))) r (passed_in r w) (step_run r w))
    go true b c e = record { answer = refl; run = refl }
    go false true c e = record { answer = refl; run = refl }
    go false false true e = record { answer = refl; run = refl }
    go false false false e =
        record {
          answer = ap (λ (x : State). taken_turn (turn_of (table_in r) r.quota w x).reply (passed_by w x)) (state_back r);
          run = moved_old r h w (worker_there r w e);
        }

-- ---- calls

pub record SameCalls (r : Run) (o : OldRun) (calls : List Call) : Type 0 where
  pub answers : old_answers calls o ≡ answers_of calls r
  pub left : old_after_calls calls o ≡ old_of (after_calls calls r)

call_same : (r : Run) → Steady r → (c : Call) → (old_answer c (old_of r) ≡ answer_of c r) × (old_after_call c (old_of r) ≡ old_of (after_call c r)) × Steady (after_call c r)
unfolding old_answer old_after_call after_call
call_same r h (turn w) = let s = turn_same r h w in (ap turning s.answer, s.run, turn_steady r w h)
call_same r h (over_list l) = let s = list_same r h l in (ap report s.report, s.run, list_steady r l h)
call_same r h (in_rounds limit) = let s = rounds_same r h limit in (ap report s.report, s.run, rounds_steady r limit h)

-- "all replies agree with the old layout": every list of calls on a sound record answers in the old layout as with links (replies, finished, spent, and refusals with number and turns), and leaves
-- the same record
pub old_answers_lem : (r : Run) → Steady r → (calls : List Call) → SameCalls r (old_of r) calls
unfolding old_answers answers_of old_after_calls after_calls
old_answers_lem r h [] = record { answers = refl; left = refl }
old_answers_lem r h (c ∷ calls) =
    let (a, l, s) = call_same r h c in
    let rest : SameCalls (after_call c r) (old_of (after_call c r)) calls = old_answers_lem (after_call c r) s calls in
    record {
      answers = ap (λ (x : Answer). x ∷ old_answers calls (old_after_call c (old_of r))) a ∙ ap (λ (o : OldRun). answer_of c r ∷ old_answers calls o) l ∙ ap (λ (k : List Answer). answer_of c r ∷ k) rest.answers;
      left = ap (old_after_calls calls) l ∙ rest.left;
    }

-- from a beginning
pub begin_answers : (s : List ℕ) (p K : ℕ) (r : Run) → begin s p K ≡ record { answer = Ok tt; run = r } → (calls : List Call) → SameCalls r (old_of r) calls
begin_answers s p K r e calls = old_answers_lem r (begin_sound s p K r e).steady calls

-- ---- the blank record, that a refused beginning hands back

unlisted_blank : unlisted old_blank ≡ blank
unfolding unlisted old_blank blank
unlisted_blank = refl

blank_row : old_blank.row ≡ record { list = replicate max_threads 0; listed = 0 }
unfolding old_blank
blank_row = refl

old_blank_is : old_is_blank old_blank ≡ true
unfolding old_is_blank
old_blank_is =
    ap (λ (x : Run). is_blank x && same_row old_blank.row (record { list = replicate max_threads 0; listed = 0 })) unlisted_blank
    ∙ ap (λ (q : Bool). q && same_row old_blank.row (record { list = replicate max_threads 0; listed = 0 })) ((blank_exactly blank).1 refl)
    ∙ ap (λ (x : Row). same_row x (record { list = replicate max_threads 0; listed = 0 })) blank_row
    ∙ same_row_self (record { list = replicate max_threads 0; listed = 0 })

old_blank_passes : old_unsound old_blank ≡ false
unfolding old_unsound
old_blank_passes = passes_blank (old_sound old_blank) (old_is_blank old_blank) old_blank_is

old_blank_open : old_root_ended old_blank ≡ false
unfolding old_root_ended old_blank
old_blank_open = refl

old_blank_worker : (w : ℕ) → old_no_worker old_blank w ≡ true
unfolding old_no_worker old_blank
old_blank_worker w = rw (le-ltb w 0 (omega arith))

old_blank_turns : eqb old_blank.turns (2 ^ 64 - 1) ≡ false
unfolding old_blank
old_blank_turns = refl

old_blank_none : old_blank.workers ≡ 0
unfolding old_blank
old_blank_none = refl

old_blank_found : (w : ℕ) → try_at (old_checks old_blank w) 0 ≡ Err (refusal 30 0)
unfolding try_at old_checks
old_blank_found w = rw (old_blank_passes, old_blank_worker w)

old_turned_blank : (w : ℕ) → old_turned old_blank w ≡ record { answer = Err (refusal 30 0); run = old_blank }
unfolding old_turned
old_turned_blank w = ap (λ (f : Result ⊤ Refusal). old_turned_as f old_blank (passed_by w (old_state old_blank)) (old_step old_blank w)) (old_blank_found w)

old_list_none : old_list_run old_blank [] ≡ old_ran (Spent 0) old_blank
unfolding old_list_run old_drive
old_list_none = rw (old_blank_passes, old_blank_open)

old_list_some : (w : ℕ) (l : List ℕ) → old_list_run old_blank (w ∷ l) ≡ old_ran (Refused 0 (refusal 30 0)) old_blank
unfolding old_list_run old_drive
old_list_some w l = rw (old_blank_passes, old_blank_open, old_blank_turns, old_blank_worker w)

old_rounds_blank : (limit : ℕ) → old_rounds_run old_blank limit ≡ old_ran (Refused 0 (refusal 30 0)) old_blank
unfolding old_rounds_run
old_rounds_blank limit = rw (old_blank_passes, old_blank_none)

old_blank_call : (c : Call) → (old_answer c old_blank ≡ on_blank c) × (old_after_call c old_blank ≡ old_blank)
unfolding old_answer old_after_call
old_blank_call (turn w) = let e = old_turned_blank w in (ap (λ (x : OldTurned). turning x.answer) e, ap (λ (x : OldTurned). x.run) e)
old_blank_call (over_list []) = let e = old_list_none in (ap (λ (x : OldRan). report x.report) e, ap (λ (x : OldRan). x.run) e)
old_blank_call (over_list (w ∷ l)) = let e = old_list_some w l in (ap (λ (x : OldRan). report x.report) e, ap (λ (x : OldRan). x.run) e)
old_blank_call (in_rounds limit) = let e = old_rounds_blank limit in (ap (λ (x : OldRan). report x.report) e, ap (λ (x : OldRan). x.run) e)

pub blank_answers : (calls : List Call) → (old_answers calls old_blank ≡ answers_of calls blank) × (old_after_calls calls old_blank ≡ old_blank) × (after_calls calls blank ≡ blank)
unfolding old_answers answers_of old_after_calls after_calls
blank_answers [] = (refl, refl, refl)
blank_answers (c ∷ calls) =
    let n = blank_call c in
    let o = old_blank_call c in
    let (a, l, m) = blank_answers calls in (
      ap (λ (x : Answer). x ∷ old_answers calls (old_after_call c old_blank)) (o.0 ∙ sym n.0)
          ∙ ap (λ (x : OldRun). answer_of c blank ∷ old_answers calls x) o.1
          ∙ ap (λ (k : List Answer). answer_of c blank ∷ k) a
          ∙ ap (λ (x : Run). answer_of c blank ∷ answers_of calls x) (sym n.1),
      ap (old_after_calls calls) o.1 ∙ l,
      ap (after_calls calls) n.1 ∙ m,
    )

-- of any beginning, accepted or refused, and any list of calls: the answers agree
pub all_answers : (s : List ℕ) (p K : ℕ) (calls : List Call) → old_answers calls (old_begun s p K) ≡ answers_of calls (begin s p K).run
all_answers s p K calls = go (begin s p K).answer refl
  where
    go : (b : Result ⊤ Refusal) → (begin s p K).answer ≡ b → old_answers calls (old_begun s p K) ≡ answers_of calls (begin s p K).run
    go (Ok _) e =
        let f : begin s p K ≡ record { answer = Ok tt; run = (begin s p K).run } = λ i. record { answer = e i; run = (begin s p K).run } in
        ap (old_answers calls) (ap (λ (x : Result ⊤ Refusal). begun_in x (begin s p K).run) e) ∙ (begin_answers s p K (begin s p K).run f calls).answers
    go (Err x) e =
        ap (old_answers calls) (ap (λ (y : Result ⊤ Refusal). begun_in y (begin s p K).run) e) ∙ (blank_answers calls).0 ∙ ap (answers_of calls) (sym (begin_refused_record s p K x e))
