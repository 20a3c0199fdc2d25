-- The limits for the running code, by value. A history is a list of calls, each on the record that the last one left, of which nothing is known but what the promises of the public functions say:
-- their own `ensures`, as the check reads it (`Learnt`), of the arguments and the answer. `history_is`: the record, the answers and the row of turns are those of the definitions.
-- `history_exists`: every list of calls has one. `code_limit` and `code_threads`: and so the memory limit and the limit on the threads in the list (crates/bounds/proofs, Limit and
-- ThreadLimit) hold of them, with the filled-out table (N6); `code_turns` and `code_finishes`: and how many turns there are at most (N8, Most).
use Rattle.std.specs.Prelude.{Ok}
use mathlib.Core.Path.{◌≡◌, refl, sym, ap, ap₂, subst, ◌∙◌}
use Prim.Native.Nat.{ℕ, ◌*◌, ◌%◌, ◌≤◌}
use mathlib.Core.List.{List, [], ◌∷◌, ◌++◌}
use lib.ListN.{take}
use contract.Lifetimes.{Lfts}
use denote.Ref.{Bor}
use denote.Triple.Clauses.{AtExit}
use borrow.Fn.Kinds.{ended_of}
use Rattle.table.specs.Format.{table_of}
use Rattle.schedule.specs.declared.Run.{Run}
use Rattle.schedule.specs.declared.Begun.{Begun}
use Rattle.schedule.specs.declared.Turned.{Turned}
use Rattle.schedule.specs.declared.Ran.{Ran}
use Rattle.schedule.specs.declared.Report.TheVariants.{Finished}
use Rattle.filling.specs.Filled.{filled_out}
use Rattle.schedule.specs.Begin.{begin, start_state}
use Rattle.schedule.specs.Memory.{replies}
use Rattle.schedule.specs.Most.{not_idle}
use Rattle.order.specs.Turns.{turns_of}
use Rattle.order.specs.Firsts.{firsts}
use Rattle.schedule.specs.Turn.{turned}
use Rattle.schedule.specs.Runs.{list_run, rounds_run}
use Rattle.schedule.specs.Calls.{Call, turn, over_list, in_rounds, turns_in, turn_row, after_call, after_calls, row_of, row_of_calls, Answer, turning, report, answer_of, answers_of}
use Rattle.claims.proofs.LentSays.{lent_of}
use Rattle.bounds.proofs.Limit.{MemoryLimit, memory_limit}
use Rattle.bounds.proofs.ThreadLimit.{ThreadLimit, thread_limit_lem}
use Rattle.bounds.proofs.Most.{turns_most, rounds_finish}
use Rattle.schedule.proofs.Runs.Values.{begin_values_lem, turn_values_lem, list_values_lem, rounds_values_lem}
use Rattle.asyncdf.proofs.begin.Kinds as begin_kinds
use Rattle.asyncdf.proofs.begin.Reads as begin_promise
use Rattle.asyncdf.proofs.turn.Kinds as turn_kinds
use Rattle.asyncdf.proofs.turn.Reads as turn_promise
use Rattle.asyncdf.proofs.run_list.Kinds as list_kinds
use Rattle.asyncdf.proofs.run_list.Reads as list_promise
use Rattle.asyncdf.proofs.run_rounds.Kinds as rounds_kinds
use Rattle.asyncdf.proofs.run_rounds.Reads as rounds_promise

-- ---- what the promises say

-- `asyncdf::begin(bytes, p, K)` answered b
pub record BeginSays (s : List ℕ) (p K : ℕ) (b : Begun) : Type 0 where
  pub lifetimes : Lfts 1
  pub bytes : Bor (List ℕ)
  pub lent : bytes.now ≡ s
  pub exit : AtExit (ended_of 1 begin_kinds.ps begin_kinds.r) lifetimes
  pub promised : begin_promise.Learnt lifetimes (bytes, (p, (K, tt))) b exit

-- `asyncdf::turn(r, w)` answered d
pub record TurnSays (r : Run) (w : ℕ) (d : Turned) : Type 0 where
  pub exit : AtExit (ended_of 0 turn_kinds.ps turn_kinds.r) tt
  pub promised : turn_promise.Learnt tt (r, (w, tt)) d exit

-- `asyncdf::run_list(r, l)` answered d
pub record ListSays (r : Run) (l : List ℕ) (d : Ran) : Type 0 where
  pub lifetimes : Lfts 1
  pub order : Bor (List ℕ)
  pub lent : order.now ≡ l
  pub exit : AtExit (ended_of 1 list_kinds.ps list_kinds.r) lifetimes
  pub promised : list_promise.Learnt lifetimes (r, (order, tt)) d exit

-- `asyncdf::run_rounds(r, limit)` answered d
pub record RoundsSays (r : Run) (limit : ℕ) (d : Ran) : Type 0 where
  pub exit : AtExit (ended_of 0 rounds_kinds.ps rounds_kinds.r) tt
  pub promised : rounds_promise.Learnt tt (r, (limit, tt)) d exit

-- ---- a history of calls

-- one call on record r: its answer, the row of its turns as the answer has it, and the record after
pub data Called (r : Run) : Call → Answer → List ℕ → Run → Type 0 where
  by_turn_lem : (w : ℕ) (d : Turned) → TurnSays r w d → Called r (turn w) (turning d.answer) (turn_row d.answer w) d.run
  by_list_lem : (l : List ℕ) (d : Ran) → ListSays r l d → Called r (over_list l) (report d.report) (take (turns_in d.report) l) d.run
  by_rounds_lem : (limit : ℕ) (d : Ran) → RoundsSays r limit d
      → Called r (in_rounds limit) (report d.report) (firsts (λ i. i % r.workers) 0 (turns_in d.report)) d.run

-- calls one after the other: their answers, the rows laid end to end, and the record that they leave
pub data History : Run → List Call → List Answer → List ℕ → Run → Type 0 where
  none : {r : Run} → History r [] [] [] r
  next : {r r' r'' : Run} {c : Call} {x : Answer} {row rest : List ℕ} {calls : List Call} {answers : List Answer}
      → Called r c x row r' → History r' calls answers rest r'' → History r (c ∷ calls) (x ∷ answers) (row ++ rest) r''

-- ---- the history is the definitions'

pub record Defined (r : Run) (calls : List Call) (answers : List Answer) (row : List ℕ) (r' : Run) : Type 0 where
  pub record_is : r' ≡ after_calls calls r
  pub answers_are : answers ≡ answers_of calls r
  pub row_is : row ≡ row_of_calls calls r

turn_is : {r : Run} {w : ℕ} {d : Turned} → TurnSays r w d → d ≡ turned r w
turn_is s = s.promised.0

list_is : {r : Run} {l : List ℕ} {d : Ran} → ListSays r l d → d ≡ list_run r l
list_is {r} s = s.promised.0 ∙ ap (list_run r) s.lent

pub rounds_is : {r : Run} {limit : ℕ} {d : Ran} → RoundsSays r limit d → d ≡ rounds_run r limit
rounds_is s = s.promised.0

pub begin_is : {s : List ℕ} {p K : ℕ} {b : Begun} → BeginSays s p K b → b ≡ begin s p K
begin_is {s} {p} {K} h = h.promised.0 ∙ ap (λ (l : List ℕ). begin l p K) h.lent

pub record DefinedCall (r : Run) (c : Call) (x : Answer) (row : List ℕ) (r' : Run) : Type 0 where
  pub record_is : r' ≡ after_call c r
  pub answer_is : x ≡ answer_of c r
  pub row_is : row ≡ row_of c r

pub call_is : {r : Run} {c : Call} {x : Answer} {row : List ℕ} {r' : Run} → Called r c x row r' → DefinedCall r c x row r'
unfolding after_call row_of
call_is (by_turn_lem w d s) =
    let e = turn_is s in
    record { record_is = ap (λ (z : Turned). z.run) e; answer_is = ap (λ (z : Turned). turning z.answer) e; row_is = ap (λ (z : Turned). turn_row z.answer w) e }
call_is (by_list_lem l d s) =
    let e = list_is s in
    record { record_is = ap (λ (z : Ran). z.run) e; answer_is = ap (λ (z : Ran). report z.report) e; row_is = ap (λ (z : Ran). take (turns_in z.report) l) e }
call_is {r} (by_rounds_lem limit d s) =
    let e = rounds_is s in
    record {
      record_is = ap (λ (z : Ran). z.run) e;
      answer_is = ap (λ (z : Ran). report z.report) e;
      row_is = ap (λ (z : Ran). firsts (λ i. i % r.workers) 0 (turns_in z.report)) e;
    }

pub history_is : {r : Run} {calls : List Call} {answers : List Answer} {row : List ℕ} {r' : Run} → History r calls answers row r' → Defined r calls answers row r'
unfolding after_calls answers_of row_of_calls
history_is (none {r}) = record { record_is = refl; answers_are = refl; row_is = refl }
history_is (next {r} {r'} {r''} {c} {x} {row} {rest} {calls} {answers} h t) =
    let a = call_is h in
    let b = history_is t in
    record {
      record_is = b.record_is ∙ ap (after_calls calls) a.record_is;
      answers_are = ap₂ ◌∷◌ a.answer_is (b.answers_are ∙ ap (answers_of calls) a.record_is);
      row_is = ap₂ ◌++◌ a.row_is (b.row_is ∙ ap (row_of_calls calls) a.record_is);
    }

-- ---- a history exists

-- what the definitions answer keeps the promises
pub begin_says : (s : List ℕ) (p K : ℕ) → BeginSays s p K (begin s p K)
begin_says s p K =
    record { lifetimes = ([], tt); bytes = lent_of s; lent = refl; exit = (lent_of s, (p, (K, tt))); promised = (refl, begin_values_lem s p K) }

turn_says : (r : Run) (w : ℕ) → TurnSays r w (turned r w)
turn_says r w = record { exit = (r, (w, tt)); promised = (refl, turn_values_lem r w) }

list_says : (r : Run) (l : List ℕ) → ListSays r l (list_run r l)
list_says r l = record { lifetimes = ([], tt); order = lent_of l; lent = refl; exit = (r, (lent_of l, tt)); promised = (refl, list_values_lem r l) }

pub rounds_says : (r : Run) (limit : ℕ) → RoundsSays r limit (rounds_run r limit)
rounds_says r limit = record { exit = (r, (limit, tt)); promised = (refl, rounds_values_lem r limit) }

pub called : (r : Run) (c : Call) → Called r c (answer_of c r) (row_of c r) (after_call c r)
unfolding after_call row_of
called r (turn w) = by_turn_lem w (turned r w) (turn_says r w)
called r (over_list l) = by_list_lem l (list_run r l) (list_says r l)
called r (in_rounds limit) = by_rounds_lem limit (rounds_run r limit) (rounds_says r limit)

-- every list of calls has a history, from every record and so from that of every accepted beginning: what is said of all histories is said of something
pub history_exists : (r : Run) (calls : List Call) → History r calls (answers_of calls r) (row_of_calls calls r) (after_calls calls r)
unfolding after_calls answers_of row_of_calls
history_exists r [] = none
history_exists r (c ∷ calls) = next (called r c) (history_exists (after_call c r) calls)

-- ---- the limits

-- what holds of the record and of the row that the definitions give, from the beginning on, holds of a history's
pub history_holds : {s : List ℕ} {p K : ℕ} {b : Begun} → BeginSays s p K b → b.answer ≡ Ok tt
    → {calls : List Call} {answers : List Answer} {row : List ℕ} {r : Run} → History b.run calls answers row r
    → (P : Run → List ℕ → Type 0) → (begin s p K ≡ record { answer = Ok tt; run = b.run } → P (after_calls calls b.run) (row_of_calls calls b.run)) → P r row
history_holds {s} {p} {K} {b} h e {calls} {answers} {row} {r} t P given =
    let d = history_is t in
    let f : begin s p K ≡ record { answer = Ok tt; run = b.run } = sym (begin_is h) ∙ (λ i. record { answer = e i; run = b.run }) in
    subst (λ (x : Run). P x row) (sym d.record_is) (subst (λ (x : List ℕ). P (after_calls calls b.run) x) (sym d.row_is) (given f))

-- Demand 3. Beginning accepted the bytes, p and K; the calls of any history followed. Of the record that they left and of the row of their turns the memory limit holds, for every b at
-- least 1.
pub code_limit : {s : List ℕ} {p K : ℕ} {b : Begun} → BeginSays s p K b → b.answer ≡ Ok tt
    → {calls : List Call} {answers : List Answer} {row : List ℕ} {r : Run} → History b.run calls answers row r
    → (most : ℕ) → 1 ≤ most → MemoryLimit (table_of (filled_out s K)) p K most r row
code_limit {s} {p} {K} {b} h e {calls} t most g = history_holds h e t (MemoryLimit (table_of (filled_out s K)) p K most) (λ f. memory_limit s p K b.run f most g calls)

-- N2: and so does the limit on the threads in the list
pub code_threads : {s : List ℕ} {p K : ℕ} {b : Begun} → BeginSays s p K b → b.answer ≡ Ok tt
    → {calls : List Call} {answers : List Answer} {row : List ℕ} {r : Run} → History b.run calls answers row r
    → (most : ℕ) → 1 ≤ most → ThreadLimit (table_of (filled_out s K)) p K most r row
code_threads {s} {p} {K} {b} h e {calls} t most g = history_holds h e t (ThreadLimit (table_of (filled_out s K)) p K most) (λ f. thread_limit_lem s p K b.run f most g calls)

-- N8: the turns of the row that aren't idle are at most m + A + J of the table as run
pub code_turns : {s : List ℕ} {p K : ℕ} {b : Begun} → BeginSays s p K b → b.answer ≡ Ok tt
    → {calls : List Call} {answers : List Answer} {row : List ℕ} {r : Run} → History b.run calls answers row r
    → not_idle (replies (table_of (filled_out s K)) K (start_state (table_of (filled_out s K))) row) ≤ turns_of (table_of (filled_out s K))
code_turns {s} {p} {K} {b} h e {calls} t =
    history_holds h e t (λ (r : Run) (row : List ℕ). not_idle (replies (table_of (filled_out s K)) K (start_state (table_of (filled_out s K))) row) ≤ turns_of (table_of (filled_out s K)))
    (λ f. turns_most s p K b.run f calls)

-- and "from the beginning L = p × (m + A + J) turns in rounds always reply finished"
pub code_finishes : {s : List ℕ} {p K : ℕ} {b : Begun} → BeginSays s p K b → b.answer ≡ Ok tt → {d : Ran} → RoundsSays b.run (p * turns_of (table_of (filled_out s K))) d
    → (k : ℕ) × (d.report ≡ Finished k)
code_finishes {s} {p} {K} {b} h e {d} k =
    let f : begin s p K ≡ record { answer = Ok tt; run = b.run } = sym (begin_is h) ∙ (λ i. record { answer = e i; run = b.run }) in
    let (n, q) = rounds_finish s p K b.run f in
    (n, ap (λ (x : Ran). x.report) (rounds_is k) ∙ q)
