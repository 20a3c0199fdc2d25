-- DFDeques for the running code, by value. A history is a list of calls, each on the record that the last one left, of which nothing is known but what the promises of the public functions say:
-- their own `ensures`, as the check reads it (`Learnt`), of the arguments and the answer. `history_is`: the record, the answers and the row of pairs are those of the definitions.
-- `history_exists`: every list of calls has one. `code_follows`: and so from an accepted beginning, refused calls included, the record is sound but for its turns taken, its
-- deques are those of the row, and every pair's worker and choice are below p; `code_once`, `code_owns` and `code_in_use`: the partition and the ownership of N13.
use Rattle.std.specs.Prelude.{Ok}
use mathlib.Core.Path.{◌≡◌, refl, sym, ap, ap₂, subst, ◌∙◌}
use Prim.Native.Nat.{ℕ, ◌<◌}
use mathlib.Core.List.{List, [], ◌∷◌, ◌++◌, Memᴰ}
use contract.Lifetimes.{Lfts}
use denote.Ref.{Bor}
use denote.Triple.Clauses.{AtExit}
use borrow.Fn.Kinds.{ended_of}
use Rattle.table.specs.Format.{table_of}
use Rattle.filling.specs.Filled.{filled_out}
use Rattle.schedule.specs.Calls.{turns_in}
use Rattle.schedule.specs.Record.{table_in, max_workers}
use Rattle.deques.specs.declared.DequeRun.{DequeRun}
use Rattle.deques.specs.declared.DequeBegun.{DequeBegun}
use Rattle.deques.specs.declared.DequeTurned.{DequeTurned}
use Rattle.deques.specs.declared.DequeRan.{DequeRan}
use Rattle.deques.specs.Deques.{Deque, start_deques}
use Rattle.deques.specs.Partition.{owned_by, holds_at, places_of, InUse}
use Rattle.deques.specs.DequeRecord.{deques_in, deques_of}
use Rattle.deques.specs.DequeSound.{SteadyDeques}
use Rattle.deques.specs.DequeBegin.{deque_begin}
use Rattle.deques.specs.DequeTurn.{deque_turned}
use Rattle.deques.specs.DequeRuns.{Pair, pair, pair_at, pairs_run}
use Rattle.deques.specs.DequeCalls.{DequeCall, turn, over_pairs, after_deque_call, deque_turn_row, pairs_from, pairs_of, after_deque_calls, pairs_of_calls, row_deques}
use Rattle.deques.proofs.DequeAnswers.{deque_begin_values, deque_turn_values_lem, pairs_values_lem}
use Rattle.deques.proofs.DequeHistories.{deque_calls_traced}
use Rattle.deques.proofs.DequeSoundness.{thread_once, owns_one, owner_or_thread}
use Rattle.dfdeques.proofs.deque_begin.Kinds as begin_kinds
use Rattle.dfdeques.proofs.deque_begin.Reads as begin_promise
use Rattle.dfdeques.proofs.deque_turn.Kinds as turn_kinds
use Rattle.dfdeques.proofs.deque_turn.Reads as turn_promise
use Rattle.dfdeques.proofs.run_pairs.Kinds as pairs_kinds
use Rattle.dfdeques.proofs.run_pairs.Reads as pairs_promise
use Rattle.claims.proofs.LentSays.{lent_of}
use Rattle.deque_claims.specs.DequeAnswersOf.{DequeAnswer, turning, report, deque_answer_of, deque_answers_of}

-- ---- what the promises say

-- `dfdeques::deque_begin(bytes, p, K)` answered b
pub record BeginSays (s : List ℕ) (p K : ℕ) (b : DequeBegun) : Type 0 where
  pub lifetimes : Lfts 1
  pub bytes : Bor (List ℕ)
  pub lent : bytes.now ≡ s
  pub exit : AtExit (ended_of 1 begin_kinds.ps begin_kinds.r) lifetimes
  pub promised : begin_promise.Learnt lifetimes (bytes, (p, (K, tt))) b exit

-- `dfdeques::deque_turn(r, w, c)` answered d
pub record TurnSays (r : DequeRun) (w c : ℕ) (d : DequeTurned) : Type 0 where
  pub exit : AtExit (ended_of 0 turn_kinds.ps turn_kinds.r) tt
  pub promised : turn_promise.Learnt tt (r, (w, (c, tt))) d exit

-- `dfdeques::run_pairs(r, l)` answered d
pub record PairsSays (r : DequeRun) (l : List ℕ) (d : DequeRan) : Type 0 where
  pub lifetimes : Lfts 1
  pub order : Bor (List ℕ)
  pub lent : order.now ≡ l
  pub exit : AtExit (ended_of 1 pairs_kinds.ps pairs_kinds.r) lifetimes
  pub promised : pairs_promise.Learnt lifetimes (r, (order, tt)) d exit

-- ---- a history of calls

-- one call on record r: its answer, the pairs of its turns as the answer has it, and the record after
pub data Called (r : DequeRun) : DequeCall → DequeAnswer → List Pair → DequeRun → Type 0 where
  by_turn_lem : (w c : ℕ) (d : DequeTurned) → TurnSays r w c d → Called r (turn w c) (turning d.answer) (deque_turn_row d.answer (pair w c)) d.run
  by_pairs : (l : List ℕ) (d : DequeRan) → PairsSays r l d → Called r (over_pairs l) (report d.report) (pairs_from (pair_at l) 0 (turns_in d.report)) d.run

-- calls one after the other: their answers, the rows laid end to end, and the record that they leave
pub data History : DequeRun → List DequeCall → List DequeAnswer → List Pair → DequeRun → Type 0 where
  none : {r : DequeRun} → History r [] [] [] r
  next : {r r' r'' : DequeRun} {c : DequeCall} {x : DequeAnswer} {row rest : List Pair} {calls : List DequeCall} {answers : List DequeAnswer}
      → Called r c x row r' → History r' calls answers rest r'' → History r (c ∷ calls) (x ∷ answers) (row ++ rest) r''

-- ---- the history is the definitions'

pub record Defined (r : DequeRun) (calls : List DequeCall) (answers : List DequeAnswer) (row : List Pair) (r' : DequeRun) : Type 0 where
  pub record_is : r' ≡ after_deque_calls calls r
  pub answers_are : answers ≡ deque_answers_of calls r
  pub row_is : row ≡ pairs_of_calls calls r

turn_is : {r : DequeRun} {w c : ℕ} {d : DequeTurned} → TurnSays r w c d → d ≡ deque_turned r w c
turn_is s = s.promised.0

pairs_is : {r : DequeRun} {l : List ℕ} {d : DequeRan} → PairsSays r l d → d ≡ pairs_run r l
pairs_is {r} s = s.promised.0 ∙ ap (pairs_run r) s.lent

pub begin_is : {s : List ℕ} {p K : ℕ} {b : DequeBegun} → BeginSays s p K b → b ≡ deque_begin s p K
begin_is {s} {p} {K} h = h.promised.0 ∙ ap (λ (l : List ℕ). deque_begin l p K) h.lent

pub record DefinedCall (r : DequeRun) (c : DequeCall) (x : DequeAnswer) (row : List Pair) (r' : DequeRun) : Type 0 where
  pub record_is : r' ≡ after_deque_call c r
  pub answer_is : x ≡ deque_answer_of c r
  pub row_is : row ≡ pairs_of c r

pub call_is : {r : DequeRun} {c : DequeCall} {x : DequeAnswer} {row : List Pair} {r' : DequeRun} → Called r c x row r' → DefinedCall r c x row r'
unfolding after_deque_call pairs_of
call_is (by_turn_lem w c d s) =
    let e = turn_is s in
    record {
      record_is = ap (λ (z : DequeTurned). z.run) e;
      answer_is = ap (λ (z : DequeTurned). turning z.answer) e;
      row_is = ap (λ (z : DequeTurned). deque_turn_row z.answer (pair w c)) e;
    }
call_is (by_pairs l d s) =
    let e = pairs_is s in
    record {
      record_is = ap (λ (z : DequeRan). z.run) e;
      answer_is = ap (λ (z : DequeRan). report z.report) e;
      row_is = ap (λ (z : DequeRan). pairs_from (pair_at l) 0 (turns_in z.report)) e;
    }

pub history_is : {r : DequeRun} {calls : List DequeCall} {answers : List DequeAnswer} {row : List Pair} {r' : DequeRun} → History r calls answers row r' → Defined r calls answers row r'
unfolding after_deque_calls deque_answers_of pairs_of_calls
history_is (none {r}) = record { record_is = refl; answers_are = refl; row_is = refl }
history_is (next {r} {r'} {r''} {c} {x} {row} {rest} {calls} {answers} h t) =
    let a = call_is h in
    let b = history_is t in
    record {
      record_is = b.record_is ∙ ap (after_deque_calls calls) a.record_is;
      answers_are = ap₂ ◌∷◌ a.answer_is (b.answers_are ∙ ap (deque_answers_of calls) a.record_is);
      row_is = ap₂ ◌++◌ a.row_is (b.row_is ∙ ap (pairs_of_calls calls) a.record_is);
    }

-- ---- a history exists

-- what the definitions answer keeps the promises
pub begin_says : (s : List ℕ) (p K : ℕ) → BeginSays s p K (deque_begin s p K)
begin_says s p K =
    record { lifetimes = ([], tt); bytes = lent_of s; lent = refl; exit = (lent_of s, (p, (K, tt))); promised = (refl, deque_begin_values s p K) }

turn_says : (r : DequeRun) (w c : ℕ) → TurnSays r w c (deque_turned r w c)
turn_says r w c = record { exit = (r, (w, (c, tt))); promised = (refl, deque_turn_values_lem r w c) }

pairs_says : (r : DequeRun) (l : List ℕ) → PairsSays r l (pairs_run r l)
pairs_says r l = record { lifetimes = ([], tt); order = lent_of l; lent = refl; exit = (r, (lent_of l, tt)); promised = (refl, pairs_values_lem r l) }

pub called : (r : DequeRun) (c : DequeCall) → Called r c (deque_answer_of c r) (pairs_of c r) (after_deque_call c r)
unfolding after_deque_call pairs_of
called r (turn w c) = by_turn_lem w c (deque_turned r w c) (turn_says r w c)
called r (over_pairs l) = by_pairs l (pairs_run r l) (pairs_says r l)

-- every list of calls has a history, from every record and so from that of every accepted beginning: what is said of all histories is said of something
pub history_exists : (r : DequeRun) (calls : List DequeCall) → History r calls (deque_answers_of calls r) (pairs_of_calls calls r) (after_deque_calls calls r)
unfolding after_deque_calls deque_answers_of pairs_of_calls
history_exists r [] = none
history_exists r (c ∷ calls) = next (called r c) (history_exists (after_deque_call c r) calls)

-- ---- from an accepted beginning

-- what holds of the record and of the row that the definitions give, from the beginning on, holds of a history's
pub history_holds : {s : List ℕ} {p K : ℕ} {b : DequeBegun} → BeginSays s p K b → b.answer ≡ Ok tt
    → {calls : List DequeCall} {answers : List DequeAnswer} {row : List Pair} {r : DequeRun} → History b.run calls answers row r
    → (P : DequeRun → List Pair → Type 0) → (deque_begin s p K ≡ record { answer = Ok tt; run = b.run } → P (after_deque_calls calls b.run) (pairs_of_calls calls b.run)) → P r row
history_holds {s} {p} {K} {b} h e {calls} {answers} {row} {r} t P given =
    let d = history_is t in
    let f : deque_begin s p K ≡ record { answer = Ok tt; run = b.run } = sym (begin_is h) ∙ (λ i. record { answer = e i; run = b.run }) in
    subst (λ (x : DequeRun). P x row) (sym d.record_is) (subst (λ (x : List Pair). P (after_deque_calls calls b.run) x) (sym d.row_is) (given f))

-- what a history leaves: the record is sound but for its turns taken, its deques are those that the turns of the row make of the start's, and each pair's worker and choice are below p
pub record Follows (s : List ℕ) (p K : ℕ) (r : DequeRun) (row : List Pair) : Type 0 where
  pub steady : SteadyDeques r
  pub below : (g : Pair) → Memᴰ g row → (g.worker < p) × (g.choice < p)
  pub deques : deques_of r ≡ row_deques (table_of (filled_out s K)) K (start_deques (table_of (filled_out s K))) row

pub code_follows : {s : List ℕ} {p K : ℕ} {b : DequeBegun} → BeginSays s p K b → b.answer ≡ Ok tt
    → {calls : List DequeCall} {answers : List DequeAnswer} {row : List Pair} {r : DequeRun} → History b.run calls answers row r → Follows s p K r row
code_follows {s} {p} {K} {b} h e {calls} t =
    history_holds h e t (Follows s p K) (λ f. let d = deque_calls_traced s p K b.run f calls in record { steady = d.steady; below = d.below; deques = d.deques })

-- ---- "every thread of the table is exactly one of these", "A worker owns one deque while it holds a thread and otherwise none", "an owner or a thread"

module _ {s : List ℕ} {p K : ℕ} {b : DequeBegun} (h : BeginSays s p K b) (e : b.answer ≡ Ok tt) {calls : List DequeCall} {answers : List DequeAnswer} {row : List Pair} {r : DequeRun}
    (t : History b.run calls answers row r) where
  pub code_once : (u : ℕ) → u < (table_in r.run).threads → places_of r.run.status (deques_in r) u ≡ 1
  code_once = thread_once r (code_follows h e t).steady

  pub code_owns : (w : ℕ) → w < max_workers → owned_by w (deques_in r) ≡ holds_at r.run.worker w
  code_owns = owns_one r (code_follows h e t).steady

  pub code_in_use : (d : Deque) → Memᴰ d (deques_in r) → InUse d
  code_in_use = owner_or_thread r (code_follows h e t).steady
