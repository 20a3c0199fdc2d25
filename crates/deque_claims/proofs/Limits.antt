-- The limits of DFDeques for the running code: over every history of calls from an accepted beginning, refused ones included, whatever the order of the turns and the choices
-- (crates/deque_bounds/proofs, CallLimits and HeldLimits).
use Rattle.std.specs.Prelude.{Ok}
use mathlib.Core.Path.{◌≡◌, sym, ap, subst, ◌∙◌}
use Prim.Native.Nat.{ℕ}
use mathlib.Core.List.{List}
use lib.ListN.{length}
use Rattle.table.specs.Format.{table_of}
use Rattle.filling.specs.Filled.{filled_out}
use Rattle.run_memory.specs.Memory.{Memory, Answer}
use Rattle.wivakkol.specs.Lent.{lent_begin}
use Rattle.deques.specs.declared.DequeRun.{DequeRun}
use Rattle.deques.specs.declared.DequeBegun.{DequeBegun}
use Rattle.deques.specs.DequeRuns.{Pair}
use Rattle.deques.specs.DequeBegin.{deque_begin}
use Rattle.deques.specs.DequeCalls.{DequeCall, after_deque_calls, pairs_of_calls}
use Rattle.deque_bounds.proofs.CallLimits.{DequeLimit, deque_limit_lem}
use Rattle.stealing.specs.StealingMemory.{deque_run_in}
use Rattle.claims.specs.LentCalls.{table_that_runs, Returned}
use Rattle.claims.proofs.LentSays.{BeginSays, begin_is}
use Rattle.deque_claims.specs.LentDequeCalls.{LentDequeCall, deque_moves_of}
use Rattle.deque_claims.specs.DequeAnswersOf.{DequeAnswer}
use Rattle.deque_claims.proofs.ByValue as by_value
use Rattle.deque_claims.proofs.DequesRefine.{begun_deques_there}
use Rattle.deque_claims.proofs.FromC.{DequeHistory, begun_code_refines}

-- ---- by value

-- `dfdeques::deque_begin` accepted the bytes, p and K, and the calls of any history followed: the limits hold of the record that they left and of the pairs whose turns were taken
pub code_deque_limit : {s : List ℕ} {p K : ℕ} {b : DequeBegun} → by_value.BeginSays s p K b → b.answer ≡ Ok tt
    → {calls : List DequeCall} {answers : List DequeAnswer} {row : List Pair} {r : DequeRun} → by_value.History b.run calls answers row r → DequeLimit (table_of (filled_out s K)) p K r row
code_deque_limit {s} {p} {K} {b} h e {calls} t = by_value.history_holds h e t (DequeLimit (table_of (filled_out s K)) p K) (λ f. deque_limit_lem s p K b.run f calls)

-- ---- from C

-- `wivakkol_begin_on` answered 0, and the calls of any history followed, given the table that runs: the limits hold of the record that stands in the memory left and of the pairs whose turns were taken
pub lent_code_deque_limit : {s : List ℕ} {p K : ℕ} {out filled : List ℕ} {a : Answer} → BeginSays s p K out a filled → a.number ≡ 0
    → {l : List LentDequeCall} {answers : List Returned} {row : List Pair} {M : Memory} → DequeHistory (table_that_runs s a filled) a.memory l answers row M
    → DequeLimit (table_of (filled_out s K)) p K (deque_run_in (table_that_runs s a filled) M) row
lent_code_deque_limit {s} {p} {K} {out} {filled} {a} h e {l} {answers} {row} {M} t =
    let c = begun_code_refines h e t in
    let begun : (lent_begin s p K (length out)).number ≡ 0 = ap (λ (x : Answer). x.number) (sym (begin_is h)) ∙ e in
    let there = begun_deques_there s p K (length out) begun in
    let f : deque_begin s p K ≡ record { answer = Ok tt; run = (deque_begin s p K).run } = there ∙ ap (λ (x : DequeRun). record { answer = Ok tt; run = x }) (sym (ap (λ (x : DequeBegun). x.run) there)) in
    subst (λ (x : DequeRun). DequeLimit (table_of (filled_out s K)) p K x row) (sym c.record_after)
    (subst (λ (x : List Pair). DequeLimit (table_of (filled_out s K)) p K (after_deque_calls (deque_moves_of l) (deque_begin s p K).run) x) (sym c.row_is)
    (deque_limit_lem s p K (deque_begin s p K).run f (deque_moves_of l)))
