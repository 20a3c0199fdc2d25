-- What `dequelimit` gives serves: over every history of calls from a beginning with the same p and K whose choices are below c, refused ones included, memory held and its highest are at most
-- its first number, and with choices 0 at most its second. So do the numbers that `wivakkol_deque_limit_on` puts into its row (`limit_call_serves`).
use Rattle.std.specs.Prelude.{Ok}
use mathlib.Core.Path.{◌≡◌, refl, sym, ◌∙◌}
use Prim.Native.Nat.{ℕ, ◌≤◌}
use mathlib.Core.List.{List, [], ◌∷◌}
use lib.ListN.{length, get_or, replicate}
use contract.Lifetimes.{Lfts}
use denote.Ref.{Bor}
use denote.MutBor.{MutBor}
use denote.Triple.Clauses.{AtExit}
use borrow.Fn.Kinds.{ended_of}
use Rattle.run_memory.specs.Memory.{Memory, Answer}
use Rattle.deques.specs.declared.DequeRun.{DequeRun}
use Rattle.deques.specs.declared.DequeBegun.{DequeBegun}
use Rattle.deques.specs.DequeRuns.{Pair}
use Rattle.deques.specs.DequeCalls.{DequeCall}
use Rattle.deque_bounds.proofs.HeldLimits.{Choices}
use Rattle.deque_limit.specs.declared.Bounds.{Bounds}
use Rattle.deque_limit.specs.ChoiceLimit.{choice_limits, choice_limits_in, choice_limits_into}
use Rattle.deque_limit.proofs.Holds.{answer_holds, near_holds}
use Rattle.stealing.specs.StealingMemory.{deque_run_in}
use Rattle.wivakkol_deques.specs.ChoiceRows.{choice_number, choice_row}
use Rattle.wivakkol_deques.proofs.ChoiceRows.{choice_zero}
use Rattle.wivakkol_deques.proofs.limit.wivakkol_deque_limit_on.Kinds as limit_kinds
use Rattle.wivakkol_deques.proofs.limit.wivakkol_deque_limit_on.Reads as limit_promise
use Rattle.claims.specs.LentCalls.{table_that_runs, Returned}
use Rattle.claims.proofs.LentSays.{BeginSays, lent_of, lent_mut}
use Rattle.deque_claims.specs.LentDequeCalls.{LentDequeCall}
use Rattle.deque_claims.specs.DequeAnswersOf.{DequeAnswer}
use Rattle.deque_claims.proofs.ByValue as by_value
use Rattle.deque_claims.proofs.FromC.{DequeHistory}
use Rattle.deque_claims.proofs.Limits.{code_deque_limit, lent_code_deque_limit}

-- of a record and the row of pairs that led to it, with the two numbers given for c
pub record Served (c : ℕ) (x : Bounds) (r : DequeRun) (row : List Pair) : Type 0 where
  pub below : Choices c row → (r.run.held ≤ x.memory) × (r.run.highest ≤ x.memory)
  pub near : Choices 1 row → (r.run.held ≤ x.near) × (r.run.highest ≤ x.near)

-- by value
pub code_choices_serve : (s : List ℕ) (p K c : ℕ) (x : Bounds) → choice_limits s p K c ≡ Ok x → {b : DequeBegun} → by_value.BeginSays s p K b → b.answer ≡ Ok tt
    → {calls : List DequeCall} {answers : List DequeAnswer} {row : List Pair} {r : DequeRun} → by_value.History b.run calls answers row r → Served c x r row
code_choices_serve s p K c x e h i {calls} {answers} {row} {r} t =
    record { below = answer_holds s p K c x e r row (code_deque_limit h i t); near = near_holds s p K c x e r row (code_deque_limit h i t) }

-- from C
pub lent_code_choices_serve : (s : List ℕ) (p K c : ℕ) (x : Bounds) → choice_limits s p K c ≡ Ok x → {out filled : List ℕ} {a : Answer} → BeginSays s p K out a filled → a.number ≡ 0
    → {l : List LentDequeCall} {answers : List Returned} {row : List Pair} {M : Memory} → DequeHistory (table_that_runs s a filled) a.memory l answers row M
    → Served c x (deque_run_in (table_that_runs s a filled) M) row
lent_code_choices_serve s p K c x e {out} {filled} {a} h i {l} {answers} {row} {M} t =
    let r : DequeRun = deque_run_in (table_that_runs s a filled) M in
    record { below = answer_holds s p K c x e r row (lent_code_deque_limit h i t); near = near_holds s p K c x e r row (lent_code_deque_limit h i t) }

-- ---- the call from C

-- `wivakkol_deque_limit_on`, lent a table s, a buffer of so many bytes and working memory that held anything, returned `number` and left `row`
pub record LimitSays (s : List ℕ) (p K c room number : ℕ) (row : List ℕ) : Type 0 where
  pub lifetimes : Lfts 9
  pub table : Bor (List ℕ)
  pub before : MutBor (List ℕ)
  pub rises : MutBor (List ℕ)
  pub falls : MutBor (List ℕ)
  pub serials : MutBor (List ℕ)
  pub depths : MutBor (List ℕ)
  pub peaks : MutBor (List ℕ)
  pub rows : MutBor (List ℕ)
  pub buffer : MutBor (List ℕ)
  pub lent : table.now ≡ s
  pub lent_room : length buffer.now ≡ room
  pub exit : AtExit (ended_of 9 limit_kinds.ps limit_kinds.r) lifetimes
  pub left : exit.1.1.1.1.0.now ≡ row
  pub promised : limit_promise.Learnt lifetimes (table, (p, (K, (c, (before, (rises, (falls, (serials, (depths, (peaks, (rows, (buffer, tt)))))))))))) number exit

pub limit_number_lem : {s : List ℕ} {p K c room number : ℕ} {row : List ℕ} → LimitSays s p K c room number row → number ≡ choice_number (choice_limits_in s p K c room)
limit_number_lem {s} {p} {K} {c} h = h.promised.0 ∙ (λ i. choice_number (choice_limits_in (h.lent i) p K c (h.lent_room i)))

pub limit_row_lem : {s : List ℕ} {p K c room number : ℕ} {row : List ℕ} → LimitSays s p K c room number row → row ≡ choice_row (choice_limits_in s p K c room)
limit_row_lem {s} {p} {K} {c} h = sym h.left ∙ h.promised.1.0 ∙ (λ i. choice_row (choice_limits_in (h.lent i) p K c (h.lent_room i)))

-- what it is defined to answer keeps its promise, whatever is lent
pub limit_says : (s out : List ℕ) (p K c : ℕ)
    → LimitSays s p K c (length out) (choice_number (choice_limits_in s p K c (length out))) (choice_row (choice_limits_in s p K c (length out)))
limit_says s out p K c =
    let zeros : ℕ → MutBor (List ℕ) = λ n. lent_mut (replicate n 0) in
    let row : MutBor (List ℕ) = lent_mut (choice_row (choice_limits_in s p K c (length out))) in
    record {
      lifetimes = ([], ([], ([], ([], ([], ([], ([], ([], ([], tt)))))))));
      table = lent_of s;
      before = lent_mut [];
      rises = lent_mut [];
      falls = lent_mut [];
      serials = lent_mut [];
      depths = lent_mut [];
      peaks = lent_mut [];
      rows = lent_mut [];
      buffer = lent_mut out;
      lent = refl;
      lent_room = refl;
      exit = (lent_of s, (p, (K, (c, (row, (zeros 1024, (zeros 1024, (zeros 1024, (zeros 1024, (zeros 17408, (zeros 17408, (lent_mut (choice_limits_into s p K c out), tt))))))))))));
      left = refl;
      promised = (refl, (refl, (refl, (refl, refl, refl, refl, refl, refl))));
    }

-- where it returned 0, the two numbers behind the place in its row serve
pub limit_call_serves : {s : List ℕ} {p K : ℕ} (c : ℕ) {room number : ℕ} {left : List ℕ} → LimitSays s p K c room number left → number ≡ 0
    → {out filled : List ℕ} {a : Answer} → BeginSays s p K out a filled → a.number ≡ 0
    → {l : List LentDequeCall} {answers : List Returned} {row : List Pair} {M : Memory} → DequeHistory (table_that_runs s a filled) a.memory l answers row M
    → Served c (record { memory = get_or left 1 0; near = get_or left 2 0 }) (deque_run_in (table_that_runs s a filled) M) row
limit_call_serves {s} {p} {K} c {room} {number} {left} q z {out} {filled} {a} h i {l} {answers} {row} {M} t =
    let (x, (e, d)) = choice_zero s p K c room (sym (limit_number_lem q) ∙ z) in
    let f : left ≡ (0 ∷ x.memory ∷ x.near ∷ []) = limit_row_lem q ∙ d in
    rw f (lent_code_choices_serve s p K c x e h i t)
