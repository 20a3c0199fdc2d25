-- The calls of DFDeques from C. A history is a list of calls, each on the memory that the last one left, of which nothing is known but what the functions' own promises say (DequeSays).
-- `deque_history_is`: the memory, what was returned and the row of pairs are those of the definitions. `deque_history_exists`: every list of calls has one, on memory whose rows have the lengths
-- of the parts; `begun_history_exists`: and so on the memory that any beginning left. `stands_code_refines`: on memory where a record stands it is those calls on the record, answers included;
-- `begun_code_refines`: and so from a beginning that answered 0; `begun_code_deques`: its deques are those after the turns of the row; `begun_code_once`, `begun_code_owns` and
-- `begun_code_in_use`: the partition and the ownership of N13. (From an opening on: Opened.)
use mathlib.Core.Path.{◌≡◌, refl, sym, ap, ap₂, subst, ◌∙◌}
use Prim.Native.Nat.{ℕ, ◌<◌}
use mathlib.Core.List.{List, [], ◌∷◌, ◌++◌, Memᴰ}
use lib.ListN.{length}
use Rattle.table.specs.Format.{table_of}
use Rattle.schedule.specs.Record.{max_workers, table_in}
use Rattle.filling.specs.Filled.{filled_out}
use Rattle.soundness.specs.Tested.{begun_into}
use Rattle.run_memory.specs.Memory.{Memory, Answer}
use Rattle.run_memory.specs.Blocks.{memory_of}
use Rattle.wivakkol.specs.Lent.{lent_begin}
use Rattle.deques.specs.declared.DequeRun.{DequeRun}
use Rattle.deques.specs.declared.DequeBegun.{DequeBegun}
use Rattle.deques.specs.Deques.{Deque, start_deques}
use Rattle.deques.specs.Partition.{owned_by, holds_at, places_of, InUse}
use Rattle.deques.specs.DequeRecord.{deques_in, deques_of}
use Rattle.deques.specs.DequeRuns.{Pair}
use Rattle.deques.specs.DequeBegin.{deque_begin}
use Rattle.deques.specs.DequeCalls.{turn, over_pairs, after_deque_calls, pairs_of_calls, row_deques}
use Rattle.deques.proofs.DequeHistories.{deque_calls_traced}
use Rattle.deques.proofs.DequeSoundness.{thread_once, owns_one, owner_or_thread}
use Rattle.stealing.specs.StealingMemory.{deque_run_in, DequesStand}
use Rattle.claims.specs.LentCalls.{table_that_runs, Returned, returned}
use Rattle.claims.proofs.Shaped.{Shaped, blocks_shaped}
use Rattle.claims.proofs.Sizes.{begin_shaped}
use Rattle.claims.proofs.LentSays.{BeginSays, begin_is, begin_says}
use Rattle.claims.proofs.FromC.{runs_so}
use Rattle.deque_claims.specs.LentDequeCalls.{LentDequeCall, moving, opening, lent_deque_move, lent_deque_call, lent_pairs_of, lent_deques_after, lent_pairs, lent_deques_returned, deque_moves_of, deques_returned_by}
use Rattle.deque_claims.proofs.DequesRefine.{begun_deques_stand, begun_deques_there, begun_deques_record, deque_calls_refine}
use Rattle.deque_claims.proofs.DequeSizes.{deque_call_shaped}
use Rattle.deque_claims.proofs.DequeSays.{TurnSays, ListSays, OpenSays, turn_is, list_is, open_is, turn_says, list_says, open_says}

-- ---- a history

-- one call on memory M, and what it answered
pub data DequeCalled (s : List ℕ) (M : Memory) : LentDequeCall → Answer → Type 0 where
  by_turn_lem : {w c : ℕ} {a : Answer} → TurnSays s w c M a → DequeCalled s M (moving (turn w c)) a
  by_list_lem : {l : List ℕ} {a : Answer} → ListSays s l M a → DequeCalled s M (moving (over_pairs l)) a
  by_open : {a : Answer} → OpenSays s M a → DequeCalled s M opening a

pub deque_call_is : {s : List ℕ} {M : Memory} {c : LentDequeCall} {a : Answer} → DequeCalled s M c a → a ≡ lent_deque_call s c M
unfolding lent_deque_call lent_deque_move
deque_call_is (by_turn_lem h) = turn_is h
deque_call_is (by_list_lem h) = list_is h
deque_call_is (by_open h) = open_is h

-- calls one after the other: what they returned, the pairs whose turns were taken, as the answers have it, and the memory that they leave
pub data DequeHistory (s : List ℕ) : Memory → List LentDequeCall → List Returned → List Pair → Memory → Type 0 where
  none : {M : Memory} → DequeHistory s M [] [] [] M
  next : {M M' : Memory} {c : LentDequeCall} {a : Answer} {l : List LentDequeCall} {answers : List Returned} {row : List Pair} → DequeCalled s M c a → DequeHistory s a.memory l answers row M'
      → DequeHistory s M (c ∷ l) (returned a.number a.row ∷ answers) (lent_pairs_of c a ++ row) M'

-- the history is the definitions'
pub record DequesDefined (s : List ℕ) (M : Memory) (l : List LentDequeCall) (answers : List Returned) (row : List Pair) (M' : Memory) : Type 0 where
  pub memory_is : M' ≡ lent_deques_after s l M
  pub answers_are : answers ≡ lent_deques_returned s l M
  pub row_is : row ≡ lent_pairs s l M

pub deque_history_is : {s : List ℕ} {M M' : Memory} {l : List LentDequeCall} {answers : List Returned} {row : List Pair} → DequeHistory s M l answers row M' → DequesDefined s M l answers row M'
unfolding lent_deques_after lent_deques_returned lent_pairs
deque_history_is none = record { memory_is = refl; answers_are = refl; row_is = refl }
deque_history_is {s} (next {M} {M'} {c} {a} {l} {answers} {row} h t) =
    let e = deque_call_is h in
    let d = deque_history_is t in
    record {
      memory_is = d.memory_is ∙ ap (λ (x : Answer). lent_deques_after s l x.memory) e;
      answers_are = ap₂ ◌∷◌ (ap (λ (x : Answer). returned x.number x.row) e) (d.answers_are ∙ ap (λ (x : Answer). lent_deques_returned s l x.memory) e);
      row_is = ap₂ ◌++◌ (ap (lent_pairs_of c) e) (d.row_is ∙ ap (λ (x : Answer). lent_pairs s l x.memory) e);
    }

-- ---- a history exists

called : (s : List ℕ) (M : Memory) (c : LentDequeCall) → Shaped M → Shaped (lent_deque_call s c M).memory → DequeCalled s M c (lent_deque_call s c M)
unfolding lent_deque_call lent_deque_move
called s M (moving (turn w c)) h k = by_turn_lem (turn_says s w c M h k)
called s M (moving (over_pairs l)) h k = by_list_lem (list_says s l M h k)
called s M opening h k = by_open (open_says s M)

-- the definitions' own
abbrev pub Defines : List ℕ → Memory → List LentDequeCall → Type 0
Defines s M l = DequeHistory s M l (lent_deques_returned s l M) (lent_pairs s l M) (lent_deques_after s l M)

pub deque_history_exists : (s : List ℕ) (M : Memory) → Shaped M → (l : List LentDequeCall) → Defines s M l
unfolding lent_deques_after lent_deques_returned lent_pairs
deque_history_exists s M h [] = none
deque_history_exists s M h (c ∷ l) =
    let k = deque_call_shaped s c M h in
    next (called s M c h k) (deque_history_exists s (lent_deque_call s c M).memory k l)

-- whatever stands in the four blocks that C lends
pub blocks_history_exists : (s b w n k : List ℕ) → length b ≡ 1040 → length w ≡ 6163 → length n ≡ 18 → length k ≡ 1027 → (l : List LentDequeCall) → Defines s (memory_of b w n k) l
blocks_history_exists s b w n k p q r t = deque_history_exists s (memory_of b w n k) (blocks_shaped b w n k p q r t)

-- from any beginning on, refused or not, given any table
pub begun_history_exists : (s : List ℕ) (p K : ℕ) (out u : List ℕ) (l : List LentDequeCall)
    → BeginSays s p K out (lent_begin s p K (length out)) (begun_into s p K out) × Defines u (lent_begin s p K (length out)).memory l
begun_history_exists s p K out u l =
    (begin_says s p K out, deque_history_exists u (lent_begin s p K (length out)).memory (begin_shaped s p K (length out)) l)

-- ---- on memory where a record stands

-- A history from record r on: the record that stands in the memory left, what was returned to every call, in number and row, and the row of pairs whose turns were taken are those of the calls
-- on r; and the record left stands.
pub record CodeRefines (s : List ℕ) (r : DequeRun) (l : List LentDequeCall) (answers : List Returned) (row : List Pair) (N : Memory) : Type 0 where
  pub record_after : deque_run_in s N ≡ after_deque_calls (deque_moves_of l) r
  pub answers_are : answers ≡ deques_returned_by l r
  pub row_is : row ≡ pairs_of_calls (deque_moves_of l) r
  pub stands : DequesStand s N

pub stands_code_refines : {s : List ℕ} {M : Memory} → DequesStand s M → {l : List LentDequeCall} {answers : List Returned} {row : List Pair} {N : Memory} → DequeHistory s M l answers row N
    → CodeRefines s (deque_run_in s M) l answers row N
stands_code_refines {s} {M} h {l} t =
    let d = deque_history_is t in
    let c = deque_calls_refine s M h l in
    record {
      record_after = ap (deque_run_in s) d.memory_is ∙ c.record_after;
      answers_are = d.answers_are ∙ c.answers;
      row_is = d.row_is ∙ c.row;
      stands = subst (DequesStand s) (sym d.memory_is) c.stands;
    }

-- ---- from a beginning on

-- `wivakkol_begin_on` answered 0, and the calls of any history followed, given the table that runs: they are those calls on the record of DFDeques' beginning.
module _ {s : List ℕ} {p K : ℕ} {out filled : List ℕ} {a : Answer} (h : BeginSays s p K out a filled) (e : a.number ≡ 0) {l : List LentDequeCall} {answers : List Returned} {row : List Pair} {M : Memory}
    (t : DequeHistory (table_that_runs s a filled) a.memory l answers row M) where
  abbrev F : List ℕ
  F = filled_out s K

  begun : (lent_begin s p K (length out)).number ≡ 0
  begun = ap (λ (x : Answer). x.number) (sym (begin_is h)) ∙ e

  over_filled : DequeHistory F a.memory l answers row M
  over_filled = subst (λ (u : List ℕ). DequeHistory u a.memory l answers row M) (runs_so h e) t

  pub begun_code_refines : CodeRefines (table_that_runs s a filled) (deque_begin s p K).run l answers row M
  begun_code_refines =
      let there : DequesStand F a.memory = subst (λ (x : Answer). DequesStand F x.memory) (sym (begin_is h)) (begun_deques_stand s p K (length out) begun) in
      let r : deque_run_in F a.memory ≡ (deque_begin s p K).run =
      ap (λ (x : Answer). deque_run_in F x.memory) (begin_is h) ∙ ap (λ (x : DequeBegun). x.run) (sym (begun_deques_there s p K (length out) begun)) in
      subst (λ (u : List ℕ). CodeRefines u (deque_begin s p K).run l answers row M) (sym (runs_so h e))
      (subst (λ (x : DequeRun). CodeRefines F x l answers row M) r (stands_code_refines there over_filled))

  -- the record left
  abbrev left : DequeRun
  left = deque_run_in (table_that_runs s a filled) M

  -- its deques are those after the turns of the row, each as defined
  pub begun_code_deques : deques_of left ≡ row_deques (table_of F) K (start_deques (table_of F)) row
  begun_code_deques =
      ap deques_of begun_code_refines.record_after
      ∙ (deque_calls_traced s p K (deque_begin s p K).run (begun_deques_record s p K (length out) begun) (deque_moves_of l)).deques
      ∙ ap (row_deques (table_of F) K (start_deques (table_of F))) (sym begun_code_refines.row_is)

  -- the partition and the ownership of N13
  pub begun_code_once : (u : ℕ) → u < (table_in left.run).threads → places_of left.run.status (deques_in left) u ≡ 1
  begun_code_once = thread_once left begun_code_refines.stands.steady

  pub begun_code_owns : (w : ℕ) → w < max_workers → owned_by w (deques_in left) ≡ holds_at left.run.worker w
  begun_code_owns = owns_one left begun_code_refines.stands.steady

  pub begun_code_in_use : (d : Deque) → Memᴰ d (deques_in left) → InUse d
  begun_code_in_use = owner_or_thread left begun_code_refines.stands.steady
