-- The calls from C. A history is a list of calls, each on the memory that the last one left, of which nothing is known but what the functions' own promises say (LentSays).
-- `lent_history_is`: the memory, what was returned and the row of turns are those of the definitions. `lent_history_exists`: every list of calls has one, on memory whose rows have the lengths
-- of the parts; `begun_history_exists`: and so on the memory that any beginning left. `stands_code_refines`: on memory where a record stands it is those calls on the record, answers included;
-- `begun_code_refines`: and so from a beginning that answered 0. `lent_code_limit` and `lent_code_threads`: so both limits hold. (From an opening on: Opened.)
use mathlib.Core.Path.{◌≡◌, refl, sym, ap, ap₂, subst, ◌∙◌}
use Prim.Native.Nat.{ℕ, ◌≤◌}
use mathlib.Core.List.{List, [], ◌∷◌, ◌++◌, map}
use lib.ListN.{length}
use Rattle.table.specs.Format.{table_of}
use Rattle.schedule.specs.declared.Run.{Run}
use Rattle.schedule.specs.declared.Begun.{Begun}
use Rattle.schedule.specs.Begin.{begin, start_state}
use Rattle.schedule.specs.Calls.{Call, turn, over_list, in_rounds, after_call, after_calls, row_of_calls, answer_of, answers_of}
use Rattle.bounds.proofs.Limit.{MemoryLimit}
use Rattle.bounds.proofs.ThreadLimit.{ThreadLimit}
use Rattle.run_memory.specs.Memory.{Memory, Answer}
use Rattle.run_memory.specs.Blocks.{memory_of}
use Rattle.run_memory.specs.Stands.{run_in, Stands}
use Rattle.order.specs.Turns.{turns_of}
use Rattle.filling.specs.Filled.{filled_out}
use Rattle.schedule.specs.Memory.{replies}
use Rattle.schedule.specs.Most.{not_idle}
use Rattle.bounds.proofs.Most.{turns_most}
use Rattle.soundness.specs.Tested.{begun_into}
use Rattle.wivakkol.specs.Lent.{lent_begin}
use Rattle.claims.specs.LentCalls.{LentCall, moving, opening, table_that_runs, Returned, returned, lent_move, lent_call, lent_row_of, lent_after, lent_returned, lent_row, moves_of}
use Rattle.claims.specs.Answers.{in_numbers, returned_by}
use Rattle.claims.proofs.LentLimit.{Refines, calls_refine, runs_filled, begun_there, begun_record, begun_stands, lent_limit, lent_threads}
use Rattle.claims.proofs.Shaped.{Shaped, blocks_shaped}
use Rattle.claims.proofs.Sizes.{begin_shaped, call_shaped}
use Rattle.claims.proofs.LentSays.{TurnSays, ListSays, RoundsSays, BeginSays, OpenSays, turn_is, list_is, rounds_is, begin_is, begin_into, open_is, begin_says, turn_says, list_says, rounds_says, open_says}

-- ---- a history

-- one call on memory M, and what it answered
pub data LentCalled (s : List ℕ) (M : Memory) : LentCall → Answer → Type 0 where
  by_turn_lem : {w : ℕ} {a : Answer} → TurnSays s w M a → LentCalled s M (moving (turn w)) a
  by_list_lem : {l : List ℕ} {a : Answer} → ListSays s l M a → LentCalled s M (moving (over_list l)) a
  by_rounds_lem : {limit : ℕ} {a : Answer} → RoundsSays s limit M a → LentCalled s M (moving (in_rounds limit)) a
  by_open : {a : Answer} → OpenSays s M a → LentCalled s M opening a

pub call_is : {s : List ℕ} {M : Memory} {c : LentCall} {a : Answer} → LentCalled s M c a → a ≡ lent_call s c M
unfolding lent_call lent_move
call_is (by_turn_lem h) = turn_is h
call_is (by_list_lem h) = list_is h
call_is (by_rounds_lem h) = rounds_is h
call_is (by_open h) = open_is h

-- calls one after the other: what they returned, the workers whose turns were taken, as the answers have it, and the memory that they leave
pub data LentHistory (s : List ℕ) : Memory → List LentCall → List Returned → List ℕ → Memory → Type 0 where
  none : {M : Memory} → LentHistory s M [] [] [] M
  next : {M M' : Memory} {c : LentCall} {a : Answer} {l : List LentCall} {answers : List Returned} {row : List ℕ} → LentCalled s M c a → LentHistory s a.memory l answers row M'
      → LentHistory s M (c ∷ l) (returned a.number a.row ∷ answers) (lent_row_of c M a ++ row) M'

-- the history is the definitions'
pub record LentDefined (s : List ℕ) (M : Memory) (l : List LentCall) (answers : List Returned) (row : List ℕ) (M' : Memory) : Type 0 where
  pub memory_is : M' ≡ lent_after s l M
  pub answers_are : answers ≡ lent_returned s l M
  pub row_is : row ≡ lent_row s l M

pub lent_history_is : {s : List ℕ} {M M' : Memory} {l : List LentCall} {answers : List Returned} {row : List ℕ} → LentHistory s M l answers row M' → LentDefined s M l answers row M'
unfolding lent_after lent_returned lent_row
lent_history_is none = record { memory_is = refl; answers_are = refl; row_is = refl }
lent_history_is {s} (next {M} {M'} {c} {a} {l} {answers} {row} h t) =
    let e = call_is h in
    let d = lent_history_is t in
    record {
      memory_is = d.memory_is ∙ ap (λ (x : Answer). lent_after s l x.memory) e;
      answers_are = ap₂ ◌∷◌ (ap (λ (x : Answer). returned x.number x.row) e) (d.answers_are ∙ ap (λ (x : Answer). lent_returned s l x.memory) e);
      row_is = ap₂ ◌++◌ (ap (lent_row_of c M) e) (d.row_is ∙ ap (λ (x : Answer). lent_row s l x.memory) e);
    }

-- ---- a history exists

-- the definition's own answer, where rows have the lengths of the parts
pub called : (s : List ℕ) (M : Memory) (c : LentCall) → Shaped M → Shaped (lent_call s c M).memory → LentCalled s M c (lent_call s c M)
unfolding lent_call lent_move
called s M (moving (turn w)) h k = by_turn_lem (turn_says s w M h k)
called s M (moving (over_list l)) h k = by_list_lem (list_says s l M h k)
called s M (moving (in_rounds limit)) h k = by_rounds_lem (rounds_says s limit M h k)
called s M opening h k = by_open (open_says s M)

-- the definitions' own
abbrev pub Defines : List ℕ → Memory → List LentCall → Type 0
Defines s M l = LentHistory s M l (lent_returned s l M) (lent_row s l M) (lent_after s l M)

pub lent_history_exists : (s : List ℕ) (M : Memory) → Shaped M → (l : List LentCall) → Defines s M l
unfolding lent_after lent_returned lent_row
lent_history_exists s M h [] = none
lent_history_exists s M h (c ∷ l) =
    let k = call_shaped s c M h in
    next (called s M c h k) (lent_history_exists s (lent_call s c M).memory k l)

-- whatever stands in the four blocks that C lends
pub blocks_history_exists : (s b w n k : List ℕ) → length b ≡ 1040 → length w ≡ 6163 → length n ≡ 18 → length k ≡ 1027 → (l : List LentCall) → Defines s (memory_of b w n k) l
blocks_history_exists s b w n k p q r t = lent_history_exists s (memory_of b w n k) (blocks_shaped b w n k p q r t)

-- from any beginning on, refused or not, given any table
pub begun_history_exists : (s : List ℕ) (p K : ℕ) (out u : List ℕ) (l : List LentCall)
    → BeginSays s p K out (lent_begin s p K (length out)) (begun_into s p K out) × Defines u (lent_begin s p K (length out)).memory l
begun_history_exists s p K out u l = (begin_says s p K out, lent_history_exists u (lent_begin s p K (length out)).memory (begin_shaped s p K (length out)) l)

-- ---- on memory where a record stands

-- A history from record r on: the record that stands in the memory left, what was returned to every call, in number and row, and the row of turns taken are those of the calls on r; and the
-- record left stands.
pub record CodeRefines (s : List ℕ) (r : Run) (l : List LentCall) (answers : List Returned) (row : List ℕ) (N : Memory) : Type 0 where
  pub record_after : run_in s N ≡ after_calls (moves_of l) r
  pub answers_are : answers ≡ returned_by l r
  pub row_is : row ≡ row_of_calls (moves_of l) r
  pub stands : Stands s N

pub stands_code_refines : {s : List ℕ} {M : Memory} → Stands s M → {l : List LentCall} {answers : List Returned} {row : List ℕ} {N : Memory} → LentHistory s M l answers row N
    → CodeRefines s (run_in s M) l answers row N
stands_code_refines {s} {M} h {l} t =
    let d = lent_history_is t in
    let c = calls_refine s M h l in
    record {
      record_after = ap (run_in s) d.memory_is ∙ c.record_after;
      answers_are = d.answers_are ∙ c.answers;
      row_is = d.row_is ∙ c.row;
      stands = subst (Stands s) (sym d.memory_is) c.stands;
    }

-- of calls with no opening among them it is the answers by value, as C gets them
pub returned_answers : (calls : List Call) (r : Run) → returned_by (map moving calls) r ≡ map in_numbers (answers_of calls r)
unfolding returned_by answers_of
returned_answers [] r = refl
returned_answers (c ∷ calls) r = ap (in_numbers (answer_of c r) ∷◌) (returned_answers calls (after_call c r))

-- ---- from a beginning on

-- `wivakkol_begin_on` answered 0: the table that it says to run is the filled-out one.
pub runs_so : {s : List ℕ} {p K : ℕ} {out filled : List ℕ} {a : Answer} → BeginSays s p K out a filled → a.number ≡ 0 → table_that_runs s a filled ≡ filled_out s K
runs_so {s} {p} {K} {out} h e =
    ap₂ (table_that_runs s) (begin_is h) (begin_into h) ∙ runs_filled s p K out (ap (λ (x : Answer). x.number) (sym (begin_is h)) ∙ e)

-- It answered 0, and the calls of any history followed, given the table that runs.
module _ {s : List ℕ} {p K : ℕ} {out filled : List ℕ} {a : Answer} (h : BeginSays s p K out a filled) (e : a.number ≡ 0) {l : List LentCall} {answers : List Returned} {row : List ℕ} {M : Memory}
    (t : LentHistory (table_that_runs s a filled) a.memory l answers row M) where
  abbrev F : List ℕ
  F = filled_out s K

  begun : (lent_begin s p K (length out)).number ≡ 0
  begun = ap (λ (x : Answer). x.number) (sym (begin_is h)) ∙ e

  over_filled : LentHistory F a.memory l answers row M
  over_filled = subst (λ (u : List ℕ). LentHistory u a.memory l answers row M) (runs_so h e) t

  as_run : (P : List ℕ → Type 0) → P F → P (table_that_runs s a filled)
  as_run P = subst P (sym (runs_so h e))

  -- they are those calls on the record of document 01's beginning
  pub begun_code_refines : CodeRefines (table_that_runs s a filled) (begin s p K).run l answers row M
  begun_code_refines =
      let there : Stands F a.memory = subst (λ (x : Answer). Stands F x.memory) (sym (begin_is h)) (begun_stands s p K (length out) begun) in
      let r : run_in F a.memory ≡ (begin s p K).run =
      ap (λ (x : Answer). run_in F x.memory) (begin_is h) ∙ ap (λ (x : Begun). x.run) (sym (begun_there s p K (length out) begun)) in
      as_run (λ (u : List ℕ). CodeRefines u (begin s p K).run l answers row M) (subst (λ (x : Run). CodeRefines F x l answers row M) r (stands_code_refines there over_filled))

  holds : (P : Memory → List ℕ → Type 0) → P (lent_after F l (lent_begin s p K (length out)).memory) (lent_row F l (lent_begin s p K (length out)).memory) → P M row
  holds P g =
      let b = begin_is h in
      let d = lent_history_is over_filled in
      subst (λ (x : Memory). P x row) (sym (d.memory_is ∙ ap (λ (x : Answer). lent_after F l x.memory) b))
      (subst (λ (x : List ℕ). P (lent_after F l (lent_begin s p K (length out)).memory) x) (sym (d.row_is ∙ ap (λ (x : Answer). lent_row F l x.memory) b)) g)

  -- Demand 3: of the record that stands in the memory left and of the row of turns taken the memory limit holds, for every b at least 1; "with D and N of the filled-out table" (N6).
  pub lent_code_limit : (most : ℕ) → 1 ≤ most → MemoryLimit (table_of F) p K most (run_in (table_that_runs s a filled) M) row
  lent_code_limit most g =
      as_run (λ (u : List ℕ). MemoryLimit (table_of F) p K most (run_in u M) row)
      (holds (λ (x : Memory) (y : List ℕ). MemoryLimit (table_of F) p K most (run_in F x) y) (lent_limit s p K (length out) begun l most g))

  -- N2: and so does the limit on the threads in the list
  pub lent_code_threads : (most : ℕ) → 1 ≤ most → ThreadLimit (table_of F) p K most (run_in (table_that_runs s a filled) M) row
  lent_code_threads most g =
      as_run (λ (u : List ℕ). ThreadLimit (table_of F) p K most (run_in u M) row)
      (holds (λ (x : Memory) (y : List ℕ). ThreadLimit (table_of F) p K most (run_in F x) y) (lent_threads s p K (length out) begun l most g))

  -- N8: the turns of the row that aren't idle are at most m + A + J of the table as run
  pub lent_code_turns : not_idle (replies (table_of F) K (start_state (table_of F)) row) ≤ turns_of (table_of F)
  lent_code_turns =
      subst (λ (y : List ℕ). not_idle (replies (table_of F) K (start_state (table_of F)) y) ≤ turns_of (table_of F)) (sym begun_code_refines.row_is)
      (turns_most s p K (begin s p K).run (begun_record s p K (length out) begun) (moves_of l))
