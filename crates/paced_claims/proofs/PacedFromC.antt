-- The limits for paced calls from C. A history is a beginning of a run, one of a pace, and paced turns, lists and rounds and openings, each on the memory that the last one left, of which nothing
-- is known but what the functions' own `ensures` say. `paced_history_is`: memory, pace and row are those of the definitions. `paced_exists`: every list of calls has one. `paced_code_limit`: so the
-- limits with b hold of them, with no hypothesis on the row.
use mathlib.Core.Path.{◌≡◌, refl, sym, ap, ap₂, subst, ◌∙◌}
use Prim.Native.Nat.{ℕ}
use mathlib.Core.List.{List, [], ◌∷◌, ◌++◌}
use contract.Lifetimes.{Lfts}
use denote.Ref.{Bor}
use denote.MutBor.{MutBor}
use denote.Triple.Clauses.{AtExit}
use borrow.Fn.Kinds.{ended_of}
use lib.ListN.{length}
use Rattle.run_memory.specs.Memory.{Memory, Answer, answer, lent_turn}
use Rattle.run_memory.specs.Blocks.{memory_of}
use Rattle.schedule.specs.Calls.{turn}
use Rattle.filling.specs.Filled.{filled_out}
use Rattle.soundness.specs.Tested.{begun_into}
use Rattle.wivakkol.specs.Lent.{lent_begin}
use Rattle.claims.specs.LentCalls.{moving, opening, table_that_runs, lent_move, lent_call}
use Rattle.claims.proofs.Shaped.{Shaped, byte_block, words_of, numbers_of, sums_of, in_blocks_lem}
use Rattle.claims.proofs.Sizes.{begin_shaped, call_shaped}
use Rattle.claims.proofs.LentSays.{BeginSays, OpenSays, begin_is, open_is, lent_of, lent_mut, begin_says, open_says}
use Rattle.claims.proofs.FromC.{runs_so}
use Rattle.pace.specs.Pace.{Paced, paced, start_pace}
use Rattle.wivakkol_pace.specs.Paced.{Kept, kept, paced_turn}
use Rattle.wivakkol_pace.specs.PacedRuns.{paced_list, paced_rounds}
use Rattle.paced_claims.specs.PacedCalls.{PacedCall, by_turn, by_list, by_rounds, by_opening, paced_call, taken_by, Both, both, paced_after, paced_row}
use Rattle.paced_claims.proofs.Steps.{Steps, stay, step, opened, call_steps}
use Rattle.paced_claims.proofs.PacedLimit.{PacedLimit, paced_limit}
use Rattle.wivakkol_pace.proofs.wivakkol_pace_begin_on.Kinds as pace_kinds
use Rattle.wivakkol_pace.proofs.wivakkol_pace_begin_on.Reads as pace_promise
use Rattle.wivakkol_pace.proofs.wivakkol_paced_turn_on.Kinds as turn_kinds
use Rattle.wivakkol_pace.proofs.wivakkol_paced_turn_on.Reads as turn_promise
use Rattle.wivakkol_pace.proofs.runs.wivakkol_paced_list_on.Kinds as list_kinds
use Rattle.wivakkol_pace.proofs.runs.wivakkol_paced_list_on.Reads as list_promise
use Rattle.wivakkol_pace.proofs.runs.wivakkol_paced_rounds_on.Kinds as rounds_kinds
use Rattle.wivakkol_pace.proofs.runs.wivakkol_paced_rounds_on.Reads as rounds_promise

-- ---- what the promises say

-- `wivakkol_pace_begin_on`, lent numbers l, answered k
pub record PaceSays (p b : ℕ) (l : List ℕ) (k : Paced) : Type 0 where
  pub lifetimes : Lfts 1
  pub pace : MutBor (List ℕ)
  pub exit : AtExit (ended_of 1 pace_kinds.ps pace_kinds.r) lifetimes
  pub lent_pace : pace.now ≡ l
  pub left : paced k.number exit.1.1.0.now ≡ k
  pub promised : pace_promise.Learnt lifetimes (p, (b, (pace, tt))) k.number exit

-- references to all that is lent to a paced call
pub record PacedRefs : Type 0 where
  pub table : Bor (List ℕ)
  pub bytes : MutBor (List ℕ)
  pub words : MutBor (List ℕ)
  pub numbers : MutBor (List ℕ)
  pub sums : MutBor (List ℕ)
  pub pace : MutBor (List ℕ)
  pub row : MutBor (List ℕ)

abbrev blocks_in : PacedRefs → Memory
blocks_in refs = memory_of refs.bytes.now refs.words.now refs.numbers.now refs.sums.now

-- `wivakkol_paced_turn_on`, lent a table s, a run M and a pace P, answered k
pub record TurnSays (s : List ℕ) (w : ℕ) (M : Memory) (P : List ℕ) (k : Kept) : Type 0 where
  pub lifetimes : Lfts 7
  pub refs : PacedRefs
  pub exit : AtExit (ended_of 7 turn_kinds.ps turn_kinds.r) lifetimes
  pub lent_table : refs.table.now ≡ s
  pub lent_run : blocks_in refs ≡ M
  pub lent_pace : refs.pace.now ≡ P
  pub left : kept (answer k.answer.number exit.1.1.1.1.1.1.1.0.now (memory_of exit.1.1.0.now exit.1.1.1.0.now exit.1.1.1.1.0.now exit.1.1.1.1.1.0.now)) exit.1.1.1.1.1.1.0.now ≡ k
  pub promised : turn_promise.Learnt lifetimes (refs.table, (w, (refs.bytes, (refs.words, (refs.numbers, (refs.sums, (refs.pace, (refs.row, tt)))))))) k.answer.number exit

-- `wivakkol_paced_list_on`, lent an order l too
pub record ListSays (s l : List ℕ) (M : Memory) (P : List ℕ) (k : Kept) : Type 0 where
  pub lifetimes : Lfts 8
  pub refs : PacedRefs
  pub order : Bor (List ℕ)
  pub lent_order : order.now ≡ l
  pub exit : AtExit (ended_of 8 list_kinds.ps list_kinds.r) lifetimes
  pub lent_table : refs.table.now ≡ s
  pub lent_run : blocks_in refs ≡ M
  pub lent_pace : refs.pace.now ≡ P
  pub left : kept (answer k.answer.number exit.1.1.1.1.1.1.1.0.now (memory_of exit.1.1.0.now exit.1.1.1.0.now exit.1.1.1.1.0.now exit.1.1.1.1.1.0.now)) exit.1.1.1.1.1.1.0.now ≡ k
  pub promised : list_promise.Learnt lifetimes (refs.table, (order, (refs.bytes, (refs.words, (refs.numbers, (refs.sums, (refs.pace, (refs.row, tt)))))))) k.answer.number exit

-- `wivakkol_paced_rounds_on`
pub record RoundsSays (s : List ℕ) (limit : ℕ) (M : Memory) (P : List ℕ) (k : Kept) : Type 0 where
  pub lifetimes : Lfts 7
  pub refs : PacedRefs
  pub exit : AtExit (ended_of 7 rounds_kinds.ps rounds_kinds.r) lifetimes
  pub lent_table : refs.table.now ≡ s
  pub lent_run : blocks_in refs ≡ M
  pub lent_pace : refs.pace.now ≡ P
  pub left : kept (answer k.answer.number exit.1.1.1.1.1.1.1.0.now (memory_of exit.1.1.0.now exit.1.1.1.0.now exit.1.1.1.1.0.now exit.1.1.1.1.1.0.now)) exit.1.1.1.1.1.1.0.now ≡ k
  pub promised : rounds_promise.Learnt lifetimes (refs.table, (limit, (refs.bytes, (refs.words, (refs.numbers, (refs.sums, (refs.pace, (refs.row, tt)))))))) k.answer.number exit

pace_is : {p b : ℕ} {l : List ℕ} {k : Paced} → PaceSays p b l k → k ≡ start_pace p b l
pace_is {p} {b} h = sym h.left ∙ h.promised ∙ ap (λ (x : List ℕ). start_pace p b x) h.lent_pace

-- ---- a history

-- one call on a run M and a pace P, and what it answered
pub data PacedCalled (s : List ℕ) (M : Memory) (P : List ℕ) : PacedCall → Kept → Type 0 where
  by_turn_lem : {w : ℕ} {k : Kept} → TurnSays s w M P k → PacedCalled s M P (by_turn w) k
  by_list_lem : {l : List ℕ} {k : Kept} → ListSays s l M P k → PacedCalled s M P (by_list l) k
  by_rounds_lem : {limit : ℕ} {k : Kept} → RoundsSays s limit M P k → PacedCalled s M P (by_rounds limit) k
  by_open : {a : Answer} → OpenSays s M a → PacedCalled s M P by_opening (kept a P)

called_is : {s : List ℕ} {M : Memory} {P : List ℕ} {c : PacedCall} {k : Kept} → PacedCalled s M P c k → k ≡ paced_call s c M P
unfolding paced_call
called_is (by_turn_lem {w} h) = sym h.left ∙ h.promised ∙ (λ i. paced_turn (h.lent_table i) w (h.lent_run i) (h.lent_pace i))
called_is (by_list_lem h) = sym h.left ∙ h.promised ∙ (λ i. paced_list (h.lent_table i) (h.lent_order i) (h.lent_run i) (h.lent_pace i))
called_is (by_rounds_lem {limit} h) = sym h.left ∙ h.promised ∙ (λ i. paced_rounds (h.lent_table i) limit (h.lent_run i) (h.lent_pace i))
called_is {P = P} (by_open h) = ap (λ (a : Answer). kept a P) (open_is h)

-- calls one after the other, the workers whose turns were taken, as the answers have it, and what they leave
pub data PacedHistory (s : List ℕ) : Memory → List ℕ → List PacedCall → List ℕ → Both → Type 0 where
  none : {M : Memory} {P : List ℕ} → PacedHistory s M P [] [] (both M P)
  next : {M : Memory} {P : List ℕ} {c : PacedCall} {k : Kept} {l : List PacedCall} {row : List ℕ} {z : Both} → PacedCalled s M P c k
      → PacedHistory s k.answer.memory k.pace l row z → PacedHistory s M P (c ∷ l) (taken_by c P k.answer ++ row) z

pub paced_history_is : {s : List ℕ} {M : Memory} {P : List ℕ} {calls : List PacedCall} {row : List ℕ} {z : Both} → PacedHistory s M P calls row z
    → (z ≡ paced_after s calls M P) × (row ≡ paced_row s calls M P)
unfolding paced_after paced_row
paced_history_is none = (refl, refl)
paced_history_is {s} (next {M} {P} {c} {k} {l} {row} {z} h t) =
    let e = called_is h in
    let d = paced_history_is t in (
      d.0 ∙ ap (λ (x : Kept). paced_after s l x.answer.memory x.pace) e,
      ap₂ (λ (x : Kept) (y : List ℕ). taken_by c P x.answer ++ y) e (d.1 ∙ ap (λ (x : Kept). paced_row s l x.answer.memory x.pace) e),
    )

-- ---- a history exists

pace_says : (p b : ℕ) (l : List ℕ) → PaceSays p b l (start_pace p b l)
pace_says p b l = record { lifetimes = ([], tt); pace = lent_mut l; exit = (p, (b, (lent_mut (start_pace p b l).pace, tt))); lent_pace = refl; left = refl; promised = refl }

abbrev refs_of : List ℕ → Memory → List ℕ → PacedRefs
refs_of s M P = record { table = lent_of s; bytes = lent_mut (byte_block M); words = lent_mut (words_of M); numbers = lent_mut (numbers_of M); sums = lent_mut (sums_of M); pace = lent_mut P; row = lent_mut [] }

-- an answer is what stands in the blocks of its memory
whole : (k : Kept) → Shaped k.answer.memory
    → kept (answer k.answer.number k.answer.row
    (memory_of (byte_block k.answer.memory) (words_of k.answer.memory) (numbers_of k.answer.memory) (sums_of k.answer.memory))) k.pace ≡ k
whole k h = ap (λ (N : Memory). kept (answer k.answer.number k.answer.row N) k.pace) (in_blocks_lem k.answer.memory h)

module _ (s : List ℕ) (M : Memory) (P : List ℕ) (h : Shaped M) where
  turn_says : (w : ℕ) → Shaped (paced_turn s w M P).answer.memory → TurnSays s w M P (paced_turn s w M P)
  turn_says w j =
      let k : Kept = paced_turn s w M P in
      let N : Memory = k.answer.memory in
      record {
        lifetimes = ([], ([], ([], ([], ([], ([], ([], tt)))))));
        refs = refs_of s M P;
        exit = (lent_of s, (w, (lent_mut (byte_block N), (lent_mut (words_of N), (lent_mut (numbers_of N), (lent_mut (sums_of N), (lent_mut k.pace, (lent_mut k.answer.row, tt))))))));
        lent_table = refl;
        lent_run = in_blocks_lem M h;
        lent_pace = refl;
        left = whole k j;
        promised = whole k j ∙ ap (λ (N : Memory). paced_turn s w N P) (sym (in_blocks_lem M h));
      }

  list_says : (l : List ℕ) → Shaped (paced_list s l M P).answer.memory → ListSays s l M P (paced_list s l M P)
  list_says l j =
      let k : Kept = paced_list s l M P in
      let N : Memory = k.answer.memory in
      record {
        lifetimes = ([], ([], ([], ([], ([], ([], ([], ([], tt))))))));
        refs = refs_of s M P;
        order = lent_of l;
        lent_order = refl;
        exit = (lent_of s, (lent_of l, (lent_mut (byte_block N), (lent_mut (words_of N), (lent_mut (numbers_of N), (lent_mut (sums_of N), (lent_mut k.pace, (lent_mut k.answer.row, tt))))))));
        lent_table = refl;
        lent_run = in_blocks_lem M h;
        lent_pace = refl;
        left = whole k j;
        promised = whole k j ∙ ap (λ (N : Memory). paced_list s l N P) (sym (in_blocks_lem M h));
      }

  rounds_says : (limit : ℕ) → Shaped (paced_rounds s limit M P).answer.memory → RoundsSays s limit M P (paced_rounds s limit M P)
  rounds_says limit j =
      let k : Kept = paced_rounds s limit M P in
      let N : Memory = k.answer.memory in
      record {
        lifetimes = ([], ([], ([], ([], ([], ([], ([], tt)))))));
        refs = refs_of s M P;
        exit = (lent_of s, (limit, (lent_mut (byte_block N), (lent_mut (words_of N), (lent_mut (numbers_of N), (lent_mut (sums_of N), (lent_mut k.pace, (lent_mut k.answer.row, tt))))))));
        lent_table = refl;
        lent_run = in_blocks_lem M h;
        lent_pace = refl;
        left = whole k j;
        promised = whole k j ∙ ap (λ (N : Memory). paced_rounds s limit N P) (sym (in_blocks_lem M h));
      }

  called : (c : PacedCall) → Shaped (paced_call s c M P).answer.memory → PacedCalled s M P c (paced_call s c M P)
  unfolding paced_call
  called (by_turn w) j = by_turn_lem (turn_says w j)
  called (by_list l) j = by_list_lem (list_says l j)
  called (by_rounds limit) j = by_rounds_lem (rounds_says limit j)
  called by_opening j = by_open (open_says s M)

-- the rows that stand in the blocks keep their lengths
steps_shaped : {s : List ℕ} {M M' : Memory} {P P' row : List ℕ} → Steps s M P row M' P' → Shaped M → Shaped M'
unfolding lent_call lent_move lent_turn
steps_shaped stay h = h
steps_shaped {s} (step {M} {P} {w} t k) h = steps_shaped k (call_shaped s (moving (turn w)) M h)
steps_shaped {s} (opened {M} k) h = steps_shaped k (call_shaped s opening M h)

pub paced_history_exists : (s : List ℕ) (calls : List PacedCall) (M : Memory) (P : List ℕ) → Shaped M → PacedHistory s M P calls (paced_row s calls M P) (paced_after s calls M P)
unfolding paced_after paced_row
paced_history_exists s [] M P h = none
paced_history_exists s (c ∷ l) M P h =
    let j : Shaped (paced_call s c M P).answer.memory = steps_shaped (call_steps s c M P) h in
    next (called s M P h c j) (paced_history_exists s l (paced_call s c M P).answer.memory (paced_call s c M P).pace j)

-- from any beginning on, refused or not, given any table
pub paced_exists : (s : List ℕ) (p K b : ℕ) (out l u : List ℕ) (calls : List PacedCall)
    → BeginSays s p K out (lent_begin s p K (length out)) (begun_into s p K out) × (PaceSays p b l (start_pace p b l)
    × PacedHistory u (lent_begin s p K (length out)).memory (start_pace p b l).pace calls (paced_row u calls (lent_begin s p K (length out)).memory (start_pace p b l).pace)
    (paced_after u calls (lent_begin s p K (length out)).memory (start_pace p b l).pace))
paced_exists s p K b out l u calls = (
  begin_says s p K out,
  (pace_says p b l, paced_history_exists u calls (lent_begin s p K (length out)).memory (start_pace p b l).pace (begin_shaped s p K (length out))),
)

-- ---- the limits

-- `wivakkol_begin_on` and `wivakkol_pace_begin_on` answered 0, for the same p, and any paced calls followed, refused ones included, and openings, given the table that runs
pub paced_code_limit : {s : List ℕ} {p K b : ℕ} {out filled l : List ℕ} {a : Answer} {q : Paced} → BeginSays s p K out a filled → a.number ≡ 0 → PaceSays p b l q → q.number ≡ 0
    → {calls : List PacedCall} {row : List ℕ} {z : Both} → PacedHistory (table_that_runs s a filled) a.memory q.pace calls row z → PacedLimit (table_that_runs s a filled) p K b row z
paced_code_limit {s} {p} {K} {b} {out} {filled} {l} {a} {q} h e g f {calls} {row} {z} t =
    let F : List ℕ = filled_out s K in
    let runs : table_that_runs s a filled ≡ F = runs_so h e in
    let x : a ≡ lent_begin s p K (length out) = begin_is h in
    let y : q ≡ start_pace p b l = pace_is g in
    let d = paced_history_is (subst (λ (u : List ℕ). PacedHistory u a.memory q.pace calls row z) runs t) in
    let c = paced_limit s p K (length out) b l (ap (λ (v : Answer). v.number) (sym x) ∙ e) (ap (λ (v : Paced). v.number) (sym y) ∙ f) calls in
    let m : z ≡ paced_after F calls (lent_begin s p K (length out)).memory (start_pace p b l).pace = d.0 ∙ ap₂ (λ (v : Answer) (u : Paced). paced_after F calls v.memory u.pace) x y in
    let r : row ≡ paced_row F calls (lent_begin s p K (length out)).memory (start_pace p b l).pace = d.1 ∙ ap₂ (λ (v : Answer) (u : Paced). paced_row F calls v.memory u.pace) x y in
    subst (λ (u : List ℕ). PacedLimit u p K b row z) (sym runs) (
    subst (λ (v : Both). PacedLimit F p K b row v) (sym m) (
    subst (λ (v : List ℕ). PacedLimit F p K b v (paced_after F calls (lent_begin s p K (length out)).memory (start_pace p b l).pace)) (sym r) c
    )
    )
