-- What the promises of the three calls of DFDeques from C say: their own `ensures`, as the check reads them (`Learnt`), of what was lent and of what stood there at the end. Each answer is the
-- definition's (`turn_is`, `list_is`, `open_is`), and the definition's answer keeps the promise (`turn_says`, `list_says`, `open_says`). A beginning's are AsyncDF's (crates/claims/proofs/LentSays).
use mathlib.Core.Path.{◌≡◌, refl, sym, ap, ap₂, ◌∙◌}
use Prim.Native.Nat.{ℕ}
use mathlib.Core.List.{List, []}
use contract.Lifetimes.{Lfts}
use denote.Ref.{Bor}
use denote.MutBor.{as_bor}
use denote.Triple.Clauses.{AtExit}
use borrow.Fn.Kinds.{ended_of}
use Rattle.array_machine.specs.Arrays.{arrays}
use Rattle.run_memory.specs.Memory.{Memory, memory, Answer, answer}
use Rattle.run_memory.specs.Blocks.{memory_of}
use Rattle.claims.proofs.Shaped.{Shaped, byte_block, words_of, numbers_of, sums_of, in_blocks_lem}
use Rattle.claims.proofs.LentSays.{Refs, lent_in, Work, Blocks, blocks_in, lent_of, lent_mut, refs_of, cleared, work_of, blocks_of, whole}
use Rattle.wivakkol_deques.specs.DequeLent.{lent_deque_turn, lent_deque_list, lent_deque_open}
use Rattle.wivakkol_deque_turn.proofs.wivakkol_deque_turn_on.Kinds as turn_kinds
use Rattle.wivakkol_deque_turn.proofs.wivakkol_deque_turn_on.Reads as turn_promise
use Rattle.wivakkol_deques.proofs.wivakkol_deque_list_on.Kinds as list_kinds
use Rattle.wivakkol_deques.proofs.wivakkol_deque_list_on.Reads as list_promise
use Rattle.wivakkol_deques.proofs.open.wivakkol_deque_open_on.Kinds as open_kinds
use Rattle.wivakkol_deques.proofs.open.wivakkol_deque_open_on.Reads as open_promise

-- ---- what the promises say

-- `wivakkol_deque_turn_on`, lent a table s and a run M, answered a
pub record TurnSays (s : List ℕ) (w c : ℕ) (M : Memory) (a : Answer) : Type 0 where
  pub lifetimes : Lfts 6
  pub refs : Blocks
  pub exit : AtExit (ended_of 6 turn_kinds.ps turn_kinds.r) lifetimes
  pub lent_table : refs.table.now ≡ s
  pub lent_run : blocks_in refs ≡ M
  pub left : answer a.number exit.1.1.1.1.1.1.1.0.now (memory_of exit.1.1.1.0.now exit.1.1.1.1.0.now exit.1.1.1.1.1.0.now exit.1.1.1.1.1.1.0.now) ≡ a
  pub promised : turn_promise.Learnt lifetimes (refs.table, (w, (c, (refs.bytes, (refs.words, (refs.numbers, (refs.sums, (refs.row, tt)))))))) a.number exit

-- `wivakkol_deque_list_on`, lent an order l too
pub record ListSays (s : List ℕ) (l : List ℕ) (M : Memory) (a : Answer) : Type 0 where
  pub lifetimes : Lfts 7
  pub refs : Blocks
  pub order : Bor (List ℕ)
  pub lent_order : order.now ≡ l
  pub exit : AtExit (ended_of 7 list_kinds.ps list_kinds.r) lifetimes
  pub lent_table : refs.table.now ≡ s
  pub lent_run : blocks_in refs ≡ M
  pub left : answer a.number exit.1.1.1.1.1.1.0.now (memory_of exit.1.1.0.now exit.1.1.1.0.now exit.1.1.1.1.0.now exit.1.1.1.1.1.0.now) ≡ a
  pub promised : list_promise.Learnt lifetimes (refs.table, (order, (refs.bytes, (refs.words, (refs.numbers, (refs.sums, (refs.row, tt))))))) a.number exit

-- `wivakkol_deque_open_on`, lent a table s and a run M, answered a
pub record OpenSays (s : List ℕ) (M : Memory) (a : Answer) : Type 0 where
  pub lifetimes : Lfts 21
  pub refs : Refs
  pub work : Work
  pub exit : AtExit (ended_of 21 open_kinds.ps open_kinds.r) lifetimes
  pub lent_table : refs.table.now ≡ s
  pub lent_run : lent_in refs ≡ M
  pub left : answer a.number exit.1.1.1.1.1.1.1.1.1.1.1.1.1.1.1.0.now (memory refs.settings.now exit.1.1.0.now (arrays refs.next.now refs.status.now refs.amounts.now refs.left.now refs.right.now refs.under.now refs.over.now) refs.holds.now refs.threads.now refs.quotas.now refs.heads.now refs.totals.now) ≡ a
  pub promised : open_promise.Learnt lifetimes (refs.table, (as_bor refs.settings, (refs.parents, (as_bor refs.next, (as_bor refs.status, (as_bor refs.amounts, (as_bor refs.left, (as_bor refs.right, (as_bor refs.under, (as_bor refs.over, (as_bor refs.holds, (as_bor refs.threads, (as_bor refs.quotas, (as_bor refs.heads, (as_bor refs.totals, (refs.row, (work.rises, (work.falls, (work.forks, (work.seen, (work.list, tt))))))))))))))))))))) a.number exit

pub turn_is : {s : List ℕ} {w c : ℕ} {M : Memory} {a : Answer} → TurnSays s w c M a → a ≡ lent_deque_turn s w c M
turn_is {s} {w} {c} {M} h = sym h.left ∙ h.promised ∙ ap₂ (λ (t : List ℕ) (x : Memory). lent_deque_turn t w c x) h.lent_table h.lent_run

pub list_is : {s l : List ℕ} {M : Memory} {a : Answer} → ListSays s l M a → a ≡ lent_deque_list s l M
list_is {s} {l} {M} h = sym h.left ∙ h.promised ∙ (λ i. lent_deque_list (h.lent_table i) (h.lent_order i) (h.lent_run i))

pub open_is : {s : List ℕ} {M : Memory} {a : Answer} → OpenSays s M a → a ≡ lent_deque_open s M
open_is {s} {M} h = sym h.left ∙ h.promised.0 ∙ ap₂ (λ (t : List ℕ) (x : Memory). lent_deque_open t x) h.lent_table h.lent_run

-- ---- what the definitions answer keeps them

pub turn_says : (s : List ℕ) (w c : ℕ) (M : Memory) → Shaped M → Shaped (lent_deque_turn s w c M).memory → TurnSays s w c M (lent_deque_turn s w c M)
turn_says s w c M h k =
    let a : Answer = lent_deque_turn s w c M in
    let e = whole a k in
    record {
      lifetimes = ([], ([], ([], ([], ([], ([], tt))))));
      refs = blocks_of s M;
      exit =
          (lent_of s, (w, (c, (lent_mut (byte_block a.memory), (lent_mut (words_of a.memory), (lent_mut (numbers_of a.memory), (lent_mut (sums_of a.memory), (lent_mut a.row, tt))))))));
      lent_table = refl;
      lent_run = in_blocks_lem M h;
      left = e;
      promised = e ∙ ap (lent_deque_turn s w c) (sym (in_blocks_lem M h));
    }

pub list_says : (s : List ℕ) (l : List ℕ) (M : Memory) → Shaped M → Shaped (lent_deque_list s l M).memory → ListSays s l M (lent_deque_list s l M)
list_says s l M h k =
    let a : Answer = lent_deque_list s l M in
    let e = whole a k in
    record {
      lifetimes = ([], ([], ([], ([], ([], ([], ([], tt)))))));
      refs = blocks_of s M;
      order = lent_of l;
      lent_order = refl;
      exit =
          (lent_of s, (lent_of l, (lent_mut (byte_block a.memory), (lent_mut (words_of a.memory), (lent_mut (numbers_of a.memory), (lent_mut (sums_of a.memory), (lent_mut a.row, tt)))))));
      lent_table = refl;
      lent_run = in_blocks_lem M h;
      left = e;
      promised = e ∙ ap (lent_deque_list s l) (sym (in_blocks_lem M h));
    }

-- an opening leaves all but the parents as it was
open_parts : (s : List ℕ) (M : Memory)
    → answer (lent_deque_open s M).number (lent_deque_open s M).row (memory M.settings (lent_deque_open s M).memory.parents M.arrays M.holds M.threads M.quotas M.heads M.totals) ≡ lent_deque_open s M
unfolding lent_deque_open
open_parts s M = refl

pub open_says : (s : List ℕ) (M : Memory) → OpenSays s M (lent_deque_open s M)
open_says s M =
    let a : Answer = lent_deque_open s M in
    let e = open_parts s M in
    record { lifetimes = ([], ([], ([], ([], ([], ([], ([], ([], ([], ([], ([], ([], ([], ([], ([], ([], ([], ([], ([], ([], ([], tt))))))))))))))))))))); refs = refs_of s M; work = work_of; exit = (lent_of s, (lent_of M.settings, (lent_mut a.memory.parents, (lent_of M.arrays.next, (lent_of M.arrays.status, (lent_of M.arrays.amounts, (lent_of M.arrays.left, (lent_of M.arrays.right, (lent_of M.arrays.under, (lent_of M.arrays.over, (lent_of M.holds, (lent_of M.threads, (lent_of M.quotas, (lent_of M.heads, (lent_of M.totals, (lent_mut a.row, (lent_mut cleared, (lent_mut cleared, (lent_mut cleared, (lent_mut cleared, (lent_mut cleared, tt))))))))))))))))))))); lent_table = refl; lent_run = refl; left = e; promised = (e, ((refl, refl), (refl, refl, refl))) }
