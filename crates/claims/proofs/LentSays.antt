-- What the promises of the five calls from C say that move a run, begin it or open it: their own `ensures`, as the check reads them (`Learnt`), of what was lent and of what stood there at the
-- end. A turn and a run are lent four blocks, a beginning and an opening the parts of the blocks. Each answer is the definition's (`turn_is` to `open_is`), and the definition's answer keeps the
-- promise (`turn_says` to `open_says`).
use mathlib.Core.Path.{◌≡◌, refl, sym, ap, ap₂, ◌∙◌}
use Prim.Native.Nat.{ℕ}
use mathlib.Core.List.{List, []}
use contract.Lifetimes.{Lfts}
use denote.Ref.{Bor}
use denote.MutBor.{MutBor, as_bor}
use denote.Triple.Clauses.{AtExit}
use borrow.Fn.Kinds.{ended_of}
use mathlib.Core.Bool.{Bool, true, false}
use lib.ListN.{length, replicate}
use Rattle.array_machine.specs.Arrays.{arrays}
use Rattle.run_memory.specs.Memory.{Memory, memory, Answer, answer, lent_turn}
use Rattle.run_memory.specs.Blocks.{memory_of}
use Rattle.soundness.specs.Tested.{begun_into}
use Rattle.wivakkol.specs.Lent.{lent_begin, lent_list, lent_rounds}
use Rattle.wivakkol.specs.Opened.{sound_in, blank_in, opened_as, lent_open}
use Rattle.claims.proofs.Shaped.{Shaped, byte_block, words_of, numbers_of, sums_of, in_blocks_lem}
use Rattle.wivakkol.proofs.begin.wivakkol_begin_on.Kinds as begin_kinds
use Rattle.wivakkol.proofs.begin.wivakkol_begin_on.Reads as begin_promise
use Rattle.wivakkol.proofs.open.wivakkol_open_on.Kinds as open_kinds
use Rattle.wivakkol.proofs.open.wivakkol_open_on.Reads as open_promise
use Rattle.wivakkol.proofs.runs.wivakkol_list_on.Kinds as list_kinds
use Rattle.wivakkol.proofs.runs.wivakkol_list_on.Reads as list_promise
use Rattle.wivakkol.proofs.runs.wivakkol_rounds_on.Kinds as rounds_kinds
use Rattle.wivakkol.proofs.runs.wivakkol_rounds_on.Reads as rounds_promise
use Rattle.wivakkol_turn.proofs.wivakkol_turn_on.Kinds as turn_kinds
use Rattle.wivakkol_turn.proofs.wivakkol_turn_on.Reads as turn_promise

-- ---- what the promises say

-- references to all that is lent to a beginning and to an opening
pub record Refs : Type 0 where
  pub table : Bor (List ℕ)
  pub settings : MutBor (List ℕ)
  pub parents : MutBor (List ℕ)
  pub next : MutBor (List ℕ)
  pub status : MutBor (List ℕ)
  pub amounts : MutBor (List ℕ)
  pub left : MutBor (List ℕ)
  pub right : MutBor (List ℕ)
  pub under : MutBor (List ℕ)
  pub over : MutBor (List ℕ)
  pub holds : MutBor (List ℕ)
  pub threads : MutBor (List ℕ)
  pub quotas : MutBor (List ℕ)
  pub heads : MutBor (List ℕ)
  pub totals : MutBor (List ℕ)
  pub row : MutBor (List ℕ)

-- the run in them
abbrev pub lent_in : Refs → Memory
lent_in refs =
    memory refs.settings.now refs.parents.now
    (arrays refs.next.now refs.status.now refs.amounts.now refs.left.now refs.right.now refs.under.now refs.over.now) refs.holds.now refs.threads.now
    refs.quotas.now refs.heads.now refs.totals.now

-- to the working memory
pub record Work : Type 0 where
  pub rises : MutBor (List ℕ)
  pub falls : MutBor (List ℕ)
  pub forks : MutBor (List ℕ)
  pub seen : MutBor (List ℕ)
  pub list : MutBor (List ℕ)

-- and to a turn and a run
pub record Blocks : Type 0 where
  pub table : Bor (List ℕ)
  pub bytes : MutBor (List ℕ)
  pub words : MutBor (List ℕ)
  pub numbers : MutBor (List ℕ)
  pub sums : MutBor (List ℕ)
  pub row : MutBor (List ℕ)

abbrev pub blocks_in : Blocks → Memory
blocks_in refs = memory_of refs.bytes.now refs.words.now refs.numbers.now refs.sums.now

-- `wivakkol_turn_on`, lent a table s and a run M, answered a
pub record TurnSays (s : List ℕ) (w : ℕ) (M : Memory) (a : Answer) : Type 0 where
  pub lifetimes : Lfts 6
  pub refs : Blocks
  pub exit : AtExit (ended_of 6 turn_kinds.ps turn_kinds.r) lifetimes
  pub lent_table : refs.table.now ≡ s
  pub lent_run : blocks_in refs ≡ M
  pub left : answer a.number exit.1.1.1.1.1.1.0.now (memory_of exit.1.1.0.now exit.1.1.1.0.now exit.1.1.1.1.0.now exit.1.1.1.1.1.0.now) ≡ a
  pub promised : turn_promise.Learnt lifetimes (refs.table, (w, (refs.bytes, (refs.words, (refs.numbers, (refs.sums, (refs.row, tt))))))) a.number exit

-- `wivakkol_list_on`, lent an order l too
pub record ListSays (s : List ℕ) (l : List ℕ) (M : Memory) (a : Answer) : Type 0 where
  pub lifetimes : Lfts 7
  pub refs : Blocks
  pub order : Bor (List ℕ)
  pub lent_order : order.now ≡ l
  pub exit : AtExit (ended_of 7 list_kinds.ps list_kinds.r) lifetimes
  pub lent_table : refs.table.now ≡ s
  pub lent_run : blocks_in refs ≡ M
  pub left : answer a.number exit.1.1.1.1.1.1.0.now (memory_of exit.1.1.0.now exit.1.1.1.0.now exit.1.1.1.1.0.now exit.1.1.1.1.1.0.now) ≡ a
  pub promised : list_promise.Learnt lifetimes (refs.table, (order, (refs.bytes, (refs.words, (refs.numbers, (refs.sums, (refs.row, tt))))))) a.number exit

-- `wivakkol_rounds_on`
pub record RoundsSays (s : List ℕ) (limit : ℕ) (M : Memory) (a : Answer) : Type 0 where
  pub lifetimes : Lfts 6
  pub refs : Blocks
  pub exit : AtExit (ended_of 6 rounds_kinds.ps rounds_kinds.r) lifetimes
  pub lent_table : refs.table.now ≡ s
  pub lent_run : blocks_in refs ≡ M
  pub left : answer a.number exit.1.1.1.1.1.1.0.now (memory_of exit.1.1.0.now exit.1.1.1.0.now exit.1.1.1.1.0.now exit.1.1.1.1.1.0.now) ≡ a
  pub promised : rounds_promise.Learnt lifetimes (refs.table, (limit, (refs.bytes, (refs.words, (refs.numbers, (refs.sums, (refs.row, tt))))))) a.number exit

-- `wivakkol_begin_on`, lent a table s and a buffer that held `out`, answered a and left `filled` there
pub record BeginSays (s : List ℕ) (p K : ℕ) (out : List ℕ) (a : Answer) (filled : List ℕ) : Type 0 where
  pub lifetimes : Lfts 19
  pub refs : Refs
  pub work : Work
  pub buffer : MutBor (List ℕ)
  pub exit : AtExit (ended_of 19 begin_kinds.ps begin_kinds.r) lifetimes
  pub lent_table : refs.table.now ≡ s
  pub lent_buffer : buffer.now ≡ out
  pub left_buffer : exit.1.1.1.1.1.1.1.1.1.1.1.1.1.1.1.1.1.1.1.1.0.now ≡ filled
  pub left : answer a.number exit.1.1.1.1.1.1.1.1.1.1.1.1.1.1.1.1.1.0.now (memory exit.1.1.1.0.now exit.1.1.1.1.0.now (arrays exit.1.1.1.1.1.0.now exit.1.1.1.1.1.1.0.now exit.1.1.1.1.1.1.1.0.now exit.1.1.1.1.1.1.1.1.0.now exit.1.1.1.1.1.1.1.1.1.0.now exit.1.1.1.1.1.1.1.1.1.1.0.now exit.1.1.1.1.1.1.1.1.1.1.1.0.now) exit.1.1.1.1.1.1.1.1.1.1.1.1.0.now exit.1.1.1.1.1.1.1.1.1.1.1.1.1.0.now exit.1.1.1.1.1.1.1.1.1.1.1.1.1.1.0.now exit.1.1.1.1.1.1.1.1.1.1.1.1.1.1.1.0.now exit.1.1.1.1.1.1.1.1.1.1.1.1.1.1.1.1.0.now) ≡ a
  pub promised : begin_promise.Learnt lifetimes (refs.table, (p, (K, (refs.settings, (refs.parents, (refs.next, (refs.status, (refs.amounts, (refs.left, (refs.right, (refs.under, (refs.over, (refs.holds, (refs.threads, (refs.quotas, (refs.heads, (refs.totals, (refs.row, (work.rises, (work.falls, (buffer, tt))))))))))))))))))))) a.number exit

-- `wivakkol_open_on`, lent a table s and a run M, answered a
pub record OpenSays (s : List ℕ) (M : Memory) (a : Answer) : Type 0 where
  pub lifetimes : Lfts 21
  pub refs : Refs
  pub work : Work
  pub exit : AtExit (ended_of 21 open_kinds.ps open_kinds.r) lifetimes
  pub lent_table : refs.table.now ≡ s
  pub lent_run : lent_in refs ≡ M
  pub left : answer a.number exit.1.1.1.1.1.1.1.1.1.1.1.1.1.1.1.0.now (memory refs.settings.now exit.1.1.0.now (arrays refs.next.now refs.status.now refs.amounts.now refs.left.now refs.right.now exit.1.1.1.1.1.1.1.1.0.now exit.1.1.1.1.1.1.1.1.1.0.now) refs.holds.now refs.threads.now refs.quotas.now exit.1.1.1.1.1.1.1.1.1.1.1.1.1.0.now refs.totals.now) ≡ a
  pub promised : open_promise.Learnt lifetimes (refs.table, (as_bor refs.settings, (refs.parents, (as_bor refs.next, (as_bor refs.status, (as_bor refs.amounts, (as_bor refs.left, (as_bor refs.right, (refs.under, (refs.over, (as_bor refs.holds, (as_bor refs.threads, (as_bor refs.quotas, (refs.heads, (as_bor refs.totals, (refs.row, (work.rises, (work.falls, (work.forks, (work.seen, (work.list, tt))))))))))))))))))))) a.number exit

pub turn_is : {s : List ℕ} {w : ℕ} {M : Memory} {a : Answer} → TurnSays s w M a → a ≡ lent_turn s w M
turn_is {s} {w} {M} h = sym h.left ∙ h.promised ∙ ap₂ (λ (t : List ℕ) (x : Memory). lent_turn t w x) h.lent_table h.lent_run

pub list_is : {s l : List ℕ} {M : Memory} {a : Answer} → ListSays s l M a → a ≡ lent_list s l M
list_is {s} {l} {M} h = sym h.left ∙ h.promised ∙ (λ i. lent_list (h.lent_table i) (h.lent_order i) (h.lent_run i))

pub rounds_is : {s : List ℕ} {limit : ℕ} {M : Memory} {a : Answer} → RoundsSays s limit M a → a ≡ lent_rounds s limit M
rounds_is {s} {limit} {M} h = sym h.left ∙ h.promised ∙ ap₂ (λ (t : List ℕ) (x : Memory). lent_rounds t limit x) h.lent_table h.lent_run

pub begin_is : {s : List ℕ} {p K : ℕ} {out filled : List ℕ} {a : Answer} → BeginSays s p K out a filled → a ≡ lent_begin s p K (length out)
begin_is {s} {p} {K} h = sym h.left ∙ h.promised.0 ∙ (λ i. lent_begin (h.lent_table i) p K (length (h.lent_buffer i)))

pub begin_into : {s : List ℕ} {p K : ℕ} {out filled : List ℕ} {a : Answer} → BeginSays s p K out a filled → filled ≡ begun_into s p K out
begin_into {s} {p} {K} h = sym h.left_buffer ∙ h.promised.1.0 ∙ (λ i. begun_into (h.lent_table i) p K (h.lent_buffer i))

pub open_is : {s : List ℕ} {M : Memory} {a : Answer} → OpenSays s M a → a ≡ lent_open s M
open_is {s} {M} h = sym h.left ∙ h.promised.0 ∙ ap₂ (λ (t : List ℕ) (x : Memory). lent_open t x) h.lent_table h.lent_run

-- ---- what the definitions answer keeps them

-- a reference at some place to a value
abbrev pub lent_of : List ℕ → Bor (List ℕ)
lent_of l = record { ref_ptr = (0, 0); now = l }

-- and one that it can be written through, under some ghost name
abbrev pub lent_mut : List ℕ → MutBor (List ℕ)
lent_mut l = record { ref_ptr = (0, 0); ghost_name = 0; now = l }

abbrev pub refs_of : List ℕ → Memory → Refs
refs_of s M = record { table = lent_of s; settings = lent_mut M.settings; parents = lent_mut M.parents; next = lent_mut M.arrays.next; status = lent_mut M.arrays.status; amounts = lent_mut M.arrays.amounts; left = lent_mut M.arrays.left; right = lent_mut M.arrays.right; under = lent_mut M.arrays.under; over = lent_mut M.arrays.over; holds = lent_mut M.holds; threads = lent_mut M.threads; quotas = lent_mut M.quotas; heads = lent_mut M.heads; totals = lent_mut M.totals; row = lent_mut [] }

-- working memory as a call leaves it
abbrev pub cleared : List ℕ
cleared = replicate 1024 0

abbrev pub work_of : Work
work_of = record { rises = lent_mut cleared; falls = lent_mut cleared; forks = lent_mut cleared; seen = lent_mut cleared; list = lent_mut cleared }

pub begin_says : (s : List ℕ) (p K : ℕ) (out : List ℕ) → BeginSays s p K out (lent_begin s p K (length out)) (begun_into s p K out)
begin_says s p K out =
    let a : Answer = lent_begin s p K (length out) in
    record { lifetimes = ([], ([], ([], ([], ([], ([], ([], ([], ([], ([], ([], ([], ([], ([], ([], ([], ([], ([], ([], tt))))))))))))))))))); refs = refs_of s a.memory; work = work_of; buffer = lent_mut out; exit = (lent_of s, (p, (K, (lent_mut a.memory.settings, (lent_mut a.memory.parents, (lent_mut a.memory.arrays.next, (lent_mut a.memory.arrays.status, (lent_mut a.memory.arrays.amounts, (lent_mut a.memory.arrays.left, (lent_mut a.memory.arrays.right, (lent_mut a.memory.arrays.under, (lent_mut a.memory.arrays.over, (lent_mut a.memory.holds, (lent_mut a.memory.threads, (lent_mut a.memory.quotas, (lent_mut a.memory.heads, (lent_mut a.memory.totals, (lent_mut a.row, (lent_mut cleared, (lent_mut cleared, (lent_mut (begun_into s p K out), tt))))))))))))))))))))); lent_table = refl; lent_buffer = refl; left_buffer = refl; left = refl; promised = (refl, (refl, (refl, refl))) }

-- the blocks of a memory
abbrev pub blocks_of : List ℕ → Memory → Blocks
blocks_of s M = record { table = lent_of s; bytes = lent_mut (byte_block M); words = lent_mut (words_of M); numbers = lent_mut (numbers_of M); sums = lent_mut (sums_of M); row = lent_mut [] }

-- an answer is what stands in the blocks of its memory
pub whole : (a : Answer) → Shaped a.memory
    → answer a.number a.row (memory_of (byte_block a.memory) (words_of a.memory) (numbers_of a.memory) (sums_of a.memory)) ≡ a
whole a h = ap (answer a.number a.row) (in_blocks_lem a.memory h)

pub turn_says : (s : List ℕ) (w : ℕ) (M : Memory) → Shaped M → Shaped (lent_turn s w M).memory → TurnSays s w M (lent_turn s w M)
turn_says s w M h k =
    let a : Answer = lent_turn s w M in
    let e = whole a k in
    record {
      lifetimes = ([], ([], ([], ([], ([], ([], tt))))));
      refs = blocks_of s M;
      exit =
          (lent_of s, (w, (lent_mut (byte_block a.memory), (lent_mut (words_of a.memory), (lent_mut (numbers_of a.memory), (lent_mut (sums_of a.memory), (lent_mut a.row, tt)))))));
      lent_table = refl;
      lent_run = in_blocks_lem M h;
      left = e;
      promised = e ∙ ap (lent_turn s w) (sym (in_blocks_lem M h));
    }

pub list_says : (s : List ℕ) (l : List ℕ) (M : Memory) → Shaped M → Shaped (lent_list s l M).memory → ListSays s l M (lent_list s l M)
list_says s l M h k =
    let a : Answer = lent_list s l M in
    let e = whole a k in
    record {
      lifetimes = ([], ([], ([], ([], ([], ([], ([], tt)))))));
      refs = blocks_of s M;
      order = lent_of l;
      lent_order = refl;
      exit =
          (lent_of s, (lent_of l, (lent_mut (byte_block a.memory), (lent_mut (words_of a.memory), (lent_mut (numbers_of a.memory), (lent_mut (sums_of a.memory), (lent_mut a.row, tt)))))));
      lent_table = refl;
      lent_run = in_blocks_lem M h;
      left = e;
      promised = e ∙ ap (lent_list s l) (sym (in_blocks_lem M h));
    }

pub rounds_says : (s : List ℕ) (limit : ℕ) (M : Memory) → Shaped M → Shaped (lent_rounds s limit M).memory → RoundsSays s limit M (lent_rounds s limit M)
rounds_says s limit M h k =
    let a : Answer = lent_rounds s limit M in
    let e = whole a k in
    record {
      lifetimes = ([], ([], ([], ([], ([], ([], tt))))));
      refs = blocks_of s M;
      exit =
          (lent_of s, (limit, (lent_mut (byte_block a.memory), (lent_mut (words_of a.memory), (lent_mut (numbers_of a.memory), (lent_mut (sums_of a.memory), (lent_mut a.row, tt)))))));
      lent_table = refl;
      lent_run = in_blocks_lem M h;
      left = e;
      promised = e ∙ ap (lent_rounds s limit) (sym (in_blocks_lem M h));
    }

-- what an opening leaves of what it is only lent to read
open_parts : (s : List ℕ) (M : Memory)
    → answer (lent_open s M).number (lent_open s M).row (memory M.settings (lent_open s M).memory.parents
    (arrays M.arrays.next M.arrays.status M.arrays.amounts M.arrays.left M.arrays.right (lent_open s M).memory.arrays.under (lent_open s M).memory.arrays.over)
    M.holds M.threads M.quotas (lent_open s M).memory.heads M.totals) ≡ lent_open s M
unfolding lent_open
open_parts s M = go (sound_in s M) (blank_in M)
  where
    go : (a b : Bool)
        → answer (opened_as a b s M).number (opened_as a b s M).row (memory M.settings (opened_as a b s M).memory.parents
        (arrays M.arrays.next M.arrays.status M.arrays.amounts M.arrays.left M.arrays.right (opened_as a b s M).memory.arrays.under (opened_as a b s M).memory.arrays.over)
        M.holds M.threads M.quotas (opened_as a b s M).memory.heads M.totals) ≡ opened_as a b s M
    go true b = refl
    go false true = refl
    go false false = refl

pub open_says : (s : List ℕ) (M : Memory) → OpenSays s M (lent_open s M)
open_says s M =
    let a : Answer = lent_open s M in
    let e = open_parts s M in
    record { lifetimes = ([], ([], ([], ([], ([], ([], ([], ([], ([], ([], ([], ([], ([], ([], ([], ([], ([], ([], ([], ([], ([], tt))))))))))))))))))))); refs = refs_of s M; work = work_of; exit = (lent_of s, (lent_of M.settings, (lent_mut a.memory.parents, (lent_of M.arrays.next, (lent_of M.arrays.status, (lent_of M.arrays.amounts, (lent_of M.arrays.left, (lent_of M.arrays.right, (lent_mut a.memory.arrays.under, (lent_mut a.memory.arrays.over, (lent_of M.holds, (lent_of M.threads, (lent_of M.quotas, (lent_mut a.memory.heads, (lent_of M.totals, (lent_mut a.row, (lent_mut cleared, (lent_mut cleared, (lent_mut cleared, (lent_mut cleared, (lent_mut cleared, tt))))))))))))))))))))); lent_table = refl; lent_run = refl; left = e; promised = (e, ((refl, refl), (refl, refl, refl))) }
