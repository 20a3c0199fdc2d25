-- What the promises of the three calls from C on marks say (N11): their own `ensures`, as the check reads them (`Learnt`), of what was lent and of what stood there at the end. Each answer is the
-- definition's (`mark_is`, `back_is`, `unmark_is`), and the definition's own keeps the promise (`mark_says`, `back_says`, `unmark_says`).
use mathlib.Core.Path.{◌≡◌, refl, sym, ap, ap₂, ◌∙◌}
use Prim.Native.Nat.{ℕ}
use mathlib.Core.List.{List, []}
use lib.ListN.{replicate}
use contract.Lifetimes.{Lfts}
use denote.Ref.{Bor}
use denote.MutBor.{MutBor, as_bor}
use denote.Triple.Clauses.{AtExit}
use borrow.Fn.Kinds.{ended_of}
use Rattle.run_memory.specs.Memory.{Memory}
use Rattle.run_memory.specs.Blocks.{memory_of}
use Rattle.wivakkol_marks.specs.LentMarks.{Marks, marks_of, setting, lent_mark, going, lent_back, lent_unmark}
use Rattle.wivakkol_marks.proofs.wivakkol_mark_on.Kinds as mark_kinds
use Rattle.wivakkol_marks.proofs.wivakkol_mark_on.Reads as mark_promise
use Rattle.wivakkol_marks.proofs.wivakkol_back_on.Kinds as back_kinds
use Rattle.wivakkol_marks.proofs.wivakkol_back_on.Reads as back_promise
use Rattle.wivakkol_marks.proofs.wivakkol_unmark_on.Kinds as unmark_kinds
use Rattle.wivakkol_marks.proofs.wivakkol_unmark_on.Reads as unmark_promise
use Rattle.claims.proofs.Shaped.{Shaped, byte_block, words_of, numbers_of, sums_of, in_blocks_lem}
use Rattle.claims.proofs.LentSays.{lent_of, lent_mut, cleared}
use Rattle.claims.proofs.MarksShaped.{MarksShaped, flat, marks_in_blocks}

-- references to all that is lent to them: the table and the run's blocks, the marks' blocks, and the working memory
pub record MarkRefs : Type 0 where
  pub table : Bor (List ℕ)
  pub bytes : MutBor (List ℕ)
  pub words : MutBor (List ℕ)
  pub numbers : MutBor (List ℕ)
  pub sums : MutBor (List ℕ)
  pub set : MutBor (List ℕ)
  pub mark_bytes : MutBor (List ℕ)
  pub mark_words : MutBor (List ℕ)
  pub mark_numbers : MutBor (List ℕ)
  pub mark_sums : MutBor (List ℕ)
  pub spare_bytes : MutBor (List ℕ)
  pub spare_words : MutBor (List ℕ)
  pub spare_numbers : MutBor (List ℕ)
  pub spare_sums : MutBor (List ℕ)
  pub next : MutBor (List ℕ)
  pub status : MutBor (List ℕ)
  pub amounts : MutBor (List ℕ)
  pub left : MutBor (List ℕ)
  pub right : MutBor (List ℕ)
  pub rises : MutBor (List ℕ)
  pub falls : MutBor (List ℕ)
  pub forks : MutBor (List ℕ)
  pub seen : MutBor (List ℕ)
  pub list : MutBor (List ℕ)

abbrev run_lent : MarkRefs → Memory
run_lent refs = memory_of refs.bytes.now refs.words.now refs.numbers.now refs.sums.now

abbrev marks_lent : MarkRefs → Marks
marks_lent refs = marks_of refs.set.now refs.mark_bytes.now refs.mark_words.now refs.mark_numbers.now refs.mark_sums.now

-- `wivakkol_mark_on`, lent a table s, a run M and marks K, answered a number and left the marks K'
pub record MarkSays (s : List ℕ) (i : ℕ) (M : Memory) (K : Marks) (number : ℕ) (K' : Marks) : Type 0 where
  pub lifetimes : Lfts 24
  pub refs : MarkRefs
  pub exit : AtExit (ended_of 24 mark_kinds.ps mark_kinds.r) lifetimes
  pub lent_table : refs.table.now ≡ s
  pub lent_run : run_lent refs ≡ M
  pub lent_marks : marks_lent refs ≡ K
  pub left : marks_of exit.1.1.1.1.1.1.0.now exit.1.1.1.1.1.1.1.0.now exit.1.1.1.1.1.1.1.1.0.now exit.1.1.1.1.1.1.1.1.1.0.now exit.1.1.1.1.1.1.1.1.1.1.0.now ≡ K'
  pub promised : mark_promise.Learnt lifetimes (refs.table, (i, (as_bor refs.bytes, (as_bor refs.words, (as_bor refs.numbers, (as_bor refs.sums, (refs.set, (refs.mark_bytes, (refs.mark_words, (refs.mark_numbers, (refs.mark_sums, (refs.spare_bytes, (refs.spare_words, (refs.spare_numbers, (refs.spare_sums, (refs.next, (refs.status, (refs.amounts, (refs.left, (refs.right, (refs.rises, (refs.falls, (refs.forks, (refs.seen, (refs.list, tt))))))))))))))))))))))))) number exit

-- `wivakkol_back_on` answered a number and left the run M'
pub record BackSays (s : List ℕ) (i : ℕ) (M : Memory) (K : Marks) (number : ℕ) (M' : Memory) : Type 0 where
  pub lifetimes : Lfts 24
  pub refs : MarkRefs
  pub exit : AtExit (ended_of 24 back_kinds.ps back_kinds.r) lifetimes
  pub lent_table : refs.table.now ≡ s
  pub lent_run : run_lent refs ≡ M
  pub lent_marks : marks_lent refs ≡ K
  pub left : memory_of exit.1.1.0.now exit.1.1.1.0.now exit.1.1.1.1.0.now exit.1.1.1.1.1.0.now ≡ M'
  pub promised : back_promise.Learnt lifetimes (refs.table, (i, (refs.bytes, (refs.words, (refs.numbers, (refs.sums, (as_bor refs.set, (as_bor refs.mark_bytes, (as_bor refs.mark_words, (as_bor refs.mark_numbers, (as_bor refs.mark_sums, (refs.spare_bytes, (refs.spare_words, (refs.spare_numbers, (refs.spare_sums, (refs.next, (refs.status, (refs.amounts, (refs.left, (refs.right, (refs.rises, (refs.falls, (refs.forks, (refs.seen, (refs.list, tt))))))))))))))))))))))))) number exit

-- `wivakkol_unmark_on` left the marks K: it is lent whether each is set, and not the blocks that the marks keep
pub record UnmarkSays (K : Marks) : Type 0 where
  pub lifetimes : Lfts 1
  pub set : MutBor (List ℕ)
  pub bytes : List ℕ
  pub words : List ℕ
  pub numbers : List ℕ
  pub sums : List ℕ
  pub exit : AtExit (ended_of 1 unmark_kinds.ps unmark_kinds.r) lifetimes
  pub left : marks_of exit.0.now bytes words numbers sums ≡ K
  pub promised : unmark_promise.Learnt lifetimes (set, tt) tt exit

pub mark_is : {s : List ℕ} {i : ℕ} {M : Memory} {K : Marks} {number : ℕ} {K' : Marks} → MarkSays s i M K number K' → setting number K' ≡ lent_mark s i M K
mark_is {i = i} {number = number} h = ap (setting number) (sym h.left) ∙ h.promised.0 ∙ (λ j. lent_mark (h.lent_table j) i (h.lent_run j) (h.lent_marks j))

pub back_is : {s : List ℕ} {i : ℕ} {M : Memory} {K : Marks} {number : ℕ} {M' : Memory} → BackSays s i M K number M' → going number M' ≡ lent_back s i M K
back_is {i = i} {number = number} h = ap (going number) (sym h.left) ∙ h.promised.0 ∙ (λ j. lent_back (h.lent_table j) i (h.lent_run j) (h.lent_marks j))

pub unmark_is : {K : Marks} → (h : UnmarkSays K) → K ≡ lent_unmark (marks_of h.set.now h.bytes h.words h.numbers h.sums)
unmark_is h = sym h.left ∙ ap (λ (l : List ℕ). marks_of l h.bytes h.words h.numbers h.sums) h.promised

-- ---- what the definitions answer keeps them

-- the blocks of a table, a run and its marks, and any working memory
abbrev mark_refs : List ℕ → Memory → Marks → MarkRefs
mark_refs s M K =
    record {
      table = lent_of s;
      bytes = lent_mut (byte_block M);
      words = lent_mut (words_of M);
      numbers = lent_mut (numbers_of M);
      sums = lent_mut (sums_of M);
      set = lent_mut K.set;
      mark_bytes = lent_mut (flat byte_block K.kept);
      mark_words = lent_mut (flat words_of K.kept);
      mark_numbers = lent_mut (flat numbers_of K.kept);
      mark_sums = lent_mut (flat sums_of K.kept);
      spare_bytes = lent_mut (replicate 1040 0);
      spare_words = lent_mut (replicate 6163 0);
      spare_numbers = lent_mut (replicate 18 0);
      spare_sums = lent_mut (replicate 1027 0);
      next = lent_mut cleared;
      status = lent_mut cleared;
      amounts = lent_mut cleared;
      left = lent_mut cleared;
      right = lent_mut cleared;
      rises = lent_mut cleared;
      falls = lent_mut cleared;
      forks = lent_mut cleared;
      seen = lent_mut cleared;
      list = lent_mut cleared;
    }

pub mark_says : (s : List ℕ) (i : ℕ) (M : Memory) (K : Marks) → Shaped M → MarksShaped K → MarksShaped (lent_mark s i M K).marks → MarkSays s i M K (lent_mark s i M K).number (lent_mark s i M K).marks
mark_says s i M K h k g =
    let K' : Marks = (lent_mark s i M K).marks in
    record {
      lifetimes = ([], ([], ([], ([], ([], ([], ([], ([], ([], ([], ([], ([], ([], ([], ([], ([], ([], ([], ([], ([], ([], ([], ([], ([], tt))))))))))))))))))))))));
      refs = mark_refs s M K;
      exit =
          (lent_of s, (i, (lent_of (byte_block M), (lent_of (words_of M), (lent_of (numbers_of M), (lent_of (sums_of M), (lent_mut K'.set, (lent_mut (flat byte_block K'.kept), (lent_mut (flat words_of K'.kept), (lent_mut (flat numbers_of K'.kept), (lent_mut (flat sums_of K'.kept), (lent_mut (replicate 1040 0), (lent_mut (replicate 6163 0), (lent_mut (replicate 18 0), (lent_mut (replicate 1027 0), (lent_mut cleared, (lent_mut cleared, (lent_mut cleared, (lent_mut cleared, (lent_mut cleared, (lent_mut cleared, (lent_mut cleared, (lent_mut cleared, (lent_mut cleared, (lent_mut cleared, tt)))))))))))))))))))))))));
      lent_table = refl;
      lent_run = in_blocks_lem M h;
      lent_marks = marks_in_blocks K k;
      left = marks_in_blocks K' g;
      promised = (
        ap (setting (lent_mark s i M K).number) (marks_in_blocks K' g) ∙ sym (ap₂ (lent_mark s i) (in_blocks_lem M h) (marks_in_blocks K k)),
        ((refl, refl, refl, refl, refl, refl, refl, refl, refl, refl, refl, refl, refl, refl), λ z. k.flags),
      );
    }

pub back_says : (s : List ℕ) (i : ℕ) (M : Memory) (K : Marks) → Shaped M → MarksShaped K → Shaped (lent_back s i M K).memory → BackSays s i M K (lent_back s i M K).number (lent_back s i M K).memory
back_says s i M K h k g =
    let M' : Memory = (lent_back s i M K).memory in
    record {
      lifetimes = ([], ([], ([], ([], ([], ([], ([], ([], ([], ([], ([], ([], ([], ([], ([], ([], ([], ([], ([], ([], ([], ([], ([], ([], tt))))))))))))))))))))))));
      refs = mark_refs s M K;
      exit =
          (lent_of s, (i, (lent_mut (byte_block M'), (lent_mut (words_of M'), (lent_mut (numbers_of M'), (lent_mut (sums_of M'), (lent_of K.set, (lent_of (flat byte_block K.kept), (lent_of (flat words_of K.kept), (lent_of (flat numbers_of K.kept), (lent_of (flat sums_of K.kept), (lent_mut (replicate 1040 0), (lent_mut (replicate 6163 0), (lent_mut (replicate 18 0), (lent_mut (replicate 1027 0), (lent_mut cleared, (lent_mut cleared, (lent_mut cleared, (lent_mut cleared, (lent_mut cleared, (lent_mut cleared, (lent_mut cleared, (lent_mut cleared, (lent_mut cleared, (lent_mut cleared, tt)))))))))))))))))))))))));
      lent_table = refl;
      lent_run = in_blocks_lem M h;
      lent_marks = marks_in_blocks K k;
      left = in_blocks_lem M' g;
      promised = (
        ap (going (lent_back s i M K).number) (in_blocks_lem M' g) ∙ sym (ap₂ (lent_back s i) (in_blocks_lem M h) (marks_in_blocks K k)),
        (refl, refl, refl, refl, refl, refl, refl, refl, refl, refl, refl, refl, refl, refl),
      );
    }

pub unmark_says : (flags b w n z : List ℕ) → UnmarkSays (marks_of (replicate 8 0) b w n z)
unmark_says flags b w n z =
    record { lifetimes = ([], tt); set = lent_mut flags; bytes = b; words = w; numbers = n; sums = z; exit = (lent_mut (replicate 8 0), tt); left = refl; promised = refl }
