-- Marks by value (N11): the run goes by value, and the marks are lent. A history is a list of calls, each on the run and the lent marks that the last one left, of which nothing is known
-- but what the calls promise. `code_mark_history_exists`, `code_begun_history_exists`: every list of calls has one. `history_is_promised`: from a run on, with no mark set, it is a history
-- of runs with marks (Marks). `code_marked_limit`, `-threads` and `-turns`: and so the limits hold.
use Rattle.std.specs.Prelude.{Err, Ok, Result, ⊤}
use Rattle.table.specs.declared.Refusal.{Refusal}
use mathlib.Core.Path.{◌≡◌, refl, sym, ap, subst, ◌∙◌}
use Prim.Native.Nat.{ℕ, ◌≤◌}
use mathlib.Core.List.{List, [], ◌∷◌}
use mathlib.Core.Bool.{Bool, true, false, not}
use lib.Dec.{ltb, eqb}
use lib.ListN.{length, replicate}
use contract.Lifetimes.{Lfts}
use denote.Ref.{Bor}
use denote.MutBor.{MutBor, as_bor}
use denote.Triple.Clauses.{AtExit}
use borrow.Fn.Kinds.{ended_of}
use Rattle.table.specs.Sum.{pick}
use Rattle.table.specs.Format.{Table, table_of}
use Rattle.table.specs.Pass.{refusal, try_at}
use Rattle.order.specs.Turns.{turns_of}
use Rattle.filling.specs.Filled.{filled_out}
use Rattle.schedule.specs.declared.Run.{Run}
use Rattle.schedule.specs.declared.Begun.{Begun}
use Rattle.schedule.specs.Begin.{begin, start_state}
use Rattle.schedule.specs.Record.{bytes_of, table_in}
use Rattle.schedule.specs.Sound.{sound}
use Rattle.schedule.specs.Memory.{replies}
use Rattle.schedule.specs.Most.{not_idle}
use Rattle.schedule.specs.Turn.{unsound}
use Rattle.schedule.specs.Calls.{Call, after_call, row_of, Answer, answer_of}
use Rattle.bounds.proofs.Limit.{MemoryLimit}
use Rattle.bounds.proofs.ThreadLimit.{ThreadLimit}
use Rattle.bounds.proofs.PeakLimit.{PeakLimit, UsefulLimit}
use Rattle.sharp.proofs.QuotaLimit.{EveryOrder}
use Rattle.soundness.specs.Tested.{parents_if}
use Rattle.run_memory.specs.Packing.{memory_for}
use Rattle.marks.specs.Marks.{Marked, marked, unmarked, mark_of, is_set, bad_marked, set_checks, back_checks, MarkValues, mark_values, set_values, back_values, set_as, back_as, MarkCall, moving, setting, going, Led, led_by, nowhere, turns_by}
use Rattle.marks.proofs.Marked.{Follows, mark_follows, unmarked_follows}
use Rattle.wivakkol_marks.specs.LentMarks.{Marks, marks_of, lent_mark}
use Rattle.wivakkol_marks.specs.MarkedIn.{marks_in}
use Rattle.wivakkol_marks.proofs.MarkRefines.{unmark_refines}
use Rattle.marking.specs.declared.Gone.{Gone}
use Rattle.marking.specs.Marking.{marking_values, is_done, marked_by, marks_after}
use Rattle.marking.proofs.Values.{after_marks_lem}
use Rattle.marking.proofs.set_mark.Kinds as set_kinds
use Rattle.marking.proofs.set_mark.Reads as set_promise
use Rattle.marking.proofs.go_back.Kinds as back_kinds
use Rattle.marking.proofs.go_back.Reads as back_promise
use Rattle.wivakkol.specs.Lent.{blank_memory}
use Rattle.claims.specs.MarkAnswers.{MarkAnswer, moved, values}
use Rattle.claims.proofs.Bytes.{calls_bytes}
use Rattle.claims.proofs.ByValue.{BeginSays, Called, begin_says, called}
use Rattle.claims.proofs.MarkSays.{UnmarkSays, unmark_is, unmark_says}
use Rattle.claims.proofs.LentSays.{lent_of, lent_mut, cleared as cleared_work}
use Rattle.claims.proofs.Shaped.{words_of, numbers_of, sums_of}
use Rattle.claims.proofs.Shaped.{byte_block as block_bytes}
use Rattle.claims.proofs.MarksShaped.{MarksShaped, flat, in_blocks, marks_in_blocks, blocks_marks_shaped}
use Rattle.claims.proofs.MarkSizes.{mark_shaped, packed_shaped}
use Rattle.claims.proofs.Marks as promised

-- ---- what the calls on marks promise: the marks are lent, and read with the run's own table

-- setting mark i, lent marks K, answered v and left the marks K'
pub record SetSays (r : Run) (i : ℕ) (K : Marks) (v : MarkValues) (K' : Marks) : Type 0 where
  pub values : v ≡ set_values (marked_by r K) i
  pub marks : marks_in (bytes_of r) K' ≡ (set_as (try_at (set_checks (marked_by r K) i) 0) i (marked_by r K)).marks

-- going back to mark i, lent marks K, answered v and gave the run r'
pub record BackSays (r : Run) (i : ℕ) (K : Marks) (v : MarkValues) (r' : Run) : Type 0 where
  pub values : v ≡ back_values (marked_by r K) i
  pub run : r' ≡ (back_as (try_at (back_checks (marked_by r K) i) 0) i (marked_by r K)).run

-- ---- from the functions' own promises

-- references to what is lent: the marks' blocks, and the working memory
pub record MarkRefs : Type 0 where
  pub set : MutBor (List ℕ)
  pub mark_bytes : MutBor (List ℕ)
  pub mark_words : MutBor (List ℕ)
  pub mark_numbers : MutBor (List ℕ)
  pub mark_sums : MutBor (List ℕ)
  pub spare_bytes : MutBor (List ℕ)
  pub spare_words : MutBor (List ℕ)
  pub spare_numbers : MutBor (List ℕ)
  pub spare_sums : MutBor (List ℕ)
  pub next : MutBor (List ℕ)
  pub status : MutBor (List ℕ)
  pub amounts : MutBor (List ℕ)
  pub left : MutBor (List ℕ)
  pub right : MutBor (List ℕ)
  pub rises : MutBor (List ℕ)
  pub falls : MutBor (List ℕ)
  pub forks : MutBor (List ℕ)
  pub seen : MutBor (List ℕ)
  pub list : MutBor (List ℕ)

abbrev marks_lent : MarkRefs → Marks
marks_lent refs = marks_of refs.set.now refs.mark_bytes.now refs.mark_words.now refs.mark_numbers.now refs.mark_sums.now

-- `marking::set_mark(r, i, ..)`, lent marks K, answered x and left the marks K'
pub record SetLearnt (r : Run) (i : ℕ) (K : Marks) (x : Result ⊤ Refusal) (K' : Marks) : Type 0 where
  pub lifetimes : Lfts 19
  pub refs : MarkRefs
  pub exit : AtExit (ended_of 19 set_kinds.ps set_kinds.r) lifetimes
  pub lent_marks : marks_lent refs ≡ K
  pub left : marks_of exit.1.1.0.now exit.1.1.1.0.now exit.1.1.1.1.0.now exit.1.1.1.1.1.0.now exit.1.1.1.1.1.1.0.now ≡ K'
  pub promised : set_promise.Learnt lifetimes (r, (i, (refs.set, (refs.mark_bytes, (refs.mark_words, (refs.mark_numbers, (refs.mark_sums, (refs.spare_bytes, (refs.spare_words, (refs.spare_numbers, (refs.spare_sums, (refs.next, (refs.status, (refs.amounts, (refs.left, (refs.right, (refs.rises, (refs.falls, (refs.forks, (refs.seen, (refs.list, tt))))))))))))))))))))) x exit

-- `marking::go_back(r, i, ..)`, lent marks K, answered g
pub record BackLearnt (r : Run) (i : ℕ) (K : Marks) (g : Gone) : Type 0 where
  pub lifetimes : Lfts 19
  pub refs : MarkRefs
  pub exit : AtExit (ended_of 19 back_kinds.ps back_kinds.r) lifetimes
  pub lent_marks : marks_lent refs ≡ K
  pub promised : back_promise.Learnt lifetimes (r, (i, (as_bor refs.set, (as_bor refs.mark_bytes, (as_bor refs.mark_words, (as_bor refs.mark_numbers, (as_bor refs.mark_sums, (refs.spare_bytes, (refs.spare_words, (refs.spare_numbers, (refs.spare_sums, (refs.next, (refs.status, (refs.amounts, (refs.left, (refs.right, (refs.rises, (refs.falls, (refs.forks, (refs.seen, (refs.list, tt))))))))))))))))))))) g exit

set_says : {r : Run} {i : ℕ} {K : Marks} {x : Result ⊤ Refusal} {K' : Marks} → SetLearnt r i K x K' → SetSays r i K (marking_values x) K'
set_says {r} {i} {K} h =
    record {
      values = h.promised.0 ∙ ap (λ (k : Marks). set_values (marked r (marks_in (bytes_of r) k)) i) h.lent_marks;
      marks =
          ap (marks_in (bytes_of r)) (sym h.left) ∙ h.promised.1.0
          ∙ ap (λ (k : Marks). (set_as (try_at (set_checks (marked r (marks_in (bytes_of r) k)) i) 0) i (marked r (marks_in (bytes_of r) k))).marks) h.lent_marks;
    }

back_says : {r : Run} {i : ℕ} {K : Marks} {g : Gone} → BackLearnt r i K g → BackSays r i K (marking_values g.answer) g.run
back_says {r} {i} {K} h =
    record {
      values = h.promised.0 ∙ ap (λ (k : Marks). back_values (marked r (marks_in (bytes_of r) k)) i) h.lent_marks;
      run = h.promised.1.0 ∙ ap (λ (k : Marks). (back_as (try_at (back_checks (marked r (marks_in (bytes_of r) k)) i) 0) i (marked r (marks_in (bytes_of r) k))).run) h.lent_marks;
    }

-- ---- a history

-- one call on a run and the lent marks. A call that moves the run is not lent the marks; setting a mark takes the run as it is, and going back only reads the marks.
pub data MarkCalled (r : Run) (K : Marks) : MarkCall → MarkAnswer → List ℕ → Run → Marks → Type 0 where
  by_call : {c : Call} {x : Answer} {row : List ℕ} {r' : Run} → Called r c x row r' → MarkCalled r K (moving c) (moved x) row r' K
  by_set : {i : ℕ} {x : Result ⊤ Refusal} {K' : Marks} → SetLearnt r i K x K' → MarkCalled r K (setting i) (values (marking_values x)) [] r K'
  by_back : {i : ℕ} {g : Gone} → BackLearnt r i K g → MarkCalled r K (going i) (values (marking_values g.answer)) [] g.run K

-- calls one after the other: their answers, the turns that led to the run and to its marks, as the answers have it, and the run and the marks that they leave
pub data MarkHistory : Run → Marks → Led ℕ → List MarkCall → List MarkAnswer → Run → Marks → Led ℕ → Type 0 where
  none : {r : Run} {K : Marks} {w : Led ℕ} → MarkHistory r K w [] [] r K w
  next : {r r' r'' : Run} {K K' K'' : Marks} {w w' : Led ℕ} {c : MarkCall} {x : MarkAnswer} {row : List ℕ} {cs : List MarkCall} {xs : List MarkAnswer}
      → MarkCalled r K c x row r' K' → MarkHistory r' K' (turns_by c row (promised.number_in x) w) cs xs r'' K'' w' → MarkHistory r K w (c ∷ cs) (x ∷ xs) r'' K'' w'

-- ---- every list of calls has a history: the answers

marking_values_lem : (f : Result ⊤ Refusal) → marking_values f ≡ mark_values f
marking_values_lem (Ok _) = refl
marking_values_lem (Err y) = refl

set_done : (m : Marked) (i : ℕ) → is_done (try_at (set_checks m i) 0) ≡ eqb (marking_values (try_at (set_checks m i) 0)).number 0
unfolding try_at
set_done m i = go (bad_marked m) (not (ltb i 8))
  where
    go : (a b : Bool)
        → is_done (pick a (Err (refusal 32 0)) (pick b (Err (refusal 45 0)) (Ok tt))) ≡ eqb (marking_values (pick a (Err (refusal 32 0)) (pick b (Err (refusal 45 0)) (Ok tt)))).number 0
    go true b = refl
    go false true = refl
    go false false = refl

back_done : (m : Marked) (i : ℕ) → is_done (try_at (back_checks m i) 0) ≡ eqb (marking_values (try_at (back_checks m i) 0)).number 0
unfolding try_at
back_done m i = go (bad_marked m) (not (ltb i 8)) (not (is_set (mark_of m i)))
  where
    go : (a b c : Bool)
        → is_done (pick a (Err (refusal 32 0)) (pick b (Err (refusal 45 0)) (pick c (Err (refusal 46 0)) (Ok tt))))
        ≡ eqb (marking_values (pick a (Err (refusal 32 0)) (pick b (Err (refusal 45 0)) (pick c (Err (refusal 46 0)) (Ok tt))))).number 0
    go true b c = refl
    go false true c = refl
    go false false true = refl
    go false false false = refl

-- ---- the calls keep the lengths, and what they answer keeps the promises

after_shaped : (r : Run) (i : ℕ) (K : Marks) → MarksShaped K → MarksShaped (marks_after r i K)
unfolding marks_after
after_shaped r i K k = go (unsound r) refl
  where
    go : (q : Bool) → unsound r ≡ q → MarksShaped (pick q K (lent_mark (bytes_of r) i (memory_for r (parents_if (sound r) (table_in r))) K).marks)
    go true e = k
    go false e = mark_shaped (bytes_of r) i (memory_for r (parents_if (sound r) (table_in r))) K (packed_shaped r e) k

abbrev mark_refs : Marks → MarkRefs
mark_refs K =
    record {
      set = lent_mut K.set;
      mark_bytes = lent_mut (flat block_bytes K.kept);
      mark_words = lent_mut (flat words_of K.kept);
      mark_numbers = lent_mut (flat numbers_of K.kept);
      mark_sums = lent_mut (flat sums_of K.kept);
      spare_bytes = lent_mut (replicate 1040 0);
      spare_words = lent_mut (replicate 6163 0);
      spare_numbers = lent_mut (replicate 18 0);
      spare_sums = lent_mut (replicate 1027 0);
      next = lent_mut cleared_work;
      status = lent_mut cleared_work;
      amounts = lent_mut cleared_work;
      left = lent_mut cleared_work;
      right = lent_mut cleared_work;
      rises = lent_mut cleared_work;
      falls = lent_mut cleared_work;
      forks = lent_mut cleared_work;
      seen = lent_mut cleared_work;
      list = lent_mut cleared_work;
    }

module _ (r : Run) (i : ℕ) (K : Marks) (k : MarksShaped K) where
  abbrev m : Marked
  m = marked_by r K

  set_learnt : SetLearnt r i K (try_at (set_checks (marked_by r K) i) 0) (marks_after r i K)
  unfolding set_values
  set_learnt =
      let K' : Marks = marks_after r i K in
      let g : MarksShaped K' = after_shaped r i K k in
      let e : in_blocks K ≡ K = marks_in_blocks K k in
      let f : in_blocks K' ≡ K' = marks_in_blocks K' g in
      record {
        lifetimes = ([], ([], ([], ([], ([], ([], ([], ([], ([], ([], ([], ([], ([], ([], ([], ([], ([], ([], ([], tt)))))))))))))))))));
        refs = mark_refs K;
        exit =
            (r, (i, (lent_mut K'.set, (lent_mut (flat block_bytes K'.kept), (lent_mut (flat words_of K'.kept), (lent_mut (flat numbers_of K'.kept), (lent_mut (flat sums_of K'.kept), (lent_mut (replicate 1040 0), (lent_mut (replicate 6163 0), (lent_mut (replicate 18 0), (lent_mut (replicate 1027 0), (lent_mut cleared_work, (lent_mut cleared_work, (lent_mut cleared_work, (lent_mut cleared_work, (lent_mut cleared_work, (lent_mut cleared_work, (lent_mut cleared_work, (lent_mut cleared_work, (lent_mut cleared_work, (lent_mut cleared_work, tt)))))))))))))))))))));
        lent_marks = e;
        left = f;
        promised = (
          marking_values_lem (try_at (set_checks m i) 0) ∙ ap (λ (x : Marks). set_values (marked_by r x) i) (sym e),
          (
            ap (marks_in (bytes_of r)) f ∙ after_marks_lem r K i k.flags k.kept
                ∙ ap (λ (x : Marks). (set_as (try_at (set_checks (marked_by r x) i) 0) i (marked_by r x)).marks) (sym e),
            ((refl, refl, refl, refl, refl, refl, refl, refl, refl, refl, refl, refl, refl, refl), (f ∙ ap (marks_after r i) (sym e), set_done m i)),
          ),
        );
      }

  gone : Gone
  gone = record { answer = try_at (back_checks m i) 0; run = (back_as (try_at (back_checks m i) 0) i m).run }

  back_learnt : BackLearnt r i K gone
  unfolding back_values gone
  back_learnt =
      let e : in_blocks K ≡ K = marks_in_blocks K k in
      record {
        lifetimes = ([], ([], ([], ([], ([], ([], ([], ([], ([], ([], ([], ([], ([], ([], ([], ([], ([], ([], ([], tt)))))))))))))))))));
        refs = mark_refs K;
        exit =
            (r, (i, (lent_of K.set, (lent_of (flat block_bytes K.kept), (lent_of (flat words_of K.kept), (lent_of (flat numbers_of K.kept), (lent_of (flat sums_of K.kept), (lent_mut (replicate 1040 0), (lent_mut (replicate 6163 0), (lent_mut (replicate 18 0), (lent_mut (replicate 1027 0), (lent_mut cleared_work, (lent_mut cleared_work, (lent_mut cleared_work, (lent_mut cleared_work, (lent_mut cleared_work, (lent_mut cleared_work, (lent_mut cleared_work, (lent_mut cleared_work, (lent_mut cleared_work, (lent_mut cleared_work, tt)))))))))))))))))))));
        lent_marks = e;
        promised = (
          marking_values_lem (try_at (back_checks m i) 0) ∙ ap (λ (x : Marks). back_values (marked_by r x) i) (sym e),
          (
            ap (λ (x : Marks). (back_as (try_at (back_checks (marked_by r x) i) 0) i (marked_by r x)).run) (sym e),
            ((refl, refl, refl, refl, refl, refl, refl, refl, refl, refl, refl, refl, refl, refl), back_done m i),
          ),
        );
      }

-- ---- .. call by call

record CallExists (r : Run) (K : Marks) (c : MarkCall) : Type 0 where
  pub answer : MarkAnswer
  pub row : List ℕ
  pub run : Run
  pub marks : Marks
  pub call : MarkCalled r K c answer row run marks
  pub shaped : MarksShaped marks

call_exists : (r : Run) (K : Marks) → MarksShaped K → (c : MarkCall) → CallExists r K c
call_exists r K k (moving c) = record { answer = moved (answer_of c r); row = row_of c r; run = after_call c r; marks = K; call = by_call (called r c); shaped = k }
call_exists r K k (setting i) =
    record { answer = values (marking_values (try_at (set_checks (marked_by r K) i) 0)); row = []; run = r; marks = marks_after r i K; call = by_set (set_learnt r i K k); shaped = after_shaped r i K k }
call_exists r K k (going i) =
    record { answer = values (marking_values (gone r i K k).answer); row = []; run = (gone r i K k).run; marks = K; call = by_back (back_learnt r i K k); shaped = k }

pub record HistoryExists (r : Run) (K : Marks) (w : Led ℕ) (cs : List MarkCall) : Type 0 where
  pub answers : List MarkAnswer
  pub run : Run
  pub marks : Marks
  pub turns : Led ℕ
  pub history : MarkHistory r K w cs answers run marks turns

pub code_mark_history_exists : (r : Run) (K : Marks) → MarksShaped K → (w : Led ℕ) (cs : List MarkCall) → HistoryExists r K w cs
code_mark_history_exists r K k w [] = record { answers = []; run = r; marks = K; turns = w; history = none }
code_mark_history_exists r K k w (c ∷ cs) =
    let d : CallExists r K c = call_exists r K k c in
    let h : HistoryExists d.run d.marks (turns_by c d.row (promised.number_in d.answer) w) cs = code_mark_history_exists d.run d.marks d.shaped (turns_by c d.row (promised.number_in d.answer) w) cs in
    record { answers = d.answer ∷ h.answers; run = h.run; marks = h.marks; turns = h.turns; history = next d.call h.history }

-- From any beginning on, accepted or not, with any blocks for the marks, cleared: every list of calls, those on marks among them, has a history of which nothing is said but what the
-- functions promise. So what `code_marked_limit`, `-threads`, `-turns`, `-peak` and `-useful` say of all such histories is said of something.
pub record MarksBegun (s : List ℕ) (p K : ℕ) (b w n z : List ℕ) (cs : List MarkCall) : Type 0 where
  pub begins : BeginSays s p K (begin s p K)
  pub clears : UnmarkSays (marks_of (replicate 8 0) b w n z)
  pub exists : HistoryExists (begin s p K).run (marks_of (replicate 8 0) b w n z) nowhere cs

pub code_begun_history_exists : (s : List ℕ) (p K : ℕ) (flags b w n z : List ℕ) → length b ≡ 8320 → length w ≡ 49304 → length n ≡ 144 → length z ≡ 8216 → (cs : List MarkCall) → MarksBegun s p K b w n z cs
code_begun_history_exists s p K flags b w n z hb hw hn hz cs =
    record {
      begins = begin_says s p K;
      clears = unmark_says flags b w n z;
      exists = code_mark_history_exists (begin s p K).run (marks_of (replicate 8 0) b w n z) (blocks_marks_shaped b w n z hb hw hn hz) nowhere cs;
    }

-- ---- a history is one of runs with marks

-- marks are read with the run's own table, which is that of the run at the start
module _ (start : Run) where
  abbrev at : Run → Marks → Marked
  at r K = marked r (marks_in (bytes_of start) K)

  same_bytes : (r : Run) (K : Marks) (l : Led Call) → Follows start (at r K) l → bytes_of start ≡ bytes_of r
  same_bytes r K l f = sym (ap bytes_of f.run ∙ calls_bytes l.here start)

  called_so : {r r' : Run} {K K' : Marks} {c : MarkCall} {x : MarkAnswer} {row : List ℕ} {l : Led Call} → Follows start (at r K) l → MarkCalled r K c x row r' K'
      → promised.MarkCalled (at r K) c x row (at r' K')
  called_so f (by_call h) = promised.by_call h
  called_so {r} {K = K} {K' = K'} {l = l} f (by_set {i} {x} h) =
      let d = set_says h in
      promised.by_set
      (subst (λ (b : List ℕ). promised.SetSays (marked r (marks_in b K)) i (marking_values x) (marks_in b K')) (sym (same_bytes r K l f)) (record { values = d.values; marks = d.marks }))
  called_so {r} {K = K} {l = l} f (by_back {i} {g} h) =
      let d = back_says h in
      promised.by_back
      (subst (λ (b : List ℕ). promised.BackSays (marked r (marks_in b K)) i (marking_values g.answer) g.run) (sym (same_bytes r K l f)) (record { values = d.values; run = d.run }))

  pub history_is_promised : {r : Run} {K : Marks} {w : Led ℕ} {cs : List MarkCall} {xs : List MarkAnswer} {r' : Run} {K' : Marks} {w' : Led ℕ} {l : Led Call}
      → Follows start (at r K) l → MarkHistory r K w cs xs r' K' w' → promised.MarkHistory (at r K) w cs xs (at r' K') w'
  history_is_promised f none = promised.none
  history_is_promised {l = l} f (next {r} {r'} {r''} {K} {K'} {K''} {w} {w'} {c} h t) =
      let d = called_so f h in
      let g : Follows start (at r' K') (led_by c (at r K) l) = subst (λ (m : Marked). Follows start m (led_by c (at r K) l)) (sym (promised.call_is d).left_is) (mark_follows start c (at r K) l f) in
      promised.next d (history_is_promised g t)

-- Beginning accepted the bytes, p and K; the marks were cleared ("none set at the beginning"); the calls of any history with marks followed. Both limits and the count of turns hold of the run
-- that they left, with the turns that led to it as the answers have it.
module _ {s : List ℕ} {p K : ℕ} {b : Begun} (h : BeginSays s p K b) (e : b.answer ≡ Ok tt) {marks : Marks} (u : UnmarkSays marks) {cs : List MarkCall} {xs : List MarkAnswer} {r : Run}
    {left : Marks} {w : Led ℕ} (t : MarkHistory b.run marks nowhere cs xs r left w) where
  abbrev T : Table
  T = table_of (filled_out s K)

  cleared : at b.run b.run marks ≡ unmarked b.run
  cleared = ap (at b.run b.run) (unmark_is u) ∙ ap (marked b.run) (ap (λ (m : Marked). m.marks) (unmark_refines (bytes_of b.run) blank_memory (marks_of u.set.now u.bytes u.words u.numbers u.sums)))

  history : promised.MarkHistory (unmarked b.run) nowhere cs xs (at b.run r left) w
  history =
      subst (λ (m : Marked). promised.MarkHistory m nowhere cs xs (at b.run r left) w) cleared
      (history_is_promised b.run (subst (λ (m : Marked). Follows b.run m nowhere) (sym cleared) (unmarked_follows b.run)) t)

  pub code_marked_limit : (most : ℕ) → 1 ≤ most → MemoryLimit T p K most r w.here
  code_marked_limit most g = promised.promised_limit h e history most g

  pub code_marked_threads : (most : ℕ) → 1 ≤ most → ThreadLimit T p K most r w.here
  code_marked_threads most g = promised.promised_threads h e history most g

  pub code_marked_turns : not_idle (replies T K (start_state T) w.here) ≤ turns_of T
  code_marked_turns = promised.promised_turns h e history

  pub code_marked_peak : PeakLimit T p K r w.here
  code_marked_peak = promised.promised_peak h e history

  pub code_marked_useful : (most : ℕ) → UsefulLimit T p K most r w.here
  code_marked_useful most = promised.promised_useful h e history most

  pub code_marked_every_order : EveryOrder T p K r w.here
  code_marked_every_order = promised.promised_every_order h e history
