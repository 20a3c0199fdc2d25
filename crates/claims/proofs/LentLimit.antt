-- A beginning in lent memory stands, every list of calls on it is that list on the record, answers included, and so the memory limit and the limit on the threads in the list hold of it.
use Rattle.std.specs.Prelude.{Err, Ok, Result, ⊤}
use Rattle.table.specs.declared.Refusal.{Refusal}
use mathlib.Core.Path.{◌≡◌, refl, sym, ap, ap₂, subst, ◌∙◌}
use Prim.Native.Nat.{ℕ, ◌%◌, ◌≤◌}
use native.Mathlib.Omega.{arith}
use mathlib.Core.List.Memᴰ
use mathlib.Core.List.{List, [], ◌∷◌, ◌++◌, Memᴰ}
use mathlib.Core.Logic.{⊎_elim}
use borrow.Author.Tests.{ne_eqb, eqb-true, eqb-false, ltb-false}
use lib.Dec.{eqb, ltb}
use mathlib.Core.Bool.{Bool, true, false}
use lib.ListN.{length, get_or, take, replicate, set}
use Rattle.table.specs.Sum.{pick}
use Rattle.table.specs.Format.{table_of}
use Rattle.table.proofs.Tests.{no_way}
use Rattle.table.specs.Pass.{try_at}
use Rattle.schedule.specs.declared.Run.{Run}
use Rattle.schedule.specs.declared.Begun.{Begun}
use Rattle.schedule.specs.Links.{no_thread, walk, LinkedAs}
use Rattle.schedule.specs.Actives.{actives}
use Rattle.schedule.specs.Record.{max_workers}
use Rattle.schedule.specs.Sound.{Steady}
use Rattle.order.specs.Words.{all_below}
use Rattle.schedule.specs.Begin.{begin, start_run}
use Rattle.schedule.specs.Machine.{Stepped}
use Rattle.schedule.specs.Turn.{turn_checks, step_run, passed_in, turned_as, turned}
use Rattle.schedule.specs.declared.Report.{Report}
use Rattle.schedule.specs.declared.Report.TheVariants.{Finished, Spent, Refused}
use Rattle.schedule.specs.Answers.{Values, report_values}
use Rattle.schedule.specs.Runs.{list_run, rounds_run}
use Rattle.order.specs.Firsts.{firsts}
use Rattle.schedule.specs.Calls.{Call, turn, over_list, in_rounds, turns_in, after_call, after_calls, row_of, row_of_calls, turn_row, answer_of}
use Rattle.schedule.specs.Values.{turn_values}
use Rattle.order.proofs.Lists.{Below}
use Rattle.schedule.proofs.Linked.Once.{Once}
use Rattle.schedule.proofs.Linked.Links.{walk_linked}
use Rattle.schedule.proofs.Runs.Histories.{calls_traced}
use Rattle.schedule.proofs.Runs.Values.{turn_values_lem}
use Rattle.bounds.proofs.Limit.{MemoryLimit, memory_limit}
use Rattle.bounds.proofs.ThreadLimit.{ThreadLimit, thread_limit_lem}
use Rattle.filling.specs.Filled.{filled_out}
use Rattle.filling.specs.Filling.{filled_into}
use Rattle.soundness.specs.Tested.{Filling, begin_found, begin_filling, begun_into}
use Rattle.soundness.proofs.Fillings.{given_runs, front_is_lem}
use Rattle.soundness.proofs.Chains.{never}
use Rattle.soundness.proofs.Noting.{parents_right}
use Rattle.array_machine.proofs.Starts.{alone, alone_linked, is_start}
use Rattle.table.specs.Load.{found_number}
use Rattle.run_memory.specs.Memory.{Memory, Answer, answer, lent_turn}
use Rattle.wivakkol.specs.Lent.{start_memory, lent_begun_as, lent_begin}
use Rattle.run_memory.specs.Stands.{truths, workers_from, run_in, Stands, values_row}
use Rattle.wivakkol.specs.Opened.{sound_in, blank_in, opened_in, opened_as, lent_open}
use Rattle.claims.specs.LentCalls.{LentCall, moving, opening, table_that_runs, returned, lent_move, lent_call, lent_row_of, lent_after, lent_returned, lent_row, moves_of}
use Rattle.claims.specs.Answers.{in_numbers, returned_by}
use Rattle.wivakkol.proofs.Opens.{open_record, open_refines, open_stands, opens_stands}
use Rattle.wivakkol.proofs.Numbered.{Numbered, begin_numbered, turn_numbered}
use Rattle.run_memory.proofs.Refines.{Turns, turn_refines}
use Rattle.wivakkol.proofs.RunAnswers.{values_run, list_answers, rounds_answers}

-- ---- a beginning

once_alone : Once (0 ∷ [])
unfolding Once
once_alone = ((λ m. Memᴰ.not-nil m), tt)

below_alone : Below no_thread (0 ∷ [])
below_alone x m = ⊎_elim (λ (e : x ≡ 0). omega (arith, e)) (λ (n : Memᴰ x []). absurd (Memᴰ.not-nil n)) (Memᴰ.cases_cons m)

-- the record that stands in the memory of a start
start_run_lem : (s : List ℕ) (p K : ℕ) → run_in s (start_memory s p K) ≡ start_run s p K
unfolding workers_from
start_run_lem s p K = is_start s p K refl refl

-- no check has the number 0, and neither has too little room
numbered : (f : Result ⊤ Refusal) (short : Bool) (bytes : ℕ) (M : Memory) → Numbered f → (lent_begun_as f short bytes M).number ≡ 0 → (f ≡ Ok tt) × (short ≡ false)
numbered (Ok _) true bytes M h e = absurd (omega (arith, e))
numbered (Ok _) false bytes M h e = (refl, refl)
numbered (Err x) short bytes M h e = let z : ◌≡◌ {A = Result ⊤ Refusal} (Err x) (Ok tt) = h e in no_way (cc)

module _ (s : List ℕ) (p K room : ℕ) where
  abbrev F : List ℕ
  F = filled_out s K

  module _ (e : (lent_begin s p K room).number ≡ 0) where
    abbrev r : Filling
    r = begin_filling s p K

    none : (r.found ≡ Ok tt) × (ltb room r.bytes ≡ false)
    unfolding lent_begin begin_filling
    none = numbered r.found (ltb room r.bytes) r.bytes (start_memory F p K) (begin_numbered s p K) e

    pub found_none : begin_found s p K ≡ Ok tt
    unfolding begin_filling
    found_none = none.0

    pub room_so : r.bytes ≤ room
    room_so = ltb-false room r.bytes none.1

    -- the run is begun, and its memory is the start's
    pub begun_so : begin s p K ≡ record { answer = Ok tt; run = run_in F (start_memory F p K) }
    unfolding begin
    begun_so = rw (found_none, start_run_lem F p K)

    pub answer_so : lent_begin s p K room ≡ answer 0 (0 ∷ r.bytes ∷ []) (start_memory F p K)
    unfolding lent_begin
    answer_so = rw (none.0, none.1)

    pub memory_so : (lent_begin s p K room).memory ≡ start_memory F p K
    memory_so = ap (λ (a : Answer). a.memory) answer_so

    steady : Steady (run_in F (start_memory F p K))
    unfolding after_calls
    steady = (calls_traced s p K (run_in F (start_memory F p K)) begun_so []).steady

    alone_list : walk no_thread alone.right alone.head ≡ 0 ∷ []
    alone_list = walk_linked alone.left alone.right alone.head (0 ∷ []) alone_linked once_alone below_alone

    pub start_stands : Stands F (start_memory F p K)
    unfolding actives truths all_below
    start_stands =
        record {
          steady = steady;
          parent = parents_right (table_of F) refl;
          second = subst (λ (l : List ℕ). LinkedAs alone (actives (set (replicate 1024 0) 0 1) l)) (sym alone_list) alone_linked;
          truth_values = refl;
          holds_size = refl;
          threads_size = refl;
          quotas_size = refl;
          turns_fit = omega arith;
        }

-- ---- lists of calls

-- a turn was taken where it was not refused
found_row : (f : Result ⊤ Refusal) → Numbered f → (r : Run) (k : ℕ) (d : Stepped) (w : ℕ) → pick (eqb (found_number f) 0) (w ∷ []) [] ≡ turn_row (turned_as f r k d).answer w
found_row (Ok _) h r k d w = refl
found_row (Err x) h r k d w = rw (ne_eqb x.number 0 (λ e. let z : ◌≡◌ {A = Result ⊤ Refusal} (Err x) (Ok tt) = h e in no_way (cc)))

turned_row : (r : Run) (w : ℕ) → pick (eqb (turn_values r w).number 0) (w ∷ []) [] ≡ turn_row (turned r w).answer w
unfolding turned turn_values
turned_row r w = found_row (try_at (turn_checks r w) 0) (turn_numbered r w) r (passed_in r w) (step_run r w) w

-- the turns that a report names
report_turns : (x : Report) → (report_values x).turns ≡ turns_in x
report_turns (Finished k) = refl
report_turns (Spent k) = refl
report_turns (Refused k x) = refl

pub row_turns : {row : List ℕ} (x : Report) → row ≡ values_run (report_values x) → get_or row 2 0 ≡ turns_in x
row_turns x e = ap (λ (l : List ℕ). get_or l 2 0) e ∙ report_turns x

-- a call is that call on the record, and the record after it stands
pub record CallRefines (s : List ℕ) (M : Memory) (c : Call) : Type 0 where
  pub record_after : run_in s (lent_move s c M).memory ≡ after_call c (run_in s M)
  pub answer : returned (lent_move s c M).number (lent_move s c M).row ≡ in_numbers (answer_of c (run_in s M))
  pub row : lent_row_of (moving c) M (lent_move s c M) ≡ row_of c (run_in s M)
  pub stands : Stands s (lent_move s c M).memory

pub call_refines : (s : List ℕ) (M : Memory) → Stands s M → (c : Call) → CallRefines s M c
unfolding lent_move lent_row_of after_call row_of
call_refines s M h (turn w) =
    let t : Turns s M w (lent_turn s w M) = turn_refines s M h w in
    record {
      record_after = t.record_after;
      answer = (λ i. returned (t.number i) (t.row i)) ∙ ap (λ (v : Values). returned v.number (values_row v)) (sym (turn_values_lem (run_in s M) w));
      row = ap (λ (n : ℕ). pick (eqb n 0) (w ∷ []) []) t.number ∙ turned_row (run_in s M) w;
      stands = t.stands;
    }
call_refines s M h (over_list l) =
    let t = list_answers s M h l in
    record {
      record_after = t.record_after;
      answer = λ i. returned (t.number i) (t.row i);
      row = ap (λ (n : ℕ). take n l) (row_turns (list_run (run_in s M) l).report t.row);
      stands = t.stands;
    }
call_refines s M h (in_rounds limit) =
    let t = rounds_answers s M h limit in
    record {
      record_after = t.record_after;
      answer = λ i. returned (t.number i) (t.row i);
      row = ap (firsts (λ i. i % (get_or M.settings 0 0)) 0) (row_turns (rounds_run (run_in s M) limit).report t.row);
      stands = t.stands;
    }

-- the row of an opening has the place of a refusal, which is 0
pub open_row : (s : List ℕ) (M : Memory) → (lent_open s M).row ≡ 0 ∷ []
unfolding lent_open
open_row s M = go (sound_in s M) (blank_in M)
  where
    go : (x y : Bool) → (opened_as x y s M).row ≡ 0 ∷ []
    go true y = refl
    go false true = refl
    go false false = refl

-- what a list of calls leaves and returns: it is those of them that move the run, on the record, and the record after it stands
pub record Refines (s : List ℕ) (M : Memory) (l : List LentCall) : Type 0 where
  pub record_after : run_in s (lent_after s l M) ≡ after_calls (moves_of l) (run_in s M)
  pub answers : lent_returned s l M ≡ returned_by l (run_in s M)
  pub row : lent_row s l M ≡ row_of_calls (moves_of l) (run_in s M)
  pub stands : Stands s (lent_after s l M)

pub calls_refine : (s : List ℕ) (M : Memory) → Stands s M → (l : List LentCall) → Refines s M l
unfolding lent_after lent_returned lent_row lent_call lent_row_of moves_of returned_by after_calls row_of_calls
calls_refine s M h [] = record { record_after = refl; answers = refl; row = refl; stands = h }
calls_refine s M h (moving c ∷ l) =
    let t = call_refines s M h c in
    let d : Refines s (lent_move s c M).memory l = calls_refine s (lent_move s c M).memory t.stands l in
    record {
      record_after = d.record_after ∙ ap (after_calls (moves_of l)) t.record_after;
      answers = ap₂ ◌∷◌ t.answer (d.answers ∙ ap (returned_by l) t.record_after);
      row = ap₂ ◌++◌ t.row (d.row ∙ ap (row_of_calls (moves_of l)) t.record_after);
      stands = d.stands;
    }
calls_refine s M h (opening ∷ l) =
    let d : Refines s (lent_open s M).memory l = calls_refine s (lent_open s M).memory (opens_stands s M h) l in
    record {
      record_after = d.record_after ∙ ap (after_calls (moves_of l)) (open_record s M);
      answers = ap₂ ◌∷◌ (λ i. returned (open_refines s M h i) (open_row s M i)) (d.answers ∙ ap (returned_by l) (open_record s M));
      row = d.row ∙ ap (row_of_calls (moves_of l)) (open_record s M);
      stands = d.stands;
    }

-- From opening on, however the record came into the memory: where it answers 0 and the record is not the blank one, every list of calls is that list on the record as it stood, and the record
-- after it stands.
pub open_refine : (s : List ℕ) (M : Memory) → length M.holds ≡ max_workers → length M.threads ≡ max_workers → length M.quotas ≡ max_workers → (lent_open s M).number ≡ 0
    → blank_in M ≡ false → (l : List LentCall) → Refines s (lent_open s M).memory l
unfolding lent_open
open_refine s M a b c = go (sound_in s M) refl (blank_in M)
  where
    go : (x : Bool) → sound_in s M ≡ x → (y : Bool) → (opened_as x y s M).number ≡ 0 → y ≡ false → (l : List LentCall) → Refines s (opened_as x y s M).memory l
    go true e y n f l = calls_refine s (opened_in s M) (open_stands s M a b c e) l
    go false e true n f l = never (sym f)
    go false e false n f l = absurd (omega (arith, n))

-- ---- from a beginning on

-- The table that runs, after a beginning that answered 0 with the buffer it leaves, is the filled-out one.
pub runs_filled : (s : List ℕ) (p K : ℕ) (out : List ℕ) → (lent_begin s p K (length out)).number ≡ 0
    → table_that_runs s (lent_begin s p K (length out)) (begun_into s p K out) ≡ filled_out s K
unfolding table_that_runs
runs_filled s p K out e = rw (answer_so s p K (length out) e) (go (eqb (begin_filling s p K).bytes 0) refl)
  where
    go : (q : Bool) → eqb (begin_filling s p K).bytes 0 ≡ q → pick q s (take (begin_filling s p K).bytes (begun_into s p K out)) ≡ filled_out s K
    go true d = sym (given_runs s p K out (begin_filling s p K) refl (none s p K (length out) e).0 (eqb-true (begin_filling s p K).bytes 0 d))
    go false d =
        front_is_lem s p K out (begin_filling s p K) refl (none s p K (length out) e).0 (eqb-false (begin_filling s p K).bytes 0 d) (room_so s p K (length out) e) (begun_into s p K out)
        (rw (found_none s p K (length out) e))

module _ (s : List ℕ) (p K room : ℕ) (e : (lent_begin s p K room).number ≡ 0) where
  -- the record of document 01's beginning stands in its memory, with the filled-out table
  pub begun_stands : Stands (filled_out s K) (lent_begin s p K room).memory
  begun_stands = subst (λ (M : Memory). Stands (filled_out s K) M) (sym (memory_so s p K room e)) (start_stands s p K room e)

  pub begun_there : begin s p K ≡ record { answer = Ok tt; run = run_in (filled_out s K) (lent_begin s p K room).memory }
  begun_there = begun_so s p K room e ∙ ap (λ (M : Memory). record { answer = Ok tt; run = run_in (filled_out s K) M }) (sym (memory_so s p K room e))

  pub begun_record : begin s p K ≡ record { answer = Ok tt; run = (begin s p K).run }
  begun_record = begun_there ∙ (λ i. record { answer = Ok tt; run = sym (ap (λ (x : Begun). x.run) begun_there) i })

  module _ (l : List LentCall) where
    abbrev left : Run
    left = run_in (filled_out s K) (lent_after (filled_out s K) l (lent_begin s p K room).memory)

    abbrev row : List ℕ
    row = lent_row (filled_out s K) l (lent_begin s p K room).memory

    holds : (P : Run → List ℕ → Type 0)
        → P (after_calls (moves_of l) (run_in (filled_out s K) (lent_begin s p K room).memory)) (row_of_calls (moves_of l) (run_in (filled_out s K) (lent_begin s p K room).memory)) → P left row
    holds P g =
        let c = calls_refine (filled_out s K) (lent_begin s p K room).memory begun_stands l in
        subst (λ (x : Run). P x row) (sym c.record_after) (subst (λ (x : List ℕ). P (after_calls (moves_of l) (run_in (filled_out s K) (lent_begin s p K room).memory)) x) (sym c.row) g)

    -- Demand 3 in lent memory: a beginning answered 0, and any list of calls followed, refused ones included
    pub lent_limit : (most : ℕ) → 1 ≤ most → MemoryLimit (table_of (filled_out s K)) p K most left row
    lent_limit most g = holds (MemoryLimit (table_of (filled_out s K)) p K most) (memory_limit s p K _ begun_there most g (moves_of l))

    -- and N2's limit on the threads in the list
    pub lent_threads : (most : ℕ) → 1 ≤ most → ThreadLimit (table_of (filled_out s K)) p K most left row
    lent_threads most g = holds (ThreadLimit (table_of (filled_out s K)) p K most) (thread_limit_lem s p K _ begun_there most g (moves_of l))
