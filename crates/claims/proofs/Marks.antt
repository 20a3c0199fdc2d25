-- Marks (N11): the limits on memory, on threads and on turns over every list of calls with marks in it from a beginning, with the turns that led to the mark and those since.
use Rattle.std.specs.Prelude.{Err, Ok, Result, ⊤}
use Rattle.table.specs.declared.Refusal.{Refusal}
use mathlib.Core.Path.{◌≡◌, refl, sym, ap, ap₂, subst, ◌∙◌}
use Prim.Native.Nat.{ℕ, ◌≤◌}
use mathlib.Core.List.{List, [], ◌∷◌}
use Rattle.table.specs.Format.{Table, table_of}
use Rattle.table.specs.Pass.{try_at}
use Rattle.order.specs.Turns.{turns_of}
use Rattle.filling.specs.Filled.{filled_out}
use Rattle.schedule.specs.declared.Run.{Run}
use Rattle.schedule.specs.declared.Begun.{Begun}
use Rattle.schedule.specs.Begin.{begin, start_state}
use Rattle.schedule.specs.Calls.{Call, after_calls, row_of_calls, Answer}
use Rattle.schedule.specs.Memory.{replies}
use Rattle.schedule.specs.Most.{not_idle}
use Rattle.bounds.proofs.Limit.{MemoryLimit, memory_limit}
use Rattle.bounds.proofs.ThreadLimit.{ThreadLimit, thread_limit_lem}
use Rattle.bounds.proofs.Most.{turns_most}
use Rattle.bounds.proofs.PeakLimit.{PeakLimit, UsefulLimit, peak_limit, useful_limit_lem}
use Rattle.sharp.proofs.QuotaLimit.{EveryOrder, every_order}
use Rattle.marks.specs.Marks.{Mark, Marked, marked, unmarked, set_checks, back_checks, MarkValues, set_values, back_values, set_as, back_as, MarkCall, moving, setting, going, after_mark, after_marks, Led, led_to, nowhere, row_of_marks, row_by, number_of, turns_by, turns_to}
use Rattle.marks.proofs.Marked.{marked_follows}
use Rattle.marks.proofs.Turns.{turns_led_to}
use Rattle.claims.specs.MarkAnswers.{MarkAnswer, moved, values, mark_answer_of, mark_answers_of}
use Rattle.claims.proofs.ByValue as by_value
use Rattle.claims.proofs.ByValue.{BeginSays, Called, begin_is}

-- ---- on the definitions

module _ (s : List ℕ) (p K : ℕ) (r : Run) (e : begin s p K ≡ record { answer = Ok tt; run = r }) (cs : List MarkCall) where
  abbrev T : Table
  T = table_of (filled_out s K)

  -- what holds of every list of calls from the beginning holds with marks among them
  holds : (P : Run → List ℕ → Type 0) → ((calls : List Call) → P (after_calls calls r) (row_of_calls calls r)) → P (after_marks cs (unmarked r)).run (row_of_marks cs r)
  unfolding row_of_marks
  holds P g =
      let calls : List Call = (led_to cs (unmarked r) nowhere).here in
      subst (λ (q : Run). P q (row_of_calls calls r)) (sym (marked_follows r cs).run) (g calls)

  -- "After going back, the memory and thread limits and N8's count concern the turns that led to the mark and those since."
  pub marked_limit : (b : ℕ) → 1 ≤ b → MemoryLimit T p K b (after_marks cs (unmarked r)).run (row_of_marks cs r)
  marked_limit b g = holds (MemoryLimit T p K b) (memory_limit s p K r e b g)

  pub marked_threads : (b : ℕ) → 1 ≤ b → ThreadLimit T p K b (after_marks cs (unmarked r)).run (row_of_marks cs r)
  marked_threads b g = holds (ThreadLimit T p K b) (thread_limit_lem s p K r e b g)

  pub marked_turns : not_idle (replies T K (start_state T) (row_of_marks cs r)) ≤ turns_of T
  marked_turns = holds (λ (q : Run) (row : List ℕ). not_idle (replies T K (start_state T) row) ≤ turns_of T) (turns_most s p K r e)

  -- and so do the peak of p workers, the useful limit and the limits for every order
  pub marked_peak : PeakLimit T p K (after_marks cs (unmarked r)).run (row_of_marks cs r)
  marked_peak = holds (PeakLimit T p K) (peak_limit s p K r e)

  pub marked_useful : (b : ℕ) → UsefulLimit T p K b (after_marks cs (unmarked r)).run (row_of_marks cs r)
  marked_useful b = holds (UsefulLimit T p K b) (λ calls. useful_limit_lem s p K r e calls b)

  pub marked_every_order : EveryOrder T p K (after_marks cs (unmarked r)).run (row_of_marks cs r)
  marked_every_order = holds (EveryOrder T p K) (every_order s p K r e)

-- ---- by value, from what the functions promise

-- setting mark i beside the run answered v and left the marks l
pub record SetSays (m : Marked) (i : ℕ) (v : MarkValues) (l : List Mark) : Type 0 where
  pub values : v ≡ set_values m i
  pub marks : l ≡ (set_as (try_at (set_checks m i) 0) i m).marks

-- going back to mark i answered v and gave the run r
pub record BackSays (m : Marked) (i : ℕ) (v : MarkValues) (r : Run) : Type 0 where
  pub values : v ≡ back_values m i
  pub run : r ≡ (back_as (try_at (back_checks m i) 0) i m).run

-- one call on a run with marks: its answer, the row of its turns as the answer has it, and the run with its marks after. A call that moves the run is not lent the marks; setting a mark takes
-- the run as it is, and going back only reads the marks.
pub data MarkCalled (m : Marked) : MarkCall → MarkAnswer → List ℕ → Marked → Type 0 where
  by_call : {c : Call} {x : Answer} {row : List ℕ} {r : Run} → Called m.run c x row r → MarkCalled m (moving c) (moved x) row (marked r m.marks)
  by_set : {i : ℕ} {v : MarkValues} {l : List Mark} → SetSays m i v l → MarkCalled m (setting i) (values v) [] (marked m.run l)
  by_back : {i : ℕ} {v : MarkValues} {r : Run} → BackSays m i v r → MarkCalled m (going i) (values v) [] (marked r m.marks)

-- the number that it answered; of a call that moves the run none is looked at
abbrev pub number_in : MarkAnswer → ℕ
number_in (moved x) = 0
number_in (values v) = v.number

-- calls one after the other: their answers, the turns that led to the run and to its marks, as the answers have it, and the run with its marks that they leave
pub data MarkHistory : Marked → Led ℕ → List MarkCall → List MarkAnswer → Marked → Led ℕ → Type 0 where
  none : {m : Marked} {w : Led ℕ} → MarkHistory m w [] [] m w
  next : {m m' m'' : Marked} {w w' : Led ℕ} {c : MarkCall} {x : MarkAnswer} {row : List ℕ} {cs : List MarkCall} {xs : List MarkAnswer}
      → MarkCalled m c x row m' → MarkHistory m' (turns_by c row (number_in x) w) cs xs m'' w' → MarkHistory m w (c ∷ cs) (x ∷ xs) m'' w'

-- it is the definitions'
pub record MarkDefined (m : Marked) (w : Led ℕ) (cs : List MarkCall) (xs : List MarkAnswer) (m' : Marked) (w' : Led ℕ) : Type 0 where
  pub left_is : m' ≡ after_marks cs m
  pub answers_are : xs ≡ mark_answers_of cs m
  pub turns_are : w' ≡ turns_to cs m w

pub record DefinedCall (m : Marked) (c : MarkCall) (x : MarkAnswer) (row : List ℕ) (m' : Marked) : Type 0 where
  pub left_is : m' ≡ after_mark c m
  pub answer_is : x ≡ mark_answer_of c m
  pub number_is : number_in x ≡ number_of c m
  pub row_is : row ≡ row_by c m

pub call_is : {m : Marked} {c : MarkCall} {x : MarkAnswer} {row : List ℕ} {m' : Marked} → MarkCalled m c x row m' → DefinedCall m c x row m'
unfolding after_mark
call_is {m} (by_call h) =
    let d = by_value.call_is h in
    record { left_is = ap (λ (q : Run). marked q m.marks) d.record_is; answer_is = ap moved d.answer_is; number_is = refl; row_is = d.row_is }
call_is {m} (by_set {i} h) =
    record {
      left_is = ap (marked m.run) h.marks ∙ set_run (try_at (set_checks m i) 0);
      answer_is = ap values h.values;
      number_is = ap (λ (v : MarkValues). v.number) h.values;
      row_is = refl;
    }
  where
    set_run : (f : Result ⊤ Refusal) → marked m.run (set_as f i m).marks ≡ set_as f i m
    set_run (Ok _) = refl
    set_run (Err x) = refl
call_is {m} (by_back {i} h) =
    record {
      left_is = ap (λ (q : Run). marked q m.marks) h.run ∙ back_marks (try_at (back_checks m i) 0);
      answer_is = ap values h.values;
      number_is = ap (λ (v : MarkValues). v.number) h.values;
      row_is = refl;
    }
  where
    back_marks : (f : Result ⊤ Refusal) → marked (back_as f i m).run m.marks ≡ back_as f i m
    back_marks (Ok _) = refl
    back_marks (Err x) = refl

pub mark_history_is : {m : Marked} {w : Led ℕ} {cs : List MarkCall} {xs : List MarkAnswer} {m' : Marked} {w' : Led ℕ} → MarkHistory m w cs xs m' w' → MarkDefined m w cs xs m' w'
unfolding after_marks mark_answers_of turns_to
mark_history_is none = record { left_is = refl; answers_are = refl; turns_are = refl }
mark_history_is (next {m} {m'} {m''} {w} {w'} {c} {x} {row} {cs} {xs} h t) =
    let a = call_is h in
    let b = mark_history_is t in
    record {
      left_is = b.left_is ∙ ap (after_marks cs) a.left_is;
      answers_are = ap₂ ◌∷◌ a.answer_is (b.answers_are ∙ ap (mark_answers_of cs) a.left_is);
      turns_are = b.turns_are ∙ (λ i. turns_to cs (a.left_is i) (turns_by c (a.row_is i) (a.number_is i) w));
    }

-- every list of calls has one
called : (m : Marked) (c : MarkCall) → MarkCalled m c (mark_answer_of c m) (row_by c m) (after_mark c m)
unfolding after_mark
called m (moving c) = by_call (by_value.called m.run c)
called m (setting i) = go (try_at (set_checks m i) 0) (by_set (record { values = refl; marks = refl }))
  where
    go : (f : Result ⊤ Refusal) → MarkCalled m (setting i) (values (set_values m i)) [] (marked m.run (set_as f i m).marks) → MarkCalled m (setting i) (values (set_values m i)) [] (set_as f i m)
    go (Ok _) h = h
    go (Err x) h = h
called m (going i) = go (try_at (back_checks m i) 0) (by_back (record { values = refl; run = refl }))
  where
    go : (f : Result ⊤ Refusal) → MarkCalled m (going i) (values (back_values m i)) [] (marked (back_as f i m).run m.marks) → MarkCalled m (going i) (values (back_values m i)) [] (back_as f i m)
    go (Ok _) h = h
    go (Err x) h = h

number_answered : (c : MarkCall) (m : Marked) → number_in (mark_answer_of c m) ≡ number_of c m
number_answered (moving c) m = refl
number_answered (setting i) m = refl
number_answered (going i) m = refl

pub mark_history_exists : (m : Marked) (w : Led ℕ) (cs : List MarkCall) → MarkHistory m w cs (mark_answers_of cs m) (after_marks cs m) (turns_to cs m w)
unfolding after_marks mark_answers_of turns_to
mark_history_exists m w [] = none
mark_history_exists m w (c ∷ cs) =
    let v : Led ℕ = turns_by c (row_by c m) (number_of c m) w in
    next (called m c)
    (subst (λ (n : ℕ). MarkHistory (after_mark c m) (turns_by c (row_by c m) n w) cs (mark_answers_of cs (after_mark c m)) (after_marks cs (after_mark c m)) (turns_to cs (after_mark c m) v))
    (sym (number_answered c m)) (mark_history_exists (after_mark c m) v cs))

-- Beginning accepted the bytes, p and K; no mark was set; the calls of any history with marks followed. Both limits and the count of turns hold of the run that they left, with the turns that
-- led to it as the answers have it.
module _ {s : List ℕ} {p K : ℕ} {b : Begun} (h : BeginSays s p K b) (e : b.answer ≡ Ok tt) {cs : List MarkCall} {xs : List MarkAnswer} {m : Marked} {w : Led ℕ}
    (t : MarkHistory (unmarked b.run) nowhere cs xs m w) where
  begun : begin s p K ≡ record { answer = Ok tt; run = b.run }
  begun = sym (begin_is h) ∙ (λ i. record { answer = e i; run = b.run })

  history_holds : (P : Run → List ℕ → Type 0) → P (after_marks cs (unmarked b.run)).run (row_of_marks cs b.run) → P m.run w.here
  history_holds P g =
      let d = mark_history_is t in
      subst (λ (q : Marked). P q.run w.here) (sym d.left_is)
      (subst (P (after_marks cs (unmarked b.run)).run) (sym (ap (λ (x : Led ℕ). x.here) d.turns_are ∙ turns_led_to b.run cs)) g)

  pub promised_limit : (most : ℕ) → 1 ≤ most → MemoryLimit (table_of (filled_out s K)) p K most m.run w.here
  promised_limit most g = history_holds (MemoryLimit (table_of (filled_out s K)) p K most) (marked_limit s p K b.run begun cs most g)

  pub promised_threads : (most : ℕ) → 1 ≤ most → ThreadLimit (table_of (filled_out s K)) p K most m.run w.here
  promised_threads most g = history_holds (ThreadLimit (table_of (filled_out s K)) p K most) (marked_threads s p K b.run begun cs most g)

  pub promised_turns : not_idle (replies (table_of (filled_out s K)) K (start_state (table_of (filled_out s K))) w.here) ≤ turns_of (table_of (filled_out s K))
  promised_turns =
      history_holds (λ (q : Run) (row : List ℕ). not_idle (replies (table_of (filled_out s K)) K (start_state (table_of (filled_out s K))) row) ≤ turns_of (table_of (filled_out s K)))
      (marked_turns s p K b.run begun cs)

  pub promised_peak : PeakLimit (table_of (filled_out s K)) p K m.run w.here
  promised_peak = history_holds (PeakLimit (table_of (filled_out s K)) p K) (marked_peak s p K b.run begun cs)

  pub promised_useful : (most : ℕ) → UsefulLimit (table_of (filled_out s K)) p K most m.run w.here
  promised_useful most = history_holds (UsefulLimit (table_of (filled_out s K)) p K most) (marked_useful s p K b.run begun cs most)

  pub promised_every_order : EveryOrder (table_of (filled_out s K)) p K m.run w.here
  promised_every_order = history_holds (EveryOrder (table_of (filled_out s K)) p K) (marked_every_order s p K b.run begun cs)
