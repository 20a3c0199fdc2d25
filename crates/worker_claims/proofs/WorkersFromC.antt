-- Real memory for the calls from C, as docs/WORKERS.md has them: each turn is a call of `wivakkol_turn_on` on the memory that the last one left; where it says done, `wivakkol_kind` and
-- `wivakkol_argument` say what its worker does. Nothing is known but their promises. `lent_worked_is`: what stands in memory, real memory and the row of turns are those of the definitions.
-- `lent_worked_exists`: every list of events that keeps the rule has one, and so from a beginning every row of turns (`lent_turns_worked_exist`). `lent_code_real_memory`: and so all that
-- crates/workers says of real memory holds.
use Rattle.std.specs.Prelude.{Err, Ok, Result, ⊤}
use Rattle.schedule.specs.declared.Taken.{Taken}
use Rattle.schedule.specs.Turn.{taken_turn}
use Rattle.table.specs.declared.Refusal.{Refusal}
use mathlib.Core.Path.{◌≡◌, refl, sym, ap, ap₂, subst, ◌∙◌}
use Prim.Native.Nat.{ℕ, ◌<◌}
use native.Mathlib.Decide.{ℕ_discrete}
use mathlib.Core.List.{List, [], ◌∷◌, ◌++◌}
use lib.Dec.{eqb}
use lib.ListN.{length}
use Rattle.table.specs.Sum.{pick}
use Rattle.table.specs.Format.{kind_of, table_of}
use Rattle.table.specs.Pass.{try_at}
use Rattle.table.proofs.Tests.{no_way}
use Rattle.table.proofs.Trying.{try_at_nothing}
use Rattle.filling.specs.Filled.{filled_out}
use Rattle.order.proofs.Lists.{filled_front}
use Rattle.schedule.specs.declared.Run.{Run}
use Rattle.schedule.specs.declared.Begun.{Begun}
use Rattle.schedule.specs.declared.Reply.{Reply}
use Rattle.schedule.specs.declared.Reply.TheVariants.{Done}
use Rattle.schedule.specs.Machine.{Stepped}
use Rattle.schedule.specs.Record.{max_bytes, table_in, state_of}
use Rattle.schedule.specs.Begin.{begin}
use Rattle.schedule.specs.Sound.{Steady}
use Rattle.schedule.specs.Turn.{no_worker, turn_checks, step_run, passed_in, turned_as, turned}
use Rattle.schedule.specs.Calls.{after_call, row_of_calls}
use Rattle.schedule.specs.Calls.{turn as turn_call}
use Rattle.schedule.specs.Answers.{turning_values}
use Rattle.schedule.proofs.Stores.{steady_lawful, steady_fits, steady_facts}
use Rattle.schedule.proofs.Bounds.Tries.{Turned, idles, tries}
use Rattle.schedule.proofs.Bounds.Tries.{turned as tried}
use borrow.Author.Tests.{ltb-true, not-false}
use Rattle.run_memory.specs.Memory.{Memory, Answer, lent_turn}
use Rattle.run_memory.specs.Stands.{run_in, Stands, values_row}
use Rattle.soundness.specs.Tested.{begun_into}
use Rattle.wivakkol.specs.Lent.{lent_begin}
use Rattle.claims.specs.LentCalls.{moving, Returned, lent_move, lent_call, lent_row_of, table_that_runs}
use Rattle.claims.proofs.LentSays.{BeginSays, TurnSays, begin_is, turn_is, begin_says, turn_says}
use Rattle.claims.proofs.LentLimit.{CallRefines, call_refines, begun_there, begun_stands}
use Rattle.claims.proofs.FromC.{runs_so}
use Rattle.claims.proofs.Shaped.{Shaped}
use Rattle.claims.proofs.Sizes.{begin_shaped, call_shaped}
use Rattle.workers.specs.Real.{Effect, nothing, effect_by, none, Real, no_memory, by_turn, by_work}
use Rattle.workers.specs.Workers.{Event, turn, work, Workers, starting, effect_in, after_event, after_events, MayCome, Orderly, calls_of, in_turn}
use Rattle.workers.proofs.RealMemory.{RealMemory, real_memory, taken_reply}
use Rattle.workers.proofs.InTurn.{in_turn_orderly}
use Rattle.worker_claims.proofs.ActionSays.{KindSays, ArgumentSays, kind_is, argument_is, kind_says, argument_says, said_in, thread_in, action_in, read_in, refused_silent, done_read, other_nothing}
use Rattle.worker_claims.proofs.WorkersByValue.{DefinedWork}
use Rattle.schedule.proofs.Runs.Values.{reply_number}

-- ---- events

abbrev pub taken_row : Answer → ℕ → List ℕ
taken_row a w = pick (eqb a.number 0) (w ∷ []) []

-- on memory M, given table u, with m really held: a turn only where nothing is pending for its worker
pub data LentWorked (u : List ℕ) : Memory → Real → List Event → List ℕ → Memory → Real → Type 0 where
  over : {M : Memory} {m : Real} → LentWorked u M m [] [] M m
  -- the turn says done, and its worker asks for the action's kind and argument
  by_done : {M N : Memory} {m n : Real} {l : List Event} {row : List ℕ} {a : Answer} {k x : ℕ} (w : ℕ) → m.pending w ≡ none → TurnSays u w M a → a.number ≡ 0 → said_in a ≡ 2
      → KindSays u (action_in a) k → ArgumentSays u (action_in a) x → LentWorked u a.memory (by_turn (effect_by (kind_of k) (thread_in a) x) w m) l row N n
      → LentWorked u M m (turn w ∷ l) (taken_row a w ++ row) N n
  -- it is refused, or says something else
  by_other : {M N : Memory} {m n : Real} {l : List Event} {row : List ℕ} {a : Answer} (w : ℕ) → m.pending w ≡ none → TurnSays u w M a → (a.number ≡ 0 → said_in a ≡ 2 → ⊥)
      → LentWorked u a.memory m l row N n → LentWorked u M m (turn w ∷ l) (taken_row a w ++ row) N n
  by_work_lem : {M N : Memory} {m n : Real} {l : List Event} {row : List ℕ} (w : ℕ) → LentWorked u M (by_work (m.pending w) w m) l row N n → LentWorked u M m (work w ∷ l) row N n

-- what stands in memory, and real memory
abbrev pub standing : List ℕ → Memory → Real → Workers
standing u M m = record { run = run_in u M; real = m }

-- ---- the effect of a turn is the one read from its row

-- an action that is said to be done is one of the table's
action_there : (r : Run) → Steady r → (w t a k : ℕ) → (turned r w).answer ≡ taken_turn (Done t a) k → a < (table_in r).actions
unfolding turned step_run turn_checks no_worker
action_there r h w t a k q = go (try_at (turn_checks r w) 0) refl q
  where
    at : {s : Stepped} → Turned (table_in r) r.quota w (state_of r) s → s.reply ≡ Done t a → a < (table_in r).actions
    at (idles i z n u v) e = no_way (cc)
    at (tries t' a' x) e = rw (x.acted.answers t a e) x.within

    go : (f : Result ⊤ Refusal) → try_at (turn_checks r w) 0 ≡ f → (turned_as f r (passed_in r w) (step_run r w)).answer ≡ taken_turn (Done t a) k → a < (table_in r).actions
    go (Ok _) e i =
        let b : w < r.workers = ltb-true w r.workers (not-false _ ((try_at_nothing (turn_checks r w) 0).0 e).1.0) in
        at (tried (table_in r) (steady_lawful r h) r.workers r.quota (steady_fits r h).few_workers w b (state_of r) (steady_facts r h)) (taken_reply (step_run r w).reply (Done t a) (passed_in r w) k i)
    go (Err y) e i = no_way (cc)

module _ (u : List ℕ) (M : Memory) (h : Stands u M) (w : ℕ) where
  table_is : table_in (run_in u M) ≡ table_of u
  table_is = ap table_of (filled_front max_bytes u)

  step : CallRefines u M (turn_call w)
  step = call_refines u M h (turn_call w)

  number_is : (lent_turn u w M).number ≡ (turning_values (turned (run_in u M) w).answer).number
  unfolding lent_move
  number_is = ap (λ (x : Returned). x.number) step.answer

  row_so : (lent_turn u w M).row ≡ values_row (turning_values (turned (run_in u M) w).answer)
  unfolding lent_move
  row_so = ap (λ (x : Returned). x.row) step.answer

  done_effect : said_in (lent_turn u w M) ≡ 2 → read_in u (lent_turn u w M) ≡ effect_in (table_in (run_in u M)) (turned (run_in u M) w).answer
  done_effect = go (turned (run_in u M) w).answer refl row_so
    where
      go : (x : Result Taken Refusal) → (turned (run_in u M) w).answer ≡ x → (lent_turn u w M).row ≡ values_row (turning_values x) → said_in (lent_turn u w M) ≡ 2
          → read_in u (lent_turn u w M) ≡ effect_in (table_in (run_in u M)) x
      go (Ok y) e r q =
          let there : (t a : ℕ) → y.reply ≡ Done t a → a < (table_of u).actions =
          λ t a i. rw table_is at (action_there (run_in u M) h.steady w t a y.passed (e ∙ ap (λ (z : Reply). taken_turn z y.passed) i)) in
          rw table_is (done_read u y.reply y.passed (lent_turn u w M) r q there)
      go (Err y) e r q = absurd (refused_silent y (lent_turn u w M) r q)

  other_effect : ((lent_turn u w M).number ≡ 0 → said_in (lent_turn u w M) ≡ 2 → ⊥) → nothing ≡ effect_in (table_in (run_in u M)) (turned (run_in u M) w).answer
  other_effect n = go (turned (run_in u M) w).answer number_is row_so
    where
      go : (x : Result Taken Refusal) → (lent_turn u w M).number ≡ (turning_values x).number → (lent_turn u w M).row ≡ values_row (turning_values x) → nothing ≡ effect_in (table_in (run_in u M)) x
      go (Ok t) i r = other_nothing (table_in (run_in u M)) t.reply t.passed (lent_turn u w M) r (n (i ∙ reply_number t.reply))
      go (Err y) i r = refl

  module _ (m : Real) where
    -- with the effect read, what stands after the turn is the event's
    event_is : (e : Effect) → e ≡ effect_in (table_in (run_in u M)) (turned (run_in u M) w).answer
        → standing u (lent_turn u w M).memory (by_turn e w m) ≡ after_event (turn w) (standing u M m)
    unfolding after_event lent_move after_call
    event_is e q = λ i. record { run = step.record_after i; real = by_turn (q i) w m }

    -- and the row of turns goes on
    goes_on : (n : m.pending w ≡ none) (e : Effect) → e ≡ effect_in (table_in (run_in u M)) (turned (run_in u M) w).answer → {l : List Event} {row : List ℕ} {z : Workers}
        → DefinedWork (standing u (lent_turn u w M).memory (by_turn e w m)) l row z → DefinedWork (standing u M m) (turn w ∷ l) (taken_row (lent_turn u w M) w ++ row) z
    unfolding Orderly MayCome after_events row_of_calls calls_of lent_move lent_row_of after_event after_call
    goes_on n e q {l} {row} {z} d =
        let s = event_is e q in
        record {
          orderly = (n, subst (Orderly l) s d.orderly);
          row_is = ap₂ ◌++◌ step.row (d.row_is ∙ ap (λ (x : Workers). row_of_calls (calls_of l) x.run) s);
          state_is = d.state_is ∙ ap (after_events l) s;
        }

-- ---- they are the definitions'

stands_after : (u : List ℕ) (M : Memory) → Stands u M → (w : ℕ) → Stands u (lent_turn u w M).memory
unfolding lent_move
stands_after u M h w = (call_refines u M h (turn_call w)).stands

pub lent_worked_is : {u : List ℕ} {M N : Memory} {m n : Real} {l : List Event} {row : List ℕ} → Stands u M → LentWorked u M m l row N n
    → DefinedWork (standing u M m) l row (standing u N n)
unfolding Orderly MayCome after_events after_event row_of_calls calls_of
lent_worked_is h over = record { orderly = tt; row_is = refl; state_is = refl }
lent_worked_is {u} h (by_done {M} {N} {m} {n} {l} {row} {a} {k} {x} w free says number said kinds arguments t) =
    let e : a ≡ lent_turn u w M = turn_is says in
    let i : DefinedWork (standing u a.memory (by_turn (effect_by (kind_of k) (thread_in a) x) w m)) l row (standing u N n) =
    lent_worked_is (subst (λ (y : Answer). Stands u y.memory) (sym e) (stands_after u M h w)) t in
    let q : effect_by (kind_of k) (thread_in a) x ≡ read_in u a =
    rw (kind_is kinds, argument_is arguments) in
    let b : effect_by (kind_of k) (thread_in a) x ≡ effect_in (table_in (run_in u M)) (turned (run_in u M) w).answer =
    q ∙ rw e (done_effect u M h w (rw e at said)) in
    subst (λ (y : Answer). DefinedWork (standing u M m) (turn w ∷ l) (taken_row y w ++ row) (standing u N n)) (sym e)
    (goes_on u M h w m free _ b (subst (λ (y : Answer). DefinedWork (standing u y.memory (by_turn (effect_by (kind_of k) (thread_in a) x) w m)) l row (standing u N n)) e i))
lent_worked_is {u} h (by_other {M} {N} {m} {n} {l} {row} {a} w free says other t) =
    let e : a ≡ lent_turn u w M = turn_is says in
    let i : DefinedWork (standing u a.memory m) l row (standing u N n) = lent_worked_is (subst (λ (y : Answer). Stands u y.memory) (sym e) (stands_after u M h w)) t in
    let b : nothing ≡ effect_in (table_in (run_in u M)) (turned (run_in u M) w).answer =
    other_effect u M h w (subst (λ (y : Answer). y.number ≡ 0 → said_in y ≡ 2 → ⊥) e other) in
    subst (λ (y : Answer). DefinedWork (standing u M m) (turn w ∷ l) (taken_row y w ++ row) (standing u N n)) (sym e)
    (goes_on u M h w m free nothing b (subst (λ (y : Answer). DefinedWork (standing u y.memory m) l row (standing u N n)) e i))
lent_worked_is {u} h (by_work_lem {M} {N} {m} {n} {l} {row} w t) =
    let i : DefinedWork (standing u M (by_work (m.pending w) w m)) l row (standing u N n) = lent_worked_is h t in
    record { orderly = (tt, i.orderly); row_is = i.row_is; state_is = i.state_is }

-- ---- every list of events that keeps the rule can come about

-- on the table and memory given: what it leaves
pub record LentEnd (u : List ℕ) (M : Memory) (m : Real) (l : List Event) : Type 0 where
  pub row : List ℕ
  pub memory : Memory
  pub real : Real
  pub worked : LentWorked u M m l row memory real

shaped_after : (u : List ℕ) (M : Memory) → Shaped M → (w : ℕ) → Shaped (lent_turn u w M).memory
unfolding lent_call lent_move
shaped_after u M h w = call_shaped u (moving (turn_call w)) M h

pub lent_worked_exists : (l : List Event) (u : List ℕ) (M : Memory) (m : Real) → Shaped M → Stands u M → Orderly l (standing u M m) → LentEnd u M m l
unfolding Orderly MayCome after_event
lent_worked_exists [] u M m k h o = record { row = []; memory = M; real = m; worked = over }
lent_worked_exists (work w ∷ l) u M m k h o =
    let i : LentEnd u M (by_work (m.pending w) w m) l = lent_worked_exists l u M (by_work (m.pending w) w m) k h o.1 in
    record { row = i.row; memory = i.memory; real = i.real; worked = by_work_lem w i.worked }
lent_worked_exists (turn w ∷ l) u M m k h o = go (ℕ_discrete a.number 0) (ℕ_discrete (said_in a) 2) (λ e q. lent_worked_exists l u a.memory (by_turn e w m) (shaped_after u M k w) (stands_after u M h w) (after e q))
  where
    a : Answer
    a = lent_turn u w M

    after : (e : Effect) → e ≡ effect_in (table_in (run_in u M)) (turned (run_in u M) w).answer → Orderly l (standing u a.memory (by_turn e w m))
    after e q = subst (Orderly l) (sym (event_is u M h w m e q)) o.1

    Next : Type 0
    Next = (e : Effect) → e ≡ effect_in (table_in (run_in u M)) (turned (run_in u M) w).answer → LentEnd u a.memory (by_turn e w m) l

    other : Next → (a.number ≡ 0 → said_in a ≡ 2 → ⊥) → LentEnd u M m (turn w ∷ l)
    other next n =
        let i : LentEnd u a.memory m l = next nothing (other_effect u M h w n) in
        record { row = taken_row a w ++ i.row; memory = i.memory; real = i.real; worked = by_other w o.0 (turn_says u w M k (shaped_after u M k w)) n i.worked }

    go : Dec (a.number ≡ 0) → Dec (said_in a ≡ 2) → Next → LentEnd u M m (turn w ∷ l)
    go (no n) d next = other next (λ e q. n e)
    go (yes e) (no n) next = other next (λ i q. n q)
    go (yes e) (yes d) next =
        let i = next (read_in u a) (done_effect u M h w d) in
        record {
          row = taken_row a w ++ i.row;
          memory = i.memory;
          real = i.real;
          worked = by_done w o.0 (turn_says u w M k (shaped_after u M k w)) e d (kind_says u (action_in a)) (argument_says u (action_in a)) i.worked;
        }

-- and so from a beginning that answers 0: it keeps its promise, and every list of events that keeps rule 4 on the record of document 01's beginning follows, given the table that runs
pub lent_begun_worked_exists : (s : List ℕ) (p K : ℕ) (out : List ℕ) → (lent_begin s p K (length out)).number ≡ 0 → (l : List Event) → Orderly l (starting (begin s p K).run)
    → BeginSays s p K out (lent_begin s p K (length out)) (begun_into s p K out)
    × LentEnd (table_that_runs s (lent_begin s p K (length out)) (begun_into s p K out)) (lent_begin s p K (length out)).memory no_memory l
lent_begun_worked_exists s p K out e l o =
    let a : Answer = lent_begin s p K (length out) in
    let h : BeginSays s p K out a (begun_into s p K out) = begin_says s p K out in
    let r : (begin s p K).run ≡ run_in (filled_out s K) a.memory = ap (λ (x : Begun). x.run) (begun_there s p K (length out) e) in
    let there : LentEnd (filled_out s K) a.memory no_memory l =
    lent_worked_exists l (filled_out s K) a.memory no_memory (begin_shaped s p K (length out)) (begun_stands s p K (length out) e) (subst (λ (x : Run). Orderly l (starting x)) r o) in
    (h, subst (λ (u : List ℕ). LentEnd u a.memory no_memory l) (sym (runs_so h e)) there)

-- for every row of turns
pub lent_turns_worked_exist : (s : List ℕ) (p K : ℕ) (out : List ℕ) → (lent_begin s p K (length out)).number ≡ 0 → (row : List ℕ)
    → BeginSays s p K out (lent_begin s p K (length out)) (begun_into s p K out)
    × LentEnd (table_that_runs s (lent_begin s p K (length out)) (begun_into s p K out)) (lent_begin s p K (length out)).memory no_memory (in_turn row)
lent_turns_worked_exist s p K out e row = lent_begun_worked_exists s p K out e (in_turn row) (in_turn_orderly row (starting (begin s p K).run) (λ w. refl))

-- ---- the limits

-- `wivakkol_begin_on` answered 0, and any events followed, given the table that runs
pub lent_code_real_memory : {s : List ℕ} {p K : ℕ} {out filled : List ℕ} {a : Answer} → BeginSays s p K out a filled → a.number ≡ 0
    → {l : List Event} {row : List ℕ} {N : Memory} {n : Real} → LentWorked (table_that_runs s a filled) a.memory no_memory l row N n
    → RealMemory (table_of (filled_out s K)) p K (standing (table_that_runs s a filled) N n) row
lent_code_real_memory {s} {p} {K} {out} {filled} {a} h e {l} {row} {N} {n} t =
    let F : List ℕ = filled_out s K in
    let begun : (lent_begin s p K (length out)).number ≡ 0 = ap (λ (x : Answer). x.number) (sym (begin_is h)) ∙ e in
    let M : Memory = (lent_begin s p K (length out)).memory in
    let here : a.memory ≡ M = ap (λ (x : Answer). x.memory) (begin_is h) in
    let t' : LentWorked F M no_memory l row N n =
    subst (λ (x : Memory). LentWorked F x no_memory l row N n) here (subst (λ (x : List ℕ). LentWorked x a.memory no_memory l row N n) (runs_so h e) t) in
    let d : DefinedWork (standing F M no_memory) l row (standing F N n) = lent_worked_is (begun_stands s p K (length out) begun) t' in
    subst (λ (x : List ℕ). RealMemory (table_of F) p K (standing x N n) row) (sym (runs_so h e))
    (subst (λ (x : Workers). RealMemory (table_of F) p K x row) (sym d.state_is)
    (subst (λ (x : List ℕ). RealMemory (table_of F) p K (after_events l (standing F M no_memory)) x) (sym d.row_is)
    (real_memory s p K (run_in F M) (begun_there s p K (length out) begun) l d.orderly)))
