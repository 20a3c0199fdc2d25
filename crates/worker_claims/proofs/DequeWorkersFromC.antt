-- Real memory for the calls of DFDeques from C: each turn is a call of `wivakkol_deque_turn_on` on the memory that the last one left; where it says done, `wivakkol_kind` and `wivakkol_argument`
-- say what its worker does. Nothing is known but their promises. `lent_deque_worked_is`: what stands in memory, real memory and the row of pairs are those of the definitions.
-- `lent_deque_worked_exists`: every list of events that keeps rule 4 has one, and so from a beginning every row of pairs (`lent_deque_turns_worked_exist`). `lent_deque_code_real_memory`: and so all that
-- crates/deque_workers says of real memory holds.
use Rattle.std.specs.Prelude.{Err, Ok, Result}
use Rattle.schedule.specs.declared.Reply.{Reply}
use Rattle.table.specs.declared.Refusal.{Refusal}
use mathlib.Core.Path.{◌≡◌, refl, sym, ap, ap₂, subst, ◌∙◌}
use Prim.Native.Nat.{ℕ, ◌<◌}
use native.Mathlib.Decide.{ℕ_discrete}
use mathlib.Core.List.{List, [], ◌∷◌, ◌++◌}
use lib.Dec.{eqb}
use lib.ListN.{length}
use Rattle.table.specs.Sum.{pick}
use Rattle.table.specs.Format.{kind_of, table_of}
use Rattle.filling.specs.Filled.{filled_out}
use Rattle.order.proofs.Lists.{filled_front}
use Rattle.schedule.specs.declared.Reply.TheVariants.{Done}
use Rattle.schedule.specs.Record.{max_bytes, table_in}
use Rattle.run_memory.specs.Memory.{Memory, Answer}
use Rattle.run_memory.specs.Stands.{run_in, values_row}
use Rattle.deques.specs.declared.DequeRun.{DequeRun}
use Rattle.deques.specs.declared.DequeBegun.{DequeBegun}
use Rattle.deques.specs.DequeBegin.{deque_begin}
use Rattle.deques.specs.DequeTurn.{deque_turned}
use Rattle.deques.specs.DequeRuns.{Pair, pair}
use Rattle.deques.specs.DequeValues.{deque_turning_values}
use Rattle.deques.specs.DequeCalls.{after_deque_call, pairs_of_calls}
use Rattle.deques.specs.DequeCalls.{turn as turn_call}
use Rattle.stealing.specs.StealingMemory.{deque_run_in, DequesStand}
use Rattle.soundness.specs.Tested.{begun_into}
use Rattle.wivakkol.specs.Lent.{lent_begin}
use Rattle.wivakkol_deques.specs.DequeLent.{lent_deque_turn}
use Rattle.claims.specs.LentCalls.{Returned, table_that_runs}
use Rattle.claims.proofs.LentSays.{BeginSays, begin_is, begin_says}
use Rattle.claims.proofs.FromC.{runs_so}
use Rattle.claims.proofs.Shaped.{Shaped}
use Rattle.claims.proofs.Sizes.{begin_shaped}
use Rattle.deque_claims.specs.LentDequeCalls.{moving, lent_deque_move, lent_deque_call, lent_pairs_of}
use Rattle.deque_claims.proofs.DequeSays.{TurnSays, turn_is, turn_says}
use Rattle.deque_claims.proofs.DequesRefine.{CallRefines, deque_call_refines, begun_deques_stand, begun_deques_there}
use Rattle.deque_claims.proofs.DequeSizes.{deque_call_shaped}
use Rattle.workers.specs.Real.{Effect, nothing, effect_by, none, Real, no_memory, by_turn, by_work}
use Rattle.deque_workers.specs.DequeWorkers.{DequeEvent, turn, work, DequeWorkers, starting_deques, deque_effect_in, after_deque_event, after_deque_events, DequeMayCome, DequeOrderly, deque_calls_of, deque_in_turn}
use Rattle.deque_workers.proofs.DequeRealMemory.{DequeRealMemory, deque_real_memory, deque_action_there, deque_in_turn_orderly}
use Rattle.worker_claims.proofs.ActionSays.{KindSays, ArgumentSays, kind_is, argument_is, kind_says, argument_says, said_in, thread_in, action_in, read_in, refused_silent, done_read, other_nothing, unpassed}
use Rattle.worker_claims.proofs.DequeWorkersByValue.{DefinedDequeWork}
use Rattle.schedule.proofs.Runs.Values.{reply_number}

-- ---- events

abbrev pub taken_pair : Answer → ℕ → ℕ → List Pair
taken_pair a w c = pick (eqb a.number 0) (pair w c ∷ []) []

-- on memory M, given table u, with m really held: a turn only where nothing is pending for its worker
pub data LentDequeWorked (u : List ℕ) : Memory → Real → List DequeEvent → List Pair → Memory → Real → Type 0 where
  over : {M : Memory} {m : Real} → LentDequeWorked u M m [] [] M m
  -- the turn says done, and its worker asks for the action's kind and argument
  by_done : {M N : Memory} {m n : Real} {l : List DequeEvent} {row : List Pair} {a : Answer} {k x : ℕ} (w c : ℕ) → m.pending w ≡ none → TurnSays u w c M a → a.number ≡ 0 → said_in a ≡ 2
      → KindSays u (action_in a) k → ArgumentSays u (action_in a) x → LentDequeWorked u a.memory (by_turn (effect_by (kind_of k) (thread_in a) x) w m) l row N n
      → LentDequeWorked u M m (turn w c ∷ l) (taken_pair a w c ++ row) N n
  -- it is refused, or says something else
  by_other : {M N : Memory} {m n : Real} {l : List DequeEvent} {row : List Pair} {a : Answer} (w c : ℕ) → m.pending w ≡ none → TurnSays u w c M a → (a.number ≡ 0 → said_in a ≡ 2 → ⊥)
      → LentDequeWorked u a.memory m l row N n → LentDequeWorked u M m (turn w c ∷ l) (taken_pair a w c ++ row) N n
  by_work_lem : {M N : Memory} {m n : Real} {l : List DequeEvent} {row : List Pair} (w : ℕ) → LentDequeWorked u M (by_work (m.pending w) w m) l row N n
      → LentDequeWorked u M m (work w ∷ l) row N n

-- what stands in memory, and real memory
abbrev pub standing_deques : List ℕ → Memory → Real → DequeWorkers
standing_deques u M m = record { run = deque_run_in u M; real = m }

-- ---- the effect of a turn is the one read from its row

module _ (u : List ℕ) (M : Memory) (h : DequesStand u M) (w c : ℕ) where
  table_is : table_in (run_in u M) ≡ table_of u
  table_is = ap table_of (filled_front max_bytes u)

  step : CallRefines u M (turn_call w c)
  step = deque_call_refines u M h (turn_call w c)

  number_is : (lent_deque_turn u w c M).number ≡ (deque_turning_values (deque_turned (deque_run_in u M) w c).answer).number
  unfolding lent_deque_move
  number_is = ap (λ (x : Returned). x.number) step.answer

  row_so : (lent_deque_turn u w c M).row ≡ values_row (deque_turning_values (deque_turned (deque_run_in u M) w c).answer)
  unfolding lent_deque_move
  row_so = ap (λ (x : Returned). x.row) step.answer

  done_effect : said_in (lent_deque_turn u w c M) ≡ 2 → read_in u (lent_deque_turn u w c M) ≡ deque_effect_in (table_in (run_in u M)) (deque_turned (deque_run_in u M) w c).answer
  done_effect = go (deque_turned (deque_run_in u M) w c).answer refl row_so
    where
      go : (x : Result Reply Refusal) → (deque_turned (deque_run_in u M) w c).answer ≡ x → (lent_deque_turn u w c M).row ≡ values_row (deque_turning_values x) → said_in (lent_deque_turn u w c M) ≡ 2
          → read_in u (lent_deque_turn u w c M) ≡ deque_effect_in (table_in (run_in u M)) x
      go (Ok x) e r q =
          let there : (t a : ℕ) → x ≡ Done t a → a < (table_of u).actions =
          λ t a i. rw table_is at (deque_action_there (deque_run_in u M) h.steady w c t a (rw i at e)) in
          rw table_is (done_read u x 0 (lent_deque_turn u w c M) (r ∙ ap values_row (unpassed x)) q there)
      go (Err y) e r q = absurd (refused_silent y (lent_deque_turn u w c M) r q)

  other_effect : ((lent_deque_turn u w c M).number ≡ 0 → said_in (lent_deque_turn u w c M) ≡ 2 → ⊥) → nothing ≡ deque_effect_in (table_in (run_in u M)) (deque_turned (deque_run_in u M) w c).answer
  other_effect n = go (deque_turned (deque_run_in u M) w c).answer number_is row_so
    where
      go : (x : Result Reply Refusal) → (lent_deque_turn u w c M).number ≡ (deque_turning_values x).number → (lent_deque_turn u w c M).row ≡ values_row (deque_turning_values x)
          → nothing ≡ deque_effect_in (table_in (run_in u M)) x
      go (Ok x) i r = other_nothing (table_in (run_in u M)) x 0 (lent_deque_turn u w c M) (r ∙ ap values_row (unpassed x)) (n (i ∙ reply_number x))
      go (Err y) i r = refl

  module _ (m : Real) where
    -- with the effect read, what stands after the turn is the event's
    event_is : (e : Effect) → e ≡ deque_effect_in (table_in (run_in u M)) (deque_turned (deque_run_in u M) w c).answer
        → standing_deques u (lent_deque_turn u w c M).memory (by_turn e w m) ≡ after_deque_event (turn w c) (standing_deques u M m)
    unfolding after_deque_event lent_deque_move after_deque_call
    event_is e q = λ i. record { run = step.record_after i; real = by_turn (q i) w m }

    -- and the row of turns goes on
    goes_on : (n : m.pending w ≡ none) (e : Effect) → e ≡ deque_effect_in (table_in (run_in u M)) (deque_turned (deque_run_in u M) w c).answer → {l : List DequeEvent} {row : List Pair} {z : DequeWorkers}
        → DefinedDequeWork (standing_deques u (lent_deque_turn u w c M).memory (by_turn e w m)) l row z
        → DefinedDequeWork (standing_deques u M m) (turn w c ∷ l) (taken_pair (lent_deque_turn u w c M) w c ++ row) z
    unfolding DequeOrderly DequeMayCome after_deque_events pairs_of_calls deque_calls_of lent_deque_move lent_pairs_of after_deque_event after_deque_call
    goes_on n e q {l} {row} {z} d =
        let s = event_is e q in
        record {
          orderly = (n, subst (DequeOrderly l) s d.orderly);
          row_is = ap₂ ◌++◌ step.row (d.row_is ∙ ap (λ (x : DequeWorkers). pairs_of_calls (deque_calls_of l) x.run) s);
          state_is = d.state_is ∙ ap (after_deque_events l) s;
        }

-- ---- they are the definitions'

stands_after : (u : List ℕ) (M : Memory) → DequesStand u M → (w c : ℕ) → DequesStand u (lent_deque_turn u w c M).memory
unfolding lent_deque_move
stands_after u M h w c = (deque_call_refines u M h (turn_call w c)).stands

pub lent_deque_worked_is : {u : List ℕ} {M N : Memory} {m n : Real} {l : List DequeEvent} {row : List Pair} → DequesStand u M → LentDequeWorked u M m l row N n
    → DefinedDequeWork (standing_deques u M m) l row (standing_deques u N n)
unfolding DequeOrderly DequeMayCome after_deque_events after_deque_event pairs_of_calls deque_calls_of
lent_deque_worked_is h over = record { orderly = tt; row_is = refl; state_is = refl }
lent_deque_worked_is {u} h (by_done {M} {N} {m} {n} {l} {row} {a} {k} {x} w c free says number said kinds arguments t) =
    let e : a ≡ lent_deque_turn u w c M = turn_is says in
    let i : DefinedDequeWork (standing_deques u a.memory (by_turn (effect_by (kind_of k) (thread_in a) x) w m)) l row (standing_deques u N n) =
    lent_deque_worked_is (subst (λ (y : Answer). DequesStand u y.memory) (sym e) (stands_after u M h w c)) t in
    let q : effect_by (kind_of k) (thread_in a) x ≡ read_in u a =
    rw (kind_is kinds, argument_is arguments) in
    let b : effect_by (kind_of k) (thread_in a) x ≡ deque_effect_in (table_in (run_in u M)) (deque_turned (deque_run_in u M) w c).answer =
    q ∙ rw e (done_effect u M h w c (rw e at said)) in
    subst (λ (y : Answer). DefinedDequeWork (standing_deques u M m) (turn w c ∷ l) (taken_pair y w c ++ row) (standing_deques u N n)) (sym e)
    (goes_on u M h w c m free _ b
    (subst (λ (y : Answer). DefinedDequeWork (standing_deques u y.memory (by_turn (effect_by (kind_of k) (thread_in a) x) w m)) l row (standing_deques u N n)) e i))
lent_deque_worked_is {u} h (by_other {M} {N} {m} {n} {l} {row} {a} w c free says other t) =
    let e : a ≡ lent_deque_turn u w c M = turn_is says in
    let i : DefinedDequeWork (standing_deques u a.memory m) l row (standing_deques u N n) =
    lent_deque_worked_is (subst (λ (y : Answer). DequesStand u y.memory) (sym e) (stands_after u M h w c)) t in
    let b : nothing ≡ deque_effect_in (table_in (run_in u M)) (deque_turned (deque_run_in u M) w c).answer =
    other_effect u M h w c (subst (λ (y : Answer). y.number ≡ 0 → said_in y ≡ 2 → ⊥) e other) in
    subst (λ (y : Answer). DefinedDequeWork (standing_deques u M m) (turn w c ∷ l) (taken_pair y w c ++ row) (standing_deques u N n)) (sym e)
    (goes_on u M h w c m free nothing b (subst (λ (y : Answer). DefinedDequeWork (standing_deques u y.memory m) l row (standing_deques u N n)) e i))
lent_deque_worked_is {u} h (by_work_lem {M} {N} {m} {n} {l} {row} w t) =
    let i : DefinedDequeWork (standing_deques u M (by_work (m.pending w) w m)) l row (standing_deques u N n) = lent_deque_worked_is h t in
    record { orderly = (tt, i.orderly); row_is = i.row_is; state_is = i.state_is }

-- ---- every list of events that keeps the rule can come about

-- on the table and memory given: what it leaves
pub record LentDequeEnd (u : List ℕ) (M : Memory) (m : Real) (l : List DequeEvent) : Type 0 where
  pub row : List Pair
  pub memory : Memory
  pub real : Real
  pub worked : LentDequeWorked u M m l row memory real

shaped_after : (u : List ℕ) (M : Memory) → Shaped M → (w c : ℕ) → Shaped (lent_deque_turn u w c M).memory
unfolding lent_deque_call lent_deque_move
shaped_after u M h w c = deque_call_shaped u (moving (turn_call w c)) M h

pub lent_deque_worked_exists : (l : List DequeEvent) (u : List ℕ) (M : Memory) (m : Real) → Shaped M → DequesStand u M → DequeOrderly l (standing_deques u M m) → LentDequeEnd u M m l
unfolding DequeOrderly DequeMayCome after_deque_event
lent_deque_worked_exists [] u M m k h o = record { row = []; memory = M; real = m; worked = over }
lent_deque_worked_exists (work w ∷ l) u M m k h o =
    let i : LentDequeEnd u M (by_work (m.pending w) w m) l = lent_deque_worked_exists l u M (by_work (m.pending w) w m) k h o.1 in
    record { row = i.row; memory = i.memory; real = i.real; worked = by_work_lem w i.worked }
lent_deque_worked_exists (turn w c ∷ l) u M m k h o =
    go (ℕ_discrete a.number 0) (ℕ_discrete (said_in a) 2) (λ e q. lent_deque_worked_exists l u a.memory (by_turn e w m) (shaped_after u M k w c) (stands_after u M h w c) (after e q))
  where
    a : Answer
    a = lent_deque_turn u w c M

    after : (e : Effect) → e ≡ deque_effect_in (table_in (run_in u M)) (deque_turned (deque_run_in u M) w c).answer → DequeOrderly l (standing_deques u a.memory (by_turn e w m))
    after e q = subst (DequeOrderly l) (sym (event_is u M h w c m e q)) o.1

    Next : Type 0
    Next = (e : Effect) → e ≡ deque_effect_in (table_in (run_in u M)) (deque_turned (deque_run_in u M) w c).answer → LentDequeEnd u a.memory (by_turn e w m) l

    other : Next → (a.number ≡ 0 → said_in a ≡ 2 → ⊥) → LentDequeEnd u M m (turn w c ∷ l)
    other next n =
        let i : LentDequeEnd u a.memory m l = next nothing (other_effect u M h w c n) in
        record {
          row = taken_pair a w c ++ i.row;
          memory = i.memory;
          real = i.real;
          worked = by_other w c o.0 (turn_says u w c M k (shaped_after u M k w c)) n i.worked;
        }

    go : Dec (a.number ≡ 0) → Dec (said_in a ≡ 2) → Next → LentDequeEnd u M m (turn w c ∷ l)
    go (no n) d next = other next (λ e q. n e)
    go (yes e) (no n) next = other next (λ i q. n q)
    go (yes e) (yes d) next =
        let i = next (read_in u a) (done_effect u M h w c d) in
        record {
          row = taken_pair a w c ++ i.row;
          memory = i.memory;
          real = i.real;
          worked = by_done w c o.0 (turn_says u w c M k (shaped_after u M k w c)) e d (kind_says u (action_in a)) (argument_says u (action_in a)) i.worked;
        }

-- and so from a beginning that answers 0: it keeps its promise, and every list of events that keeps rule 4 on the record of DFDeques' beginning follows, given the table that runs
pub lent_deque_begun_worked_exists : (s : List ℕ) (p K : ℕ) (out : List ℕ) → (lent_begin s p K (length out)).number ≡ 0 → (l : List DequeEvent)
    → DequeOrderly l (starting_deques (deque_begin s p K).run)
    → BeginSays s p K out (lent_begin s p K (length out)) (begun_into s p K out)
    × LentDequeEnd (table_that_runs s (lent_begin s p K (length out)) (begun_into s p K out)) (lent_begin s p K (length out)).memory no_memory l
lent_deque_begun_worked_exists s p K out e l o =
    let a : Answer = lent_begin s p K (length out) in
    let h : BeginSays s p K out a (begun_into s p K out) = begin_says s p K out in
    let r : (deque_begin s p K).run ≡ deque_run_in (filled_out s K) a.memory = ap (λ (x : DequeBegun). x.run) (begun_deques_there s p K (length out) e) in
    let there : LentDequeEnd (filled_out s K) a.memory no_memory l =
    lent_deque_worked_exists l (filled_out s K) a.memory no_memory (begin_shaped s p K (length out)) (begun_deques_stand s p K (length out) e)
    (subst (λ (x : DequeRun). DequeOrderly l (starting_deques x)) r o) in
    (h, subst (λ (u : List ℕ). LentDequeEnd u a.memory no_memory l) (sym (runs_so h e)) there)

-- for every row of pairs
pub lent_deque_turns_worked_exist : (s : List ℕ) (p K : ℕ) (out : List ℕ) → (lent_begin s p K (length out)).number ≡ 0 → (row : List Pair)
    → BeginSays s p K out (lent_begin s p K (length out)) (begun_into s p K out)
    × LentDequeEnd (table_that_runs s (lent_begin s p K (length out)) (begun_into s p K out)) (lent_begin s p K (length out)).memory no_memory (deque_in_turn row)
lent_deque_turns_worked_exist s p K out e row =
    lent_deque_begun_worked_exists s p K out e (deque_in_turn row) (deque_in_turn_orderly row (starting_deques (deque_begin s p K).run) (λ w. refl))

-- ---- the limits

-- `wivakkol_begin_on` answered 0, and any events followed, given the table that runs
pub lent_deque_code_real_memory : {s : List ℕ} {p K : ℕ} {out filled : List ℕ} {a : Answer} → BeginSays s p K out a filled → a.number ≡ 0
    → {l : List DequeEvent} {row : List Pair} {N : Memory} {n : Real} → LentDequeWorked (table_that_runs s a filled) a.memory no_memory l row N n
    → DequeRealMemory (table_of (filled_out s K)) p K (standing_deques (table_that_runs s a filled) N n) row
lent_deque_code_real_memory {s} {p} {K} {out} {filled} {a} h e {l} {row} {N} {n} t =
    let F : List ℕ = filled_out s K in
    let begun : (lent_begin s p K (length out)).number ≡ 0 = ap (λ (x : Answer). x.number) (sym (begin_is h)) ∙ e in
    let M : Memory = (lent_begin s p K (length out)).memory in
    let here : a.memory ≡ M = ap (λ (x : Answer). x.memory) (begin_is h) in
    let t' : LentDequeWorked F M no_memory l row N n =
    subst (λ (x : Memory). LentDequeWorked F x no_memory l row N n) here (subst (λ (x : List ℕ). LentDequeWorked x a.memory no_memory l row N n) (runs_so h e) t) in
    let d : DefinedDequeWork (standing_deques F M no_memory) l row (standing_deques F N n) = lent_deque_worked_is (begun_deques_stand s p K (length out) begun) t' in
    subst (λ (x : List ℕ). DequeRealMemory (table_of F) p K (standing_deques x N n) row) (sym (runs_so h e))
    (subst (λ (x : DequeWorkers). DequeRealMemory (table_of F) p K x row) (sym d.state_is)
    (subst (λ (x : List Pair). DequeRealMemory (table_of F) p K (after_deque_events l (standing_deques F M no_memory)) x) (sym d.row_is)
    (deque_real_memory s p K (deque_run_in F M) (begun_deques_there s p K (length out) begun) l d.orderly)))
