-- The limits hold at every moment, also between the turn of a free and the free itself, while the others go on with what is pending for them: no turn comes in between, since the lock is not given back.
-- Until the free is made, real memory agrees with the record before its turn.
use Rattle.std.specs.Prelude.{Err, Ok, Result, ⊤}
use Rattle.table.specs.declared.Refusal.{Refusal}
use mathlib.Core.Path.{◌≡◌, refl, sym, ◌∙◌}
use Prim.Native.Nat.{ℕ, ◌+◌, ◌≤◌, ◌<◌}
use native.Mathlib.Omega.{arith}
use native.Mathlib.Decide.{ℕ_discrete}
use mathlib.Core.List.{List, [], ◌∷◌, append-nil}
use borrow.Author.Tests.{eq-eqb, ne_eqb}
use Rattle.table.specs.Sum.{sum_to}
use Rattle.table.specs.Format.{Table, table_of}
use Rattle.table.specs.Pass.{try_at}
use Rattle.table.proofs.Sums.{sum_to_zero, sum_to_one}
use Rattle.table.proofs.Tests.{no_way}
use Rattle.schedule.specs.declared.Run.{Run}
use Rattle.schedule.specs.Record.{table_in, state_of}
use Rattle.schedule.specs.Begin.{begin}
use Rattle.schedule.specs.Sound.{Steady}
use Rattle.schedule.specs.Turn.{turn_checks, step_run, passed_in, turned_as, turned}
use Rattle.schedule.specs.Calls.{Call, after_call, after_calls, row_of_calls}
use Rattle.schedule.specs.Memory.{Keeps, limit}
use Rattle.filling.specs.Filled.{filled_out}
use Rattle.schedule.proofs.Stores.{steady_facts}
use Rattle.schedule.proofs.Runs.Histories.{turn_steady}
use Rattle.peaks.specs.Peak.{workers_peak}
use Rattle.peaks.specs.Rests.{useful_limit}
use Rattle.bounds.proofs.Limit.{MemoryLimit, memory_limit}
use Rattle.bounds.proofs.PeakLimit.{Ruled, peak_limit, useful_limit_lem}
use Rattle.sharp.specs.Need.{need_peak}
use Rattle.sharp.proofs.QuotaLimit.{need_limit}
use Rattle.workers.specs.Real.{Effect, nothing, allocs, frees, joins, effect_of, Pending, none, draw, inherit, Real, memory, put, by_turn, by_work, pending_all}
use Rattle.workers.specs.Workers.{Workers, effect_in, after_event, MayCome}
use Rattle.workers.specs.Workers.{work as work_event}
use Rattle.workers.specs.LateFree.{LateEvent, turn, work, freed, Late, start_late, at_once, later, late_event, after_late, LateMayCome, LateOrderly, late_calls_of, free_in, owed_all}
use Rattle.workers.proofs.Agreement.{Turns, Agrees, agrees_exact, drawn_whole, work_agrees}
use Rattle.workers.proofs.RealMemory.{steady_exclusive, turned_table, turn_accepted, turned_agrees, Joint, event_joint, exactly, start_joint}

-- ---- the statement

-- of the state s after events, whose turns laid end to end are the row
pub record LockedMemory (T : Table) (p K : ℕ) (s : Late) (row : List ℕ) : Type 0 where
  -- real memory and the pending draws come to memory held and the free owed
  pub exact : memory s.real + pending_all s.real ≡ s.run.held + owed_all s
  -- neither it nor its highest passes the highest
  pub within : memory s.real ≤ s.run.highest
  pub highest : s.real.highest ≤ s.run.highest
  -- S_p, whatever the order
  pub peak : (memory s.real ≤ workers_peak T p) × (s.real.highest ≤ workers_peak T p)
  -- demand 3's limit, where the row keeps the rule with b
  pub bounded : (b : ℕ) → 1 ≤ b → Keeps b row → (memory s.real ≤ limit T p K b) × (s.real.highest ≤ limit T p K b)
  -- the useful limit
  pub useful : (b : ℕ) → Ruled b row → (memory s.real ≤ useful_limit T p K b) × (s.real.highest ≤ useful_limit T p K b)
  -- CE, the sharper limit for every order
  pub sharper : (memory s.real ≤ need_peak T p K) × (s.real.highest ≤ need_peak T p K)
  -- a free that is owed finds its memory drawn
  pub frees_drawn : (w t x : ℕ) → s.owed w ≡ frees t x → x ≤ s.real.amounts t

-- ---- the two states of the lock

abbrev workers : Late → Workers
workers s = record { run = s.run; real = s.real }

-- the lock is given back, or worker w has it and owes the free of its turn, which was on record r
data LateJoint (s : Late) : Type 0 where
  given_back : ((v : ℕ) → s.owed v ≡ nothing) → Joint (workers s) → LateJoint s
  locked : (r : Run) → Steady r → (w t x : ℕ) → s.run ≡ (turned r w).run → effect_in (table_in r) (turned r w).answer ≡ frees t x → s.owed w ≡ frees t x
      → ((v : ℕ) → (v ≡ w → ⊥) → s.owed v ≡ nothing) → s.real.pending w ≡ none → Agrees (table_in r) (state_of r) s.real → LateJoint s

-- a turn with the effect of a free
free_turns : (r : Run) → Steady r → (w t x : ℕ) → effect_in (table_in r) (turned r w).answer ≡ frees t x → Turns (table_in r) (frees t x) w (state_of r) (state_of (turned r w).run)
unfolding turned
free_turns r h w t x q = go (try_at (turn_checks r w) 0) refl q
  where
    go : (f : Result ⊤ Refusal) → try_at (turn_checks r w) 0 ≡ f → effect_in (table_in r) (turned_as f r (passed_in r w) (step_run r w)).answer ≡ frees t x
        → Turns (table_in r) (frees t x) w (state_of r) (state_of (turned_as f r (passed_in r w) (step_run r w)).run)
    go (Ok _) e i = let z : effect_of (table_in r) (step_run r w).reply ≡ frees t x = i in rw z at (turn_accepted r h w e)
    go (Err y) e i = no_way (cc)

-- ---- events

put_nothing : (w : ℕ) (f : ℕ → Effect) → ((v : ℕ) → (v ≡ w → ⊥) → f v ≡ nothing) → (v : ℕ) → put w nothing f v ≡ nothing
put_nothing w f n v = go (ℕ_discrete v w)
  where
    go : Dec (v ≡ w) → put w nothing f v ≡ nothing
    go (yes e) = rw (eq-eqb v w e)
    go (no e) = rw (ne_eqb v w e) (n v e)

-- what is done leaves nothing pending where nothing was
still_none : (m : Real) (v w : ℕ) → m.pending w ≡ none → (by_work (m.pending v) v m).pending w ≡ none
still_none m v w n = go (m.pending v) (ℕ_discrete w v)
  where
    go : (q : Pending) → Dec (w ≡ v) → (by_work q v m).pending w ≡ none
    go none d = n
    go (draw t x) (yes e) = rw (eq-eqb w v e)
    go (draw t x) (no e) = rw (ne_eqb w v e) n
    go (inherit t c) (yes e) = rw (eq-eqb w v e)
    go (inherit t c) (no e) = rw (ne_eqb w v e) n

-- by the effect of a turn of worker w
turn_late : (s : Late) (w : ℕ) → Joint (workers s) → s.real.pending w ≡ none → ((v : ℕ) → s.owed v ≡ nothing) → LateJoint (late_event turned (turn w) s)
unfolding late_event
turn_late s w j n o = go (effect_in (table_in s.run) (turned s.run w).answer) refl (turned_agrees s.run j.steady w s.real j.agrees n)
  where
    after : Effect → Late
    after e = record { run = (turned s.run w).run; real = by_turn (at_once e) w s.real; owed = put w (later e) s.owed }

    back : (e : Effect) → Agrees (table_in s.run) (state_of (turned s.run w).run) (by_turn e w s.real) → Joint (record { run = (turned s.run w).run; real = by_turn e w s.real })
    back e g = record { steady = turn_steady s.run w j.steady; agrees = rw (turned_table s.run w) g }

    go : (e : Effect) → effect_in (table_in s.run) (turned s.run w).answer ≡ e → Agrees (table_in s.run) (state_of (turned s.run w).run) (by_turn e w s.real) → LateJoint (after e)
    go nothing q g = given_back (put_nothing w s.owed (λ v d. o v)) (back nothing g)
    go (allocs t x) q g = given_back (put_nothing w s.owed (λ v d. o v)) (back (allocs t x) g)
    go (joins t c) q g = given_back (put_nothing w s.owed (λ v d. o v)) (back (joins t c) g)
    go (frees t x) q g =
        locked s.run j.steady w t x refl q (rw (eq-eqb w w refl)) (λ v d. rw (ne_eqb v w d) (o v)) n j.agrees

work_late : (s : Late) (v : ℕ) → LateJoint s → LateJoint (late_event turned (work v) s)
unfolding late_event after_event MayCome
work_late s v (given_back o j) = given_back o (event_joint (work_event v) (workers s) j tt)
work_late s v (locked r h w t x is q owes rest n g) =
    locked r h w t x is q owes rest (still_none s.real v w n) (work_agrees (table_in r) (state_of r) (steady_exclusive r h) s.real g (steady_facts r h).above v)

free_late : (s : Late) (v : ℕ) → LateJoint s → LateJoint (late_event turned (freed v) s)
unfolding late_event
free_late s v (given_back o j) = given_back (put_nothing v s.owed (λ u d. o u)) (rw (o v) j)
free_late s v (locked r h w t x is q owes rest n g) = go (ℕ_discrete v w)
  where
    go : Dec (v ≡ w) → LateJoint (record { run = s.run; real = by_turn (s.owed v) v s.real; owed = put v nothing s.owed })
    go (yes e) =
        let a : Agrees (table_in r) (state_of (turned r w).run) (by_turn (frees t x) w s.real) = rw q at (turned_agrees r h w s.real g n) in
        let j : Joint (record { run = s.run; real = by_turn (frees t x) w s.real }) =
        rw is (record { steady = turn_steady r w h; agrees = rw (turned_table r w) a }) in
        given_back (put_nothing v s.owed (λ u d. rest u (λ i. d (i ∙ sym e)))) (rw (e, owes) j)
    go (no e) =
        rw (rest v e)
        (locked r h w t x is q (rw (ne_eqb w v (λ i. e (sym i))) owes) (λ u d. put_nothing_at u d) n g)
      where
        put_nothing_at : (u : ℕ) → (u ≡ w → ⊥) → put v nothing s.owed u ≡ nothing
        put_nothing_at u d = at (ℕ_discrete u v)
          where
            at : Dec (u ≡ v) → put v nothing s.owed u ≡ nothing
            at (yes i) = rw (eq-eqb u v i)
            at (no i) = rw (ne_eqb u v i) (rest u d)

late_joint : (e : LateEvent) (s : Late) → LateJoint s → LateMayCome e s → LateJoint (late_event turned e s)
unfolding LateMayCome
late_joint (turn w) s (given_back o j) m = turn_late s w j m.0 o
late_joint (turn w) s (locked r h v t x is q owes rest n g) m = let z : s.owed v ≡ nothing = m.1 v in no_way (cc)
late_joint (work w) s j m = work_late s w j
late_joint (freed w) s j m = free_late s w j

lates_joint : (events : List LateEvent) (s : Late) → LateJoint s → LateOrderly events s → LateJoint (after_late turned events s)
unfolding after_late LateOrderly
lates_joint [] s j o = j
lates_joint (e ∷ events) s j o = lates_joint events (late_event turned e s) (late_joint e s j o.0) o.1

-- the record is that of the calls among the events
late_run_is : (events : List LateEvent) (s : Late) → (after_late turned events s).run ≡ after_calls (late_calls_of events) s.run
unfolding after_late late_event after_calls after_call late_calls_of
late_run_is [] s = refl
late_run_is (turn w ∷ events) s = late_run_is events (late_event turned (turn w) s)
late_run_is (work w ∷ events) s = late_run_is events (late_event turned (work w) s)
late_run_is (freed w ∷ events) s = late_run_is events (late_event turned (freed w) s)

-- ---- what it says of a state

owed_none : (s : Late) → ((v : ℕ) → s.owed v ≡ nothing) → owed_all s ≡ 0
unfolding owed_all
owed_none s o = sum_to_zero (λ w. free_in (s.owed w)) 16 (λ w b. rw (o w))

owed_one : (s : Late) (w t x : ℕ) → w < 16 → s.owed w ≡ frees t x → ((v : ℕ) → (v ≡ w → ⊥) → s.owed v ≡ nothing) → owed_all s ≡ x
unfolding owed_all
owed_one s w t x b e rest =
    let here : free_in (s.owed w) ≡ x = rw e in
    let zero_sum : sum_to (λ v. 0) 16 ≡ 0 = sum_to_zero (λ v. 0) 16 (λ v c. refl) in
    omega (arith, sum_to_one (λ v. free_in (s.owed v)) (λ v. 0) w 16 b (λ v c d. rw (rest v d)))

record Stands (s : Late) : Type 0 where
  exact : memory s.real + pending_all s.real ≡ s.run.held + owed_all s
  within : memory s.real ≤ s.run.highest
  highest : s.real.highest ≤ s.run.highest
  drawn : (w t x : ℕ) → s.owed w ≡ frees t x → x ≤ s.real.amounts t

stands : (s : Late) → LateJoint s → Stands s
stands s (given_back o j) =
    let e = exactly (workers s) j in
    let a : s.run.held ≤ s.run.highest = (steady_facts s.run j.steady).above in
    record {
      exact = omega (arith, e, owed_none s o);
      within = omega (arith, e, a);
      highest = j.agrees.highest;
      drawn = λ w t x q. let z : s.owed w ≡ nothing = o w in no_way (cc);
    }
stands s (locked r h w t x is q owes rest n g) =
    let k : Turns (table_in r) (frees t x) w (state_of r) (state_of (turned r w).run) = free_turns r h w t x q in
    let e = agrees_exact (table_in r) (state_of r) (steady_exclusive r h) s.real g in
    let a : r.held ≤ r.highest = (steady_facts r h).above in
    let b : s.run.held + x ≡ r.held = rw is k.changes.held in
    let up : r.highest ≤ s.run.highest = rw is k.rises in
    record {
      exact = omega (arith, e, b, owed_one s w t x k.worker owes rest);
      within = omega (arith, e, a, up);
      highest = omega (arith, g.highest, up);
      drawn = λ v u y z. at v u y z (ℕ_discrete v w) k.changes.within
          (drawn_whole (table_in r) (state_of r) (steady_exclusive r h) s.real g w t n (k.apart t refl) (k.fresh t refl));
    }
  where
    at : (v u y : ℕ) → s.owed v ≡ frees u y → Dec (v ≡ w) → {c : ℕ} → x ≤ c → s.real.amounts t ≡ c → y ≤ s.real.amounts u
    at v u y z (yes i) b d =
        let here : s.owed w ≡ frees u y = rw i at z in
        let f : frees t x ≡ frees u y = sym owes ∙ here in
        let g : t ≡ u = cc in
        let k : x ≡ y = cc in
        rw (← g, ← k) (omega arith)
    at v u y z (no i) b d = let f : s.owed v ≡ nothing = rest v i in no_way (cc)

-- ---- from a beginning

module _ (s : List ℕ) (p K : ℕ) (r : Run) (e : begin s p K ≡ record { answer = Ok tt; run = r }) where
  -- for every accepted table, p and K and every list of events from the beginning that keeps the rules
  pub locked_memory : (events : List LateEvent) → LateOrderly events (start_late r)
      → LockedMemory (table_of (filled_out s K)) p K (after_late turned events (start_late r)) (row_of_calls (late_calls_of events) r)
  locked_memory events o =
      record {
        exact = x.exact;
        within = x.within;
        highest = x.highest;
        peak = under (workers_peak T p) (peak_limit s p K r e calls).within.1;
        bounded = λ b i keeps.
            let m : MemoryLimit T p K b (after_calls calls r) (row_of_calls calls r) = memory_limit s p K r e b i calls in
            under (limit T p K b) (rw m.highest (m.bounded (row_of_calls calls r) [] (sym (append-nil (row_of_calls calls r))) keeps).1);
        useful = λ b ruled. under (useful_limit T p K b) ((useful_limit_lem s p K r e calls b).within ruled).1;
        sharper = under (need_peak T p K) (need_limit s p K r e calls).within.1;
        frees_drawn = x.drawn;
      }
    where
      T : Table
      T = table_of (filled_out s K)

      at : Late
      at = after_late turned events (start_late r)

      calls : List Call
      calls = late_calls_of events

      x : Stands at
      x = stands at (lates_joint events (start_late r) (given_back (λ v. refl) (start_joint s p K r e)) o)

      is : at.run ≡ after_calls calls r
      is = late_run_is events (start_late r)

      under : (B : ℕ) → (after_calls calls r).highest ≤ B → (memory at.real ≤ B) × (at.real.highest ≤ B)
      under B h =
          let q : at.run.highest ≤ B = rw is h in
          (omega (arith, x.within), omega (arith, x.highest))
