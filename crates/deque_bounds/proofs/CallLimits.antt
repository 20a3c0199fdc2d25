-- The limits of DFDeques over every list of calls from a beginning, refused ones included: on the table that runs (N6), whatever the order of the turns and the choices; the peaks also of the table
-- as given (`deque_given`). The parallel peak bounds every sound record too (`deque_parallel_record`).
use Rattle.std.specs.Prelude.{Ok}
use mathlib.Core.Path.{◌≡◌, sym, ap, subst, ◌∙◌}
use Prim.Native.Nat.{ℕ, suc, ◌+◌, ◌*◌, ◌≤◌, ◌<◌}
use native.Mathlib.Omega.{arith}
use mathlib.Core.List.Memᴰ
use mathlib.Core.List.{List, [], ◌∷◌, ◌++◌, Memᴰ}
use mathlib.Core.Bool.{true, false}
use lib.ListN.{length, get_or}
use Rattle.table.specs.Format.{Table, kind, table_of}
use Rattle.table.specs.declared.kinds.Kind.TheVariants.{Join as join}
use Rattle.table.specs.Nested.{N}
use Rattle.table.specs.Serial.{S1}
use Rattle.filling.specs.Filled.{filled_out}
use Rattle.order.specs.Order.{number_of}
use Rattle.order.proofs.Lawful.{Lawful, Within, lawful}
use Rattle.schedule.specs.Begin.{begin}
use Rattle.schedule.specs.Record.{bytes_of, table_in}
use Rattle.schedule.specs.Machine.{State, waiting, ended, next_of, status_of, worker_of, parent_of}
use Rattle.schedule.specs.Sound.{is_done}
use Rattle.schedule.proofs.Linked.Waiting.{awaited}
use Rattle.peaks.specs.Peak.{Light, workers_peak}
use Rattle.peaks.specs.Rests.{parallel_peak}
use Rattle.peaks.proofs.Unpreempted.{Stands}
use Rattle.peaks.proofs.Parallel.{workers_parallel, parallel_common}
use Rattle.sharp.specs.Off.{rests_any}
use Rattle.bounds.proofs.PeakLimit.{given_workers, given_parallel}
use Rattle.deques.specs.declared.DequeRun.{DequeRun}
use Rattle.deques.specs.declared.DequeBegun.{DequeBegun}
use Rattle.deques.specs.Deques.{Deque, Deques, nothing, place_of, start_deques}
use Rattle.deques.specs.Lines.{line}
use Rattle.deques.specs.DequeRecord.{deques_of}
use Rattle.deques.specs.DequeBegin.{deque_begin}
use Rattle.deques.specs.DequeSound.{SteadyDeques}
use Rattle.deques.specs.DequeRuns.{Pair}
use Rattle.deques.specs.DequeCalls.{DequeCall, after_deque_calls, pairs_of_calls, row_deques}
use Rattle.deques.proofs.DequeHistories.{TracedDeques, deque_begin_answer, deque_calls_traced}
use Rattle.deque_bounds.specs.DequeRows.{steals}
use Rattle.deque_bounds.specs.Deepest.{deepest}
use Rattle.deque_bounds.proofs.Lines.{Link}
use Rattle.deque_bounds.proofs.SerialLines.{held_by}
use Rattle.deque_bounds.proofs.SerialLinesTurns.{BelowAll, from_start}
use Rattle.deque_bounds.proofs.DequeLimits.{held_steals, line_links, line_short, waits_alone, wakes_alone}
use Rattle.deque_bounds.proofs.DequePeaks.{deque_light}
use Rattle.deque_bounds.proofs.HeldLimits.{HeldLimits, row_limits}
use Rattle.deque_bounds.proofs.DequeRests.{RestLimits, deque_placed, rest_limits}

-- the lines of deques, the owner's thread and then its threads from the top to the bottom
pub record LineLaws (T : Table) (p : ℕ) (d : Deques) : Type 0 where
  -- below each thread stands its parent, at the action right after its fork
  pub links : (front : List Deque) (x : Deque) (rest : List Deque) → d.deques ≡ front ++ x ∷ rest → (above : List ℕ) (t u : ℕ) (under : List ℕ)
      → line (held_by d.state) x ≡ above ++ t ∷ u ∷ under → Link T d.state t u × (parent_of T t ≡ u)
  -- a line has at most N threads
  pub short : (front : List Deque) (x : Deque) (rest : List Deque) → d.deques ≡ front ++ x ∷ rest → length (line (held_by d.state) x) ≤ N T
  -- waits and wakings find the deque empty
  pub waits : (w : ℕ) → w < p → (worker_of d.state w).holds ≡ true → kind T (next_of d.state (worker_of d.state w).thread) ≡ join
      → (status_of d.state (T.argument (next_of d.state (worker_of d.state w).thread)) ≡ ended → ⊥) → (get_or d.deques (place_of w d.deques) nothing).threads ≡ []
  pub wakes : (w : ℕ) → w < p → (worker_of d.state w).holds ≡ true → (u : ℕ) → u < T.threads → status_of d.state u ≡ waiting
      → awaited T d.state u ≡ (worker_of d.state w).thread → (get_or d.deques (place_of w d.deques) nothing).threads ≡ []

-- v is the first action in serial order that is not done
pub record FirstUndone (T : Table) (st : State) (v : ℕ) : Type 0 where
  pub inside : v < T.actions
  pub undone : is_done T st v ≡ false
  pub before : (a : ℕ) → a < T.actions → number_of T a < number_of T v → is_done T st a ≡ true

-- of deques d and the row of turns that led to them from the beginning
pub record RowLaws (T : Table) (p K : ℕ) (d : Deques) (row : List Pair) : Type 0 where
  pub held : HeldLimits T p K row d.state.held
  pub highest : HeldLimits T p K row d.state.highest
  -- no entered unended thread has a load above c, 1 and the greatest place robbed
  pub light : Light T d.state.next d.state.status (deepest T K (start_deques T) row)
  -- every live thread that nobody holds stands at a resting place or at an alloc: so the peak with p threads elsewhere is a limit too, of held and of the highest
  pub placed : (t : ℕ) → t < T.threads → Stands (status_of d.state t) → rests_any T (next_of d.state t) ≡ true
  pub rested : RestLimits T p K row d.state.held × RestLimits T p K row d.state.highest
  -- K for each steal that began beyond the first action not done
  pub stolen : Within T K → (v : ℕ) → FirstUndone T d.state v → d.state.held ≤ S1 T + K * steals T K (start_deques T) row v
  pub lines : LineLaws T p d

module _ (T : Table) (l : Lawful T) (p K : ℕ) (few : p ≤ 16) (row : List Pair) (h : BelowAll p row) where
  row_laws : RowLaws T p K (row_deques T K (start_deques T) row) row
  row_laws =
      let i = from_start T l p K few row h in
      let d : Deques = row_deques T K (start_deques T) row in
      let m = row_limits T l p K few row h in
      record {
        held = m.0;
        highest = m.1;
        light = deque_light T l p K few row h;
        placed = deque_placed T l p K few row h;
        rested = rest_limits T l p K few row h;
        stolen = λ s v f. held_steals T l p K few s row h v f.inside f.undone f.before;
        lines =
            record {
              links = λ front x rest e above t u under q. line_links T l p K _ _ d i front x rest e above t u under q;
              short = λ front x rest e. line_short T l p K _ _ d i front x rest e;
              waits = λ w b o k n. waits_alone T l p K few _ _ d i w b o k n;
              wakes = λ w b o u j e a. wakes_alone T l p K few _ _ d i w b o u j e a;
            };
      }

-- of a record and the row of turns that led to it
pub record DequeLimit (T : Table) (p K : ℕ) (r : DequeRun) (row : List Pair) : Type 0 where
  pub held : HeldLimits T p K row r.run.held
  pub highest : HeldLimits T p K row r.run.highest
  pub now : RowLaws T p K (deques_of r) row
  -- and so after every front part
  pub fronts : (front rest : List Pair) → row ≡ front ++ rest → RowLaws T p K (row_deques T K (start_deques T) front) front

-- for every accepted table, p and K, and every list of calls from the record of the beginning
pub deque_limit_lem : (s : List ℕ) (p K : ℕ) (r : DequeRun) → deque_begin s p K ≡ record { answer = Ok tt; run = r } → (calls : List DequeCall)
    → DequeLimit (table_of (filled_out s K)) p K (after_deque_calls calls r) (pairs_of_calls calls r)
deque_limit_lem s p K r e calls =
    let t : TracedDeques s p K r calls = deque_calls_traced s p K r e calls in
    let T : Table = table_of (filled_out s K) in
    let l : Lawful T = t.started.lawful in
    let few : p ≤ 16 = t.started.settings.few_workers in
    let now : RowLaws T p K (deques_of (after_deque_calls calls r)) (pairs_of_calls calls r) =
    subst (λ (d : Deques). RowLaws T p K d (pairs_of_calls calls r)) (sym t.deques) (row_laws T l p K few (pairs_of_calls calls r) t.below) in
    record {
      held = now.held;
      highest = now.highest;
      now = now;
      fronts = λ front rest q. row_laws T l p K few front (λ g m. t.below g (subst (λ (k : List Pair). Memᴰ g k) (sym q) (Memᴰ.append_left rest m)));
    }

-- ---- the parallel peak

-- bounds every record that is sound but for its turns taken, one made up by hand too
pub deque_parallel_record : (r : DequeRun) → SteadyDeques r → r.run.held ≤ parallel_peak (table_in r.run)
deque_parallel_record r h = parallel_common (table_in r.run) (lawful (bytes_of r.run) h.table) r.run.workers r.run.quota _ _ _ _ _ _ h.common

-- of a record and the row of turns that led to it
pub record DequeParallel (T : Table) (K : ℕ) (r : DequeRun) (row : List Pair) : Type 0 where
  pub within : (r.run.held ≤ parallel_peak T) × (r.run.highest ≤ parallel_peak T)
  -- and so after every front part
  pub fronts : (front rest : List Pair) → row ≡ front ++ rest
      → ((row_deques T K (start_deques T) front).state.held ≤ parallel_peak T) × ((row_deques T K (start_deques T) front).state.highest ≤ parallel_peak T)

-- for every accepted table, p and K, and every list of calls from the record of the beginning
pub deque_parallel : (s : List ℕ) (p K : ℕ) (r : DequeRun) → deque_begin s p K ≡ record { answer = Ok tt; run = r } → (calls : List DequeCall)
    → DequeParallel (table_of (filled_out s K)) K (after_deque_calls calls r) (pairs_of_calls calls r)
deque_parallel s p K r e calls =
    let d : DequeLimit (table_of (filled_out s K)) p K (after_deque_calls calls r) (pairs_of_calls calls r) = deque_limit_lem s p K r e calls in
    let T : Table = table_of (filled_out s K) in
    let l : Lawful T = (deque_calls_traced s p K r e calls).started.lawful in
    let w : workers_peak T (suc p) ≤ parallel_peak T = workers_parallel T l (suc p) in
    record {
      within = (omega (arith, w, d.held.workers), omega (arith, w, d.highest.workers));
      fronts = λ front rest q. let f = d.fronts front rest q in (omega (arith, w, f.held.workers), omega (arith, w, f.highest.workers));
    }

-- with the peaks of the table as given: those of p + 1 workers (`HeldLimits.workers`), and the parallel one
pub deque_given : (s : List ℕ) (p K : ℕ) (r : DequeRun) → deque_begin s p K ≡ record { answer = Ok tt; run = r } → (calls : List DequeCall)
    → ((after_deque_calls calls r).run.highest ≤ workers_peak (table_of s) (suc p)) × ((after_deque_calls calls r).run.highest ≤ parallel_peak (table_of s))
deque_given s p K r e calls =
    let b : (begin s p K).answer ≡ (Ok tt) = sym (deque_begin_answer s p K) ∙ ap (λ (x : DequeBegun). x.answer) e in (
      omega (arith, (deque_limit_lem s p K r e calls).highest.workers, given_workers s p K b (suc p)),
      omega (arith, (deque_parallel s p K r e calls).within.1, given_parallel s p K b),
    )
