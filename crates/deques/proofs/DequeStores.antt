-- The record and its deques: what is stored is read back, deques that are kept stored give a sound record, and a turn keeps it so.
use Rattle.std.specs.Prelude.{Ok}
use mathlib.Core.Path.{◌≡◌, refl, sym, ap, subst}
use Prim.Native.Nat.{ℕ, suc, ◌+◌, ◌<◌}
use native.Mathlib.Omega.{arith}
use native.Mathlib.Decide.{ℕ_discrete}
use mathlib.Core.List.{List, [], ◌∷◌}
use mathlib.Core.Bool.{Bool}
use mathlib.Core.Logic.{inr}
use lib.ListN.{length, get_or}
use lib.Dec.{leb, eqb}
use borrow.Author.Tests.{ne_eqb}
use Rattle.table.specs.Sum.{pick}
use Rattle.table.specs.Rules.{Rules}
use Rattle.table.specs.Pass.{first_found}
use Rattle.table.specs.Format.{Table, kind}
use Rattle.table.specs.declared.kinds.Kind.{Kind}
use Rattle.table.specs.declared.kinds.Kind.TheVariants.{End as end, Work as work, Alloc as alloc, Free as free, Fork as fork, Join as join, Unknown as unknown}
use Rattle.schedule.specs.declared.Run.{Run}
use Rattle.schedule.specs.Memory.{count_in}
use Rattle.schedule.specs.Machine.{State, ended, next_of, status_of, worker_of, parent_of, with_list, without, left_of, waits_for, woken, released, Stepped, act, act_by, taken, counted, drawn}
use Rattle.schedule.specs.Links.{laid}
use Rattle.schedule.specs.Record.{max_bytes, bytes_of, table_in}
use Rattle.schedule.specs.Begin.{setting_passes, start_state}
use Rattle.order.specs.Words.{filled}
use Rattle.order.proofs.Lawful.{Lawful, lawful}
use Rattle.schedule.proofs.Sound.Facts.{sound_facts}
use Rattle.schedule.proofs.Preservation.Starts.{start_facts, start_root, start_unborn, start_worker}
use Rattle.schedule.proofs.Preservation.Turns.{either}
use Rattle.schedule.proofs.Stores.{Fits, setting_fits}
use Rattle.schedule.proofs.Linked.Links.{laid_linked}
use Rattle.deques.specs.declared.DequeRun.{DequeRun}
use Rattle.deques.specs.Deques.{Deque, is_empty, nothing, place_of, Deques, over, start_deques, goes_to, goes_on, let_go, DequeStep, act_deques, steal, deque_turn}
use Rattle.deques.specs.DequeRecord.{deques_in, deques_of, lines_for, bottoms_for, deque_stored}
use Rattle.deques.specs.DequeSound.{SteadyDeques}
use Rattle.deques.specs.DequeTurn.{step_deques}
use Rattle.deques.specs.DequeRuns.{Pair, deque_moved}
use Rattle.deques.specs.Lines.{lines_of, bottoms_of, thread_of}
use Rattle.deques.specs.Partition.{occurs, owned_by, AllInUse, ready_at, holds_at, PlacedDeques}
use Rattle.deques.proofs.DequeTurns.{Kept, turn_kept}
use Rattle.deques.proofs.Read.{deques_read}

-- ---- the list of the state stays empty, and a turn counts as one

record Still (n : ℕ) (st : State) : Type 0 where
  list : st.list ≡ []
  turns : st.turns ≡ n

module _ (T : Table) (K w n : ℕ) where
  act_still : (k : Kind) (t a x : ℕ) (st : State) → Still n st → Still n (act_by k T K w t a x st).state
  unfolding act_by woken left_of without
  act_still end t a x st e =
      either (Still n) (waits_for T (with_list (without t st.list) (released w t ended st)) (parent_of T t) t) _ _
      (λ i. record { list = ap (without t) e.list; turns = e.turns }) (λ i. record { list = ap (without t) e.list; turns = e.turns })
  act_still work t a x st e = record { list = e.list; turns = e.turns }
  act_still alloc t a x st e =
      either (λ (s : Stepped). Still n s.state) (leb (drawn K x) (worker_of st w).quota) _ _ (λ i. record { list = e.list; turns = e.turns })
      (λ i. record { list = e.list; turns = e.turns })
  act_still free t a x st e = record { list = e.list; turns = e.turns }
  act_still fork t a x st e = record { list = ap (left_of x t) e.list; turns = e.turns }
  act_still join t a x st e =
      either (λ (s : Stepped). Still n s.state) (eqb (status_of st x) ended) _ _ (λ i. record { list = e.list; turns = e.turns })
      (λ i. record { list = e.list; turns = e.turns })
  act_still unknown t a x st e = e

  taken_still : (q t : ℕ) (st : State) → Still n st → Still n (taken q w t st)
  unfolding taken
  taken_still q t st e = record { list = e.list; turns = e.turns }

  goes_still : (q : ℕ) (st : State) (ds : List Deque) → Still n st → Still n (goes_on q w st ds).state
  unfolding goes_on
  goes_still q st ds e = go (get_or ds (place_of w ds) nothing).threads
    where
      go : (l : List ℕ) → Still n (goes_to q w st ds l).state
      go [] = e
      go (t ∷ l) = taken_still q t st e

  lets_still : (k : Kind) (wakes : Bool) (q t x u : ℕ) (st : State) (ds : List Deque) → Still n st → Still n (let_go k wakes q w t x u st ds).state
  unfolding let_go
  lets_still fork wakes q t x u st ds e = taken_still q x st e
  lets_still end wakes q t x u st ds e = either (λ (d : Deques). Still n d.state) wakes _ _ (λ i. taken_still q u st e) (λ i. goes_still q st ds e)
  lets_still join wakes q t x u st ds e = goes_still q st ds e
  lets_still alloc wakes q t x u st ds e = e
  lets_still work wakes q t x u st ds e = e
  lets_still free wakes q t x u st ds e = e
  lets_still unknown wakes q t x u st ds e = e

  acts_still : (st : State) (ds : List Deque) → Still n st → Still n (act_deques T K w st ds).after.state
  unfolding act_deques act
  acts_still st ds e =
      let t : ℕ = (worker_of st w).thread in
      let a : ℕ = next_of st t in
      let s : Still n (act T K w st).state = act_still (kind T a) t a (T.argument a) st e in
      either (λ (d : Deques). Still n d.state) (worker_of (act T K w st).state w).holds _ _ (λ i. s)
      (λ i. lets_still (kind T a) (waits_for T st (parent_of T t) t) (worker_of st w).quota t (T.argument a) (parent_of T t) (act T K w st).state ds s)

  turn_still : (c : ℕ) (d : Deques) → Still n d.state → Still (suc n) (deque_turn T K w c d).after.state
  unfolding deque_turn steal
  turn_still c d e = counts _ both
    where
      both : Still n (pick (worker_of d.state w).holds (act_deques T K w d.state d.deques) (steal T K w c d)).after.state
      both =
          either (λ (s : DequeStep). Still n s.after.state) (worker_of d.state w).holds _ _ (λ i. acts_still d.state d.deques e)
          (λ i. either (λ (s : DequeStep). Still n s.after.state) (is_empty (get_or d.deques c nothing).threads) _ _ (λ j. e) (λ j. acts_still _ _ (taken_still K _ d.state e)))

      counts : (st : State) → Still n st → Still (suc n) (counted st)
      counts st x = record { list = x.list; turns = ap suc x.turns }

-- ---- what is stored is read back

module _ (T : Table) (l : Lawful T) (p K : ℕ) (d : Deques) (k : Kept T p K d) (r : Run) where
  pub stored_deques : deques_in (deque_stored r d) ≡ d.deques
  stored_deques =
      deques_read T l p K (laid (lines_for d)) (laid (bottoms_for d)) d k (record { lines = laid_linked (lines_for d); bottoms = laid_linked (bottoms_for d) })

  pub stored_back : d.state.list ≡ [] → deques_of (deque_stored r d) ≡ d
  stored_back e = λ i. over (with_list (sym e i) d.state) (stored_deques i)

-- ---- a turn on a record

still : (r : DequeRun) (g : Pair) → Still (suc r.run.turns) (step_deques r g.worker g.choice).after.state
unfolding step_deques
still r g = turn_still (table_in r.run) r.run.quota g.worker r.run.turns g.choice (deques_of r) (record { list = refl; turns = refl })

-- "Every turn counts as one."
pub moved_turns : (r : DequeRun) (g : Pair) → (deque_moved r g).run.turns ≡ suc r.run.turns
moved_turns r g = (still r g).turns

-- ---- a sound record

-- deques that are kept, in a record with a table that keeps the rules
module _ (r : Run) (rules : Rules (bytes_of r)) (settings : first_found (setting_passes r.workers r.quota) ≡ Ok tt) (size : length (bytes_of r) ≡ r.length)
    (rest : r.table ≡ filled max_bytes (bytes_of r)) (d : Deques) (k : Kept (table_in r) r.workers r.quota d) where
  back : deques_in (deque_stored r d) ≡ d.deques
  back = stored_deques (table_in r) (lawful (bytes_of r) rules) r.workers r.quota d k r

  pub stored_steady : SteadyDeques (deque_stored r d)
  stored_steady =
      record {
        table = rules;
        settings = settings;
        common = k.common;
        set = refl;
        table_length = size;
        table_rest = rest;
        placed = subst (λ (z : List Deque). PlacedDeques (table_in r).threads d.state.status d.state.workers z) (sym back) k.placed;
        lines = ap (λ (z : List Deque). laid (lines_of (thread_of d.state.workers) z)) (sym back);
        bottoms = ap (λ (z : List Deque). laid (bottoms_of (thread_of d.state.workers) z)) (sym back);
      }

module _ (r : DequeRun) (h : SteadyDeques r) where
  pub steady_lawful : Lawful (table_in r.run)
  steady_lawful = lawful (bytes_of r.run) h.table

  pub steady_fits : Fits r.run.workers r.run.quota
  steady_fits = setting_fits r.run.workers r.run.quota h.settings

  pub steady_kept : Kept (table_in r.run) r.run.workers r.run.quota (deques_of r)
  steady_kept = record { common = h.common; placed = h.placed }

  module _ (g : Pair) (b : g.worker < r.run.workers) where
    moved_kept : Kept (table_in r.run) r.run.workers r.run.quota (step_deques r g.worker g.choice).after
    unfolding step_deques
    moved_kept = turn_kept (table_in r.run) steady_lawful r.run.workers r.run.quota steady_fits.few_workers g.worker b g.choice (deques_of r) steady_kept

    pub moved_steady : SteadyDeques (deque_moved r g)
    moved_steady = stored_steady r.run h.table h.settings h.table_length h.table_rest (step_deques r g.worker g.choice).after moved_kept

    -- the deques read off the record after a turn are the turn's
    pub moved_deques : deques_of (deque_moved r g) ≡ (step_deques r g.worker g.choice).after
    unfolding step_deques
    moved_deques =
        stored_back (table_in r.run) steady_lawful r.run.workers r.run.quota (step_deques r g.worker g.choice).after moved_kept r.run
        (still r g).list

-- ---- a beginning

module _ (T : Table) (l : Lawful T) (p K : ℕ) where
  pub start_kept : Kept T p K (start_deques T)
  unfolding occurs count_in owned_by AllInUse
  start_kept =
      record {
        common = (sound_facts T l p K (start_state T) (start_facts T l p K)).common;
        placed =
            record {
              once = λ t h. at t (ℕ_discrete t 0);
              none = λ t h. off t (λ e. omega (arith, e, h, l.some_thread));
              owned = own_none;
              in_use = (inr (refl, refl), tt);
            };
      }
    where
      off : (t : ℕ) → (t ≡ 0 → ⊥) → pick (eqb 0 t) 1 0 + 0 + 0 ≡ 0
      off t n = rw (ne_eqb 0 t (λ e. n (sym e))) (omega arith)

      at : (t : ℕ) → Dec (t ≡ 0) → pick (eqb 0 t) 1 0 + 0 + 0 ≡ ready_at (start_state T).status t
      at t (yes e) = rw (e, start_root T l)
      at t (no e) = rw (start_unborn T l t (omega (arith, e))) (off t e)

      own_none : (w : ℕ) → w < 16 → pick (eqb 16 w) 1 0 + 0 ≡ holds_at (start_state T).workers w
      own_none w i = rw (ne_eqb 16 w (λ e. omega (arith, e, i)), start_worker T l w)
