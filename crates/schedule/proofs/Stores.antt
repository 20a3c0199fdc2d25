-- The record and its state: what is stored is read back, a sound state stored gives a sound record, and what 20 and 21 say.
use Rattle.std.specs.Prelude.{Ok}
use mathlib.Core.Path.{◌≡◌, refl, sym, ap}
use Prim.Native.Nat.{ℕ, ◌≤◌, ◌<◌}
use native.Mathlib.Omega.{arith}
use mathlib.Core.List.{[], ◌∷◌}
use Rattle.table.specs.Format.{Table}
use Rattle.table.specs.Pass.{first_found}
use Rattle.table.specs.Checks.{max_threads, outside}
use Rattle.table.proofs.Sizes.{inside}
use Rattle.table.proofs.Passes.{try_pass_from_0, first_found_nothing}
use Rattle.schedule.specs.declared.Run.{Run}
use Rattle.schedule.specs.Machine.{State, turn_of}
use Rattle.schedule.specs.Links.{walk, laid}
use Rattle.schedule.specs.Record.{max_workers, table_in, bytes_of, state_of, stored}
use Rattle.schedule.specs.Begin.{max_quota, setting_passes}
use Rattle.schedule.specs.Sound.{Steady}
use Rattle.schedule.specs.Turn.{step_run}
use Rattle.schedule.specs.Runs.{moved}
use Rattle.order.proofs.Lawful.{Lawful, lawful}
use Rattle.schedule.proofs.Sound.Facts.{Facts, facts, sound_facts}
use Rattle.schedule.proofs.Preservation.Turns.{turn_facts}
use Rattle.schedule.proofs.Linked.ActiveMoves.{list_once, list_small}
use Rattle.schedule.proofs.Linked.Links.{walk_laid}

-- ---- p and K

-- 20 and 21 do not apply
pub record Fits (p K : ℕ) : Type 0 where
  pub some_worker : 1 ≤ p
  pub few_workers : p ≤ 16
  pub some_quota : 1 ≤ K
  pub few_quota : K ≤ 16777215

pub setting_fits : (p K : ℕ) → first_found (setting_passes p K) ≡ Ok tt → Fits p K
setting_fits p K e =
    let h = (first_found_nothing (setting_passes p K)).0 e in
    let g = (try_pass_from_0 1 (record { number = 20; applies = λ i. outside 1 max_workers p } ∷ record { number = 21; applies = λ i. outside 1 max_quota K } ∷ [])).0 h.0 in
    let w = inside 1 max_workers p (g.0 0 (omega arith)) in
    let q = inside 1 max_quota K (g.1.0 0 (omega arith)) in
    record { some_worker = w.0; few_workers = w.1; some_quota = q.0; few_quota = q.1 }

-- ---- the record with another state

-- the list is read back from the links that it is laid into, since it has each thread once
module _ (T : Table) (l : Lawful T) (p K : ℕ) (st : State) (f : Facts T p K st) where
  pub laid_back : walk max_threads (laid st.list).right (laid st.list).head ≡ st.list
  laid_back = walk_laid st.list (list_once T l p K st f) (list_small T l p K st f)

  pub state_of_stored : (r : Run) → state_of (stored r st) ≡ st
  state_of_stored r = rw laid_back

module _ (r : Run) (h : Steady r) where
  pub steady_lawful : Lawful (table_in r)
  steady_lawful = lawful (bytes_of r) h.table

  pub steady_fits : Fits r.workers r.quota
  steady_fits = setting_fits r.workers r.quota h.settings

  pub steady_facts : Facts (table_in r) r.workers r.quota (state_of r)
  steady_facts = facts (table_in r) steady_lawful r.workers r.quota (state_of r) h.state

  pub stored_steady : (st : State) → Facts (table_in r) r.workers r.quota st → Steady (stored r st)
  stored_steady st f =
      record {
        table = h.table;
        settings = h.settings;
        state = rw (state_of_stored (table_in r) steady_lawful r.workers r.quota st f r) (sound_facts (table_in r) steady_lawful r.workers r.quota st f);
        set = refl;
        table_length = h.table_length;
        table_rest = h.table_rest;
        links = ap laid (sym (laid_back (table_in r) steady_lawful r.workers r.quota st f));
      }

  module _ (w : ℕ) (b : w < r.workers) where
    moved_facts : Facts (table_in r) r.workers r.quota (turn_of (table_in r) r.quota w (state_of r)).state
    moved_facts = turn_facts (table_in r) steady_lawful r.workers r.quota steady_fits.few_workers w b (state_of r) steady_facts

    pub moved_steady : Steady (moved r w)
    unfolding step_run
    moved_steady = stored_steady (turn_of (table_in r) r.quota w (state_of r)).state moved_facts

    -- the state read off the record after a turn is the turn's
    pub moved_state : state_of (moved r w) ≡ (turn_of (table_in r) r.quota w (state_of r)).state
    unfolding step_run
    moved_state = state_of_stored (table_in r) steady_lawful r.workers r.quota (turn_of (table_in r) r.quota w (state_of r)).state moved_facts r
