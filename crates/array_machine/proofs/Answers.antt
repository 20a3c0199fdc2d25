-- What a turn of a record that is sound but for its turns taken answers, by the checks; how many threads it passes over.
use Rattle.std.specs.Prelude.{Err}
use Rattle.schedule.specs.Turn.{taken_turn}
use mathlib.Core.Path.{◌≡◌, refl, ap, ◌∙◌}
use Prim.Native.Nat.{ℕ, ◌-◌, ◌^◌, ◌≤◌, ◌<◌}
use native.Mathlib.Omega.{arith}
use mathlib.Core.Bool.{Bool, true, false, not, ◌&&◌}
use lib.ListN.{length, get_or}
use lib.Dec.{eqb}
use borrow.Author.Tests.{lt-ltb, le-ltb, eq-eqb, ne_eqb}
use Rattle.table.specs.Pass.{refusal, try_at}
use Rattle.table.specs.Sum.{pick}
use Rattle.schedule.specs.declared.Run.{Run}
use Rattle.schedule.specs.declared.Turned.{Turned}
use Rattle.schedule.specs.Machine.{worker_of, leftmost, passed_by}
use Rattle.schedule.specs.Links.{no_thread, seek}
use Rattle.table.specs.Checks.{max_threads}
use Rattle.schedule.specs.Record.{blank, table_in, list_in, state_of}
use Rattle.schedule.specs.Sound.{Steady, sound}
use Rattle.schedule.specs.Turn.{is_blank, unsound, root_ended, no_worker, turn_checks, step_run, passed_in, turned}
use Rattle.schedule.specs.Runs.{moved}
use Rattle.schedule.proofs.Sound.Tests.{sound_exactly, blank_exactly}
use Rattle.order.proofs.Lists.{Below}
use Rattle.schedule.proofs.Linked.Links.{seek_walk}
use Rattle.schedule.proofs.Linked.Searches.{found_below}
use Rattle.schedule.proofs.Linked.ActiveMoves.{list_small}
use Rattle.schedule.proofs.Stores.{steady_lawful, steady_fits, steady_facts}
use Rattle.array_machine.specs.Counted.{passed_along}

-- ---- what stands behind check 32

-- turns taken decides it on a record that is sound but for them
pub steady_full : (r : Run) → Steady r → r.turns ≡ 2 ^ 64 - 1 → unsound r ≡ true
unfolding unsound blank
steady_full r h e = go (sound r) refl (is_blank r) refl
  where
    go : (s : Bool) → sound r ≡ s → (b : Bool) → is_blank r ≡ b → not (sound r) && not (is_blank r) ≡ true
    go true i b j = absurd (omega (arith, ((sound_exactly r).0 i).turns, e))
    go false i true j = absurd (omega (arith, ap (λ (x : Run). x.workers) ((blank_exactly r).0 j), (steady_fits r h).some_worker))
    go false i false j = rw (i, j)

pub steady_room : (r : Run) → Steady r → r.turns < 2 ^ 64 → (r.turns ≡ 2 ^ 64 - 1 → ⊥) → unsound r ≡ false
unfolding unsound
steady_room r h k e = rw ((sound_exactly r).1 (record { steady = h; turns = omega (arith, k, e) }))

-- ---- a single turn

abbrev pub refused_as : ℕ → Run → Turned
refused_as number r = record { answer = Err (refusal number 0); run = r }

module _ (r : Run) (w : ℕ) where
  pub turned_unsound : unsound r ≡ true → refused_as 32 r ≡ turned r w
  unfolding turned turn_checks try_at
  turned_unsound e = rw e

  module _ (e : unsound r ≡ false) where
    pub turned_none : r.workers ≤ w → refused_as 30 r ≡ turned r w
    unfolding turned turn_checks try_at no_worker
    turned_none h = rw (e, le-ltb w r.workers h)

    module _ (h : w < r.workers) where
      pub turned_over : root_ended r ≡ true → refused_as 31 r ≡ turned r w
      unfolding turned turn_checks try_at no_worker
      turned_over o = rw (e, lt-ltb w r.workers h, o)

      pub turned_taken : root_ended r ≡ false → record { answer = taken_turn (step_run r w).reply (passed_in r w); run = moved r w } ≡ turned r w
      unfolding turned turn_checks try_at no_worker
      turned_taken o = rw (e, lt-ltb w r.workers h, o)

-- the root's status
pub root_over : (r : Run) → get_or r.status 0 0 ≡ 4 → root_ended r ≡ true
unfolding root_ended
root_over r e = eq-eqb (get_or r.status 0 0) 4 e

pub root_open : (r : Run) → (get_or r.status 0 0 ≡ 4 → ⊥) → root_ended r ≡ false
unfolding root_ended
root_open r e = ne_eqb (get_or r.status 0 0) 4 e

-- ---- how many threads stand left of the one that a worker takes

-- the search along the record's links counts them
pub passed_along_lem : (r : Run) (w : ℕ) → Steady r → {k : ℕ} → k ≡ passed_along (worker_of (state_of r) w).holds (seek max_threads r.status r.right r.leftmost) → k ≡ passed_in r w
unfolding passed_along passed_in passed_by
passed_along_lem r w h {k} e =
    e ∙ rw (seek_walk max_threads r.status r.right r.leftmost, found_below r.status (list_in r) small)
    (ap (pick (worker_of (state_of r) w).holds 0) (go (eqb (leftmost r.status (list_in r)) (length (list_in r))) (leftmost r.status (list_in r))))
  where
    small : Below no_thread (list_in r)
    small = list_small (table_in r) (steady_lawful r h) r.workers r.quota (state_of r) (steady_facts r h)

    go : (q : Bool) (i : ℕ) → pick (not q) i 0 ≡ pick q 0 i
    go true i = refl
    go false i = refl
