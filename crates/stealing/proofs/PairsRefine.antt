-- On memory in which a record of DFDeques stands, a run over pairs is the record's: report and record are those of its run, and the record after it stands in the memory left.
use mathlib.Core.Path.{◌≡◌, refl}
use Prim.Native.Nat.{ℕ, zero, suc, ◌-◌, ◌^◌, ◌/◌}
use mathlib.Core.List.{List}
use mathlib.Core.Bool.{Bool, true, false}
use borrow.Author.Tests.{eqb-true, eqb-false}
use lib.Dec.{ltb, eqb}
use lib.ListN.{length, get_or}
use Rattle.schedule.specs.Turn.{root_ended, no_worker}
use Rattle.run_memory.specs.Memory.{Memory, moved_in}
use Rattle.run_memory.specs.Runs.{Stopped, over_in, report_of}
use Rattle.deques.specs.declared.DequeRan.{DequeRan}
use Rattle.deques.specs.DequeTurn.{no_choice}
use Rattle.deques.specs.DequeRuns.{Pair, pair_at, deque_ran, drive_deques, pairs_run}
use Rattle.stealing.specs.StealingMemory.{deque_hindrance, deque_turn_in, deque_drive_in, deque_list_in, deque_run_in, DequesStand}
use Rattle.stealing.proofs.InMemory.{deques_full, deques_room, deque_taken}

-- what is said of where a run in memory stopped: it is the run x of the record
pub record RunsDeques (s : List ℕ) (d : Stopped) (x : DequeRan) : Type 0 where
  pub by_value : deque_ran (report_of d.number d.finished d.turns) (deque_run_in s d.memory) ≡ x
  pub stands : DequesStand s d.memory

module _ (s : List ℕ) (who : ℕ → Pair) (k i : ℕ) (M : Memory) (h : DequesStand s M) where
  abbrev Goal : Type 0
  Goal = RunsDeques s (deque_drive_in s who (suc k) i M) (drive_deques who (suc k) i (deque_run_in s M))

  abbrev w : ℕ
  w = (who i).worker

  abbrev c : ℕ
  c = (who i).choice

  over_so : over_in M ≡ true → Goal
  unfolding deque_drive_in drive_deques root_ended
  over_so e = rw e (record { by_value = refl; stands = h })

  module _ (e : over_in M ≡ false) where
    full_so : eqb (moved_in M).turns (2 ^ 64 - 1) ≡ true → Goal
    unfolding deque_drive_in deque_turn_in deque_hindrance drive_deques root_ended
    full_so f = rw (e, f) (record { by_value = refl; stands = h })

    module _ (f : eqb (moved_in M).turns (2 ^ 64 - 1) ≡ false) where
      none_so : ltb w (get_or M.settings 0 0) ≡ false → Goal
      unfolding deque_drive_in deque_turn_in deque_hindrance drive_deques root_ended no_worker
      none_so g = rw (e, f, g) (record { by_value = refl; stands = h })

      module _ (g : ltb w (get_or M.settings 0 0) ≡ true) where
        choice_so : ltb c (get_or M.settings 0 0) ≡ false → Goal
        unfolding deque_drive_in deque_turn_in deque_hindrance drive_deques root_ended no_worker no_choice
        choice_so j = rw (e, f, g, j) (record { by_value = refl; stands = h })

        goes_on : ltb c (get_or M.settings 0 0) ≡ true
            → ((M' : Memory) → DequesStand s M' → RunsDeques s (deque_drive_in s who k (suc i) M') (drive_deques who k (suc i) (deque_run_in s M'))) → Goal
        unfolding deque_drive_in drive_deques root_ended no_worker no_choice
        goes_on j rest =
            let m = deque_taken s M h w c f g e j in
            rw (e, m.number, f, g, j, ← m.record_after) (rest (deque_turn_in s w c M).memory m.stands)

module _ (s : List ℕ) (who : ℕ → Pair) where
  drive_refines : (k i : ℕ) (M : Memory) → DequesStand s M → RunsDeques s (deque_drive_in s who k i M) (drive_deques who k i (deque_run_in s M))
  unfolding deque_drive_in drive_deques root_ended
  drive_refines zero i M h = record { by_value = refl; stands = h }
  drive_refines (suc k) i M h =
      go (over_in M) refl (eqb (moved_in M).turns (2 ^ 64 - 1)) refl (ltb (who i).worker (get_or M.settings 0 0)) refl (ltb (who i).choice (get_or M.settings 0 0)) refl (λ M' h'. drive_refines k (suc i) M' h')
    where
      go : (b : Bool) → over_in M ≡ b → (x : Bool) → eqb (moved_in M).turns (2 ^ 64 - 1) ≡ x → (y : Bool) → ltb (who i).worker (get_or M.settings 0 0) ≡ y
          → (z : Bool) → ltb (who i).choice (get_or M.settings 0 0) ≡ z
          → ((M' : Memory) → DequesStand s M' → RunsDeques s (deque_drive_in s who k (suc i) M') (drive_deques who k (suc i) (deque_run_in s M')))
          → RunsDeques s (deque_drive_in s who (suc k) i M) (drive_deques who (suc k) i (deque_run_in s M))
      go true e x f y g z j rest = over_so s who k i M h e
      go false e true f y g z j rest = full_so s who k i M h e f
      go false e false f false g z j rest = none_so s who k i M h e f g
      go false e false f true g false j rest = choice_so s who k i M h e f g j
      go false e false f true g true j rest = goes_on s who k i M h e f g j rest

-- a run over pairs
pub deque_list_refines : (s : List ℕ) (M : Memory) → DequesStand s M → (l : List ℕ) → RunsDeques s (deque_list_in s l M) (pairs_run (deque_run_in s M) l)
unfolding deque_list_in pairs_run
deque_list_refines s M h l = go (eqb (moved_in M).turns (2 ^ 64 - 1)) refl
  where
    go : (x : Bool) → eqb (moved_in M).turns (2 ^ 64 - 1) ≡ x → RunsDeques s (deque_list_in s l M) (pairs_run (deque_run_in s M) l)
    go true x = rw (x, deques_full (deque_run_in s M) h.steady (eqb-true _ _ x)) (record { by_value = refl; stands = h })
    go false x =
        rw (x, deques_room (deque_run_in s M) h.steady h.turns_fit (eqb-false _ _ x)) (drive_refines s (pair_at l) (length l / 2) 0 M h)
