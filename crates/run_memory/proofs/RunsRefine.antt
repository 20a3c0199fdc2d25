-- On memory in which a record stands, the runs are document 01's: report and record are those of the record's run, and the record after it stands in the memory left.
use mathlib.Core.Path.{◌≡◌, refl, subst}
use Prim.Native.Nat.{ℕ, zero, suc, ◌-◌, ◌^◌, ◌%◌}
use native.Mathlib.Omega.{arith}
use mathlib.Core.List.{List, []}
use mathlib.Core.Bool.{Bool, true, false}
use borrow.Author.Tests.{eqb-true, eqb-false, ne_eqb}
use lib.Dec.{ltb, eqb}
use lib.ListN.{length, get_or}
use Rattle.schedule.specs.declared.Run.{Run}
use Rattle.schedule.specs.declared.Ran.{Ran}
use Rattle.schedule.specs.Turn.{unsound, root_ended, no_worker}
use Rattle.schedule.specs.Runs.{ran, drive, list_run, rounds_run, worker_at}
use Rattle.schedule.proofs.Stores.{steady_fits}
use Rattle.array_machine.proofs.Answers.{steady_full, steady_room}
use Rattle.run_memory.specs.Memory.{Memory, moved_in, hindrance, turn_in}
use Rattle.run_memory.specs.Stands.{run_in, Stands}
use Rattle.run_memory.specs.Runs.{Stopped, over_in, drive_in, list_run_in, rounds_run_in, report_of}
use Rattle.run_memory.proofs.Refines.{taken_so}

-- the workers of a list and of rounds
of_list : (l : List ℕ) (p : ℕ) → worker_at l false p ≡ (λ i. get_or l i 0)
unfolding worker_at
of_list l p = refl

in_rounds_lem : (p : ℕ) → worker_at [] true p ≡ (λ i. i % p)
unfolding worker_at
in_rounds_lem p = refl

-- what is said of where a run in memory stopped: it is the run x of the record
pub record Runs (s : List ℕ) (d : Stopped) (x : Ran) : Type 0 where
  pub by_value : ran (report_of d.number d.finished d.turns) (run_in s d.memory) ≡ x
  pub stands : Stands s d.memory

module _ (s : List ℕ) (who : ℕ → ℕ) (k i : ℕ) (M : Memory) (h : Stands s M) where
  abbrev r : Run
  r = run_in s M

  abbrev Goal : Type 0
  Goal = Runs s (drive_in s who (suc k) i M) (drive who (suc k) i r)

  -- "a run stops at the root's end"
  over_so : over_in M ≡ true → Goal
  unfolding drive_in drive root_ended
  over_so e = rw e (record { by_value = refl; stands = h })

  module _ (e : over_in M ≡ false) where
    full_so : eqb (moved_in M).turns (2 ^ 64 - 1) ≡ true → Goal
    unfolding drive_in turn_in hindrance drive root_ended
    full_so f = rw (e, f) (record { by_value = refl; stands = h })

    module _ (f : eqb (moved_in M).turns (2 ^ 64 - 1) ≡ false) where
      none_so : ltb (who i) (get_or M.settings 0 0) ≡ false → Goal
      unfolding drive_in turn_in hindrance drive root_ended no_worker
      none_so g = rw (e, f, g) (record { by_value = refl; stands = h })

      goes_on : ltb (who i) (get_or M.settings 0 0) ≡ true → ((M' : Memory) → Stands s M' → Runs s (drive_in s who k (suc i) M') (drive who k (suc i) (run_in s M'))) → Goal
      unfolding drive_in drive root_ended no_worker
      goes_on g rest =
          let m = taken_so s M h (who i) f g e in
          rw (e, m.number, f, g, ← m.record_after) (rest (turn_in s (who i) M).memory m.stands)

module _ (s : List ℕ) (who : ℕ → ℕ) where
  drive_refines : (k i : ℕ) (M : Memory) → Stands s M → Runs s (drive_in s who k i M) (drive who k i (run_in s M))
  unfolding drive_in drive root_ended
  drive_refines zero i M h = record { by_value = refl; stands = h }
  drive_refines (suc k) i M h =
      go (over_in M) refl (eqb (moved_in M).turns (2 ^ 64 - 1)) refl (ltb (who i) (get_or M.settings 0 0)) refl (λ M' h'. drive_refines k (suc i) M' h')
    where
      go : (b : Bool) → over_in M ≡ b → (x : Bool) → eqb (moved_in M).turns (2 ^ 64 - 1) ≡ x → (y : Bool) → ltb (who i) (get_or M.settings 0 0) ≡ y
          → ((M' : Memory) → Stands s M' → Runs s (drive_in s who k (suc i) M') (drive who k (suc i) (run_in s M')))
          → Runs s (drive_in s who (suc k) i M) (drive who (suc k) i (run_in s M))
      go true e x f y g rest = over_so s who k i M h e
      go false e true f y g rest = full_so s who k i M h e f
      go false e false f false g rest = none_so s who k i M h e f g
      go false e false f true g rest = goes_on s who k i M h e f g rest

module _ (s : List ℕ) (M : Memory) (h : Stands s M) where
  abbrev here : Run
  here = run_in s M

  some_worker : get_or M.settings 0 0 ≡ 0 → ⊥
  some_worker e = omega (arith, e, (steady_fits here h.steady).some_worker)

  room : eqb (moved_in M).turns (2 ^ 64 - 1) ≡ false → unsound here ≡ false
  room x = steady_room here h.steady h.turns_fit (eqb-false _ _ x)

  -- a run over a list
  pub list_refines : (l : List ℕ) → Runs s (list_run_in s l M) (list_run here l)
  unfolding list_run_in list_run
  list_refines l = go (eqb (moved_in M).turns (2 ^ 64 - 1)) refl
    where
      go : (x : Bool) → eqb (moved_in M).turns (2 ^ 64 - 1) ≡ x → Runs s (list_run_in s l M) (list_run here l)
      go true x = rw (x, steady_full here h.steady (eqb-true _ _ x)) (record { by_value = refl; stands = h })
      go false x =
          rw (x, room x)
          (subst (λ (f : ℕ → ℕ). Runs s (drive_in s (worker_at l false (get_or M.settings 0 0)) (length l) 0 M) (drive f (length l) 0 here)) (of_list l (get_or M.settings 0 0))
          (drive_refines s (worker_at l false (get_or M.settings 0 0)) (length l) 0 M h))

  -- a run in rounds
  pub rounds_refines : (limit : ℕ) → Runs s (rounds_run_in s limit M) (rounds_run here limit)
  unfolding rounds_run_in rounds_run
  rounds_refines limit = go (eqb (moved_in M).turns (2 ^ 64 - 1)) refl
    where
      go : (x : Bool) → eqb (moved_in M).turns (2 ^ 64 - 1) ≡ x → Runs s (rounds_run_in s limit M) (rounds_run here limit)
      go true x = rw (x, steady_full here h.steady (eqb-true _ _ x)) (record { by_value = refl; stands = h })
      go false x =
          rw (x, room x, ne_eqb (get_or M.settings 0 0) 0 some_worker)
          (subst (λ (f : ℕ → ℕ). Runs s (drive_in s (worker_at [] true (get_or M.settings 0 0)) limit 0 M) (drive f limit 0 here)) (in_rounds_lem (get_or M.settings 0 0))
          (drive_refines s (worker_at [] true (get_or M.settings 0 0)) limit 0 M h))
