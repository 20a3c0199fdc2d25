-- What stands behind check 32 of a record of DFDeques, and what its test says of a record.
use Rattle.std.specs.Prelude.{None, Some}
use mathlib.Core.Path.{◌≡◌, refl, ap, ◌∙◌}
use Prim.Native.Nat.{ℕ, ◌<◌}
use mathlib.Core.List.{List}
use native.Mathlib.Omega.{arith}
use mathlib.Core.Bool.{Bool, true, false}
use borrow.Author.Tests.{not-false}
use Rattle.schedule.specs.Record.{table_in, blank}
use Rattle.schedule.specs.Parents.{Parents}
use Rattle.soundness.specs.Tested.{parents_if}
use Rattle.soundness.proofs.Passed.{none_given, some_given}
use Rattle.soundness.proofs.Noting.{parents_right}
use Rattle.deques.specs.declared.DequeRun.{DequeRun}
use Rattle.deques.specs.DequeRecord.{blank_deques}
use Rattle.deques.specs.DequeSound.{SoundDeques, deque_sound, is_blank_deques}
use Rattle.deques.specs.DequeTurn.{unsound_deques}
use Rattle.deques.proofs.DequeTests.{deque_sound_exactly, blank_deques_exactly}
use Rattle.deques.proofs.DequeStores.{steady_fits}
use Rattle.dfdeques.specs.DequePacking.{deques_tested}

blank_none : blank_deques.run.workers ≡ 0
unfolding blank_deques blank
blank_none = refl

module _ (r : DequeRun) (e : unsound_deques r ≡ false) where
  -- a record with a worker is sound, one with none is the blank one
  pub deque_workers : 0 < r.run.workers → SoundDeques r
  unfolding unsound_deques
  deque_workers h = go (deque_sound r) refl
    where
      go : (s : Bool) → deque_sound r ≡ s → SoundDeques r
      go true i = (deque_sound_exactly r).0 i
      go false i =
          let b : is_blank_deques r ≡ true = not-false (is_blank_deques r) (rw i at e) in
          absurd (omega (arith, h, ap (λ (x : DequeRun). x.run.workers) ((blank_deques_exactly r).0 b) ∙ blank_none))

  pub deque_none : r.run.workers ≡ 0 → r ≡ blank_deques
  unfolding unsound_deques
  deque_none h = go (deque_sound r) refl
    where
      go : (s : Bool) → deque_sound r ≡ s → r ≡ blank_deques
      go true i = absurd (omega (arith, h, (steady_fits r ((deque_sound_exactly r).0 i).steady).some_worker))
      go false i = (blank_deques_exactly r).0 (not-false (is_blank_deques r) (rw i at e))

-- what the test of a record says of it
module _ (r : DequeRun) where
  pub deque_fails : None ≡ deques_tested r → unsound_deques r ≡ true
  unfolding deques_tested
  deque_fails e = none_given (unsound_deques r) (parents_if (deque_sound r) (table_in r.run)) e

  module _ (parents : List ℕ) (e : Some parents ≡ deques_tested r) where
    pub deque_passes : unsound_deques r ≡ false
    unfolding deques_tested
    deque_passes = (some_given (unsound_deques r) parents (parents_if (deque_sound r) (table_in r.run)) e).0

    pub deque_parents : SoundDeques r → Parents (table_in r.run) parents
    unfolding deques_tested
    deque_parents h = parents_right (table_in r.run) ((some_given (unsound_deques r) parents (parents_if (deque_sound r) (table_in r.run)) e).1 ∙ rw ((deque_sound_exactly r).1 h))
