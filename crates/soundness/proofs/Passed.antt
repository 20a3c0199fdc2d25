-- What stands behind check 32, and what its test says of a record.
use Rattle.std.specs.Prelude.{Option, None, Some}
use mathlib.Core.Path.{◌≡◌, refl, ap, ◌∙◌}
use Prim.Native.Nat.{ℕ, ◌<◌}
use mathlib.Core.List.{List}
use native.Mathlib.Omega.{arith}
use mathlib.Core.Bool.{Bool, true, false}
use borrow.Author.Tests.{not-false}
use Rattle.table.specs.Sum.{pick}
use Rattle.schedule.specs.declared.Run.{Run}
use Rattle.schedule.specs.Record.{blank, table_in}
use Rattle.schedule.specs.Sound.{Sound, sound}
use Rattle.schedule.specs.Turn.{is_blank, unsound}
use Rattle.schedule.proofs.Sound.Tests.{sound_exactly, blank_exactly}
use Rattle.schedule.proofs.Stores.{steady_fits}
use Rattle.schedule.specs.Parents.{Parents}
use Rattle.soundness.specs.Tested.{parents_if, tested}
use Rattle.soundness.proofs.Noting.{parents_right}

pub blank_none : blank.workers ≡ 0
unfolding blank
blank_none = refl

module _ (r : Run) (e : unsound r ≡ false) where
  -- a record with a worker is sound, one with none is the blank one
  pub has_workers : 0 < r.workers → Sound r
  unfolding unsound
  has_workers h = go (sound r) refl
    where
      go : (s : Bool) → sound r ≡ s → Sound r
      go true i = (sound_exactly r).0 i
      go false i =
          let b : is_blank r ≡ true = not-false (is_blank r) (rw i at e) in
          absurd (omega (arith, ap (λ (x : Run). x.workers) ((blank_exactly r).0 b) ∙ blank_none))

  pub no_workers : r.workers ≡ 0 → r ≡ blank
  unfolding unsound
  no_workers h = go (sound r) refl
    where
      go : (s : Bool) → sound r ≡ s → r ≡ blank
      go true i = absurd (omega (arith, (steady_fits r ((sound_exactly r).0 i).steady).some_worker))
      go false i = (blank_exactly r).0 (not-false (is_blank r) (rw i at e))

-- what a test gives: nothing, or something
pub none_given : (q : Bool) (l : List ℕ) → None ≡ pick {A = Option (List ℕ)} q None (Some l) → q ≡ true
none_given true l e = refl
none_given false l e = cc

pub some_given : (q : Bool) (k l : List ℕ) → Some k ≡ pick {A = Option (List ℕ)} q None (Some l) → (q ≡ false) × (k ≡ l)
some_given true k l e = cc
some_given false k l e = (refl, (cc))

pub some_found : (q : Bool) (l k : List ℕ) → Some k ≡ pick {A = Option (List ℕ)} q (Some l) None → (q ≡ true) × (k ≡ l)
some_found true l k e = (refl, (cc))
some_found false l k e = cc

pub none_found : (q : Bool) (l : List ℕ) → None ≡ pick {A = Option (List ℕ)} q (Some l) None → q ≡ false
none_found true l e = cc
none_found false l e = refl

-- what the test of a record says of it
module _ (r : Run) where
  pub test_fails : None ≡ tested r → unsound r ≡ true
  unfolding tested
  test_fails e = none_given (unsound r) (parents_if (sound r) (table_in r)) e

  module _ (parents : List ℕ) (e : Some parents ≡ tested r) where
    pub test_passes : unsound r ≡ false
    unfolding tested
    test_passes = (some_given (unsound r) parents (parents_if (sound r) (table_in r)) e).0

    pub test_gives : parents ≡ parents_if (sound r) (table_in r)
    unfolding tested
    test_gives = (some_given (unsound r) parents (parents_if (sound r) (table_in r)) e).1

    pub test_parents : Sound r → Parents (table_in r) parents
    test_parents h = parents_right (table_in r) (test_gives ∙ rw ((sound_exactly r).1 h))
