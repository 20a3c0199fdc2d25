-- `dfdeques::testing::deque_test` meets its contract: a sound record has its parents noted, and one that is not sound passes where it is blank.
use Rattle.std.specs.Prelude.{Option, None, Some}
use mathlib.Core.Path.{◌≡◌, refl, sym, ◌∙◌}
use Prim.Native.Nat.{ℕ}
use mathlib.Core.List.{List}
use mathlib.Core.Bool.{Bool, true, false}
use lib.ListN.{replicate}
use Rattle.table.specs.Sum.{pick}
use Rattle.schedule.specs.Record.{table_in}
use Rattle.soundness.specs.Tested.{parents_in}
use Rattle.soundness.proofs.Passed.{some_found, none_found}
use Rattle.deques.specs.declared.DequeRun.{DequeRun}
use Rattle.deques.specs.DequeSound.{deque_sound, is_blank_deques}
use Rattle.deques.specs.DequeTurn.{unsound_deques}
use Rattle.dfdeques.specs.DequePacking.{deques_tested}
use Rattle.dfdeques.proofs.testing.deque_test.Goals as goal

-- what is found of a record that may be sound
abbrev found : DequeRun → Option (List ℕ)
found r = pick {A = Option (List ℕ)} (deque_sound r) (Some (parents_in (table_in r.run))) None

module _ (r : DequeRun) where
  is_sound : (l : List ℕ) → Some l ≡ found r → Some l ≡ deques_tested r
  unfolding deques_tested unsound_deques
  is_sound l e =
      let (s, d) = some_found (deque_sound r) (parents_in (table_in r.run)) l e in
      rw (s, d)

  blank_one : None ≡ found r → {b : Bool} → b ≡ is_blank_deques r → b ≡ true → Some (replicate 1024 0) ≡ deques_tested r
  unfolding deques_tested unsound_deques
  blank_one e d t =
      let s = none_found (deque_sound r) (parents_in (table_in r.run)) e in
      let k : is_blank_deques r ≡ true = sym d ∙ t in
      rw (s, k)

  neither : None ≡ found r → {b : Bool} → b ≡ is_blank_deques r → b ≡ false → None ≡ deques_tested r
  unfolding deques_tested unsound_deques
  neither e d t =
      let s = none_found (deque_sound r) (parents_in (table_in r.run)) e in
      let k : is_blank_deques r ≡ false = sym d ∙ t in
      rw (s, k)

pub returns-in-Some : goal.returns-in-Some
returns-in-Some c = is_sound _ _ c.in-Some.ensures

pub returns-then-is_blank : goal.returns-then-is_blank
returns-then-is_blank c = blank_one _ c.in_default.ensures c.is_blank.ensures c.if-is_blank.true

pub returns-else-is_blank : goal.returns-else-is_blank
returns-else-is_blank c = neither _ c.in_default.ensures c.is_blank.ensures c.if-is_blank.false
