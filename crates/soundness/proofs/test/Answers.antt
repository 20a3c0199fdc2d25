-- `soundness::test` meets its contract: a sound record has its parents noted, and one that is not sound passes where it is blank.
use Rattle.std.specs.Prelude.{Option, None, Some}
use mathlib.Core.Path.{◌≡◌, sym, ◌∙◌}
use Prim.Native.Nat.{ℕ}
use mathlib.Core.List.{List}
use mathlib.Core.Bool.{Bool, true, false}
use lib.ListN.{replicate}
use Rattle.table.specs.Sum.{pick}
use Rattle.schedule.specs.declared.Run.{Run}
use Rattle.schedule.specs.Record.{table_in}
use Rattle.schedule.specs.Sound.{sound}
use Rattle.schedule.specs.Turn.{is_blank, unsound}
use Rattle.soundness.specs.Tested.{parents_in, tested}
use Rattle.soundness.proofs.Passed.{some_found, none_found}
use Rattle.soundness.proofs.test.Goals as goal

-- what is found of a record that may be sound
abbrev found : Run → Option (List ℕ)
found r = pick {A = Option (List ℕ)} (sound r) (Some (parents_in (table_in r))) None

module _ (r : Run) where
  is_sound : (l : List ℕ) → Some l ≡ found r → Some l ≡ tested r
  unfolding tested unsound
  is_sound l e =
      let (s, d) = some_found (sound r) (parents_in (table_in r)) l e in
      rw (s, d)

  blank_one : None ≡ found r → {b : Bool} → b ≡ is_blank r → b ≡ true → Some (replicate 1024 0) ≡ tested r
  unfolding tested unsound
  blank_one e d t =
      let s = none_found (sound r) (parents_in (table_in r)) e in
      let k : is_blank r ≡ true = sym d ∙ t in
      rw (s, k)

  neither : None ≡ found r → {b : Bool} → b ≡ is_blank r → b ≡ false → None ≡ tested r
  unfolding tested unsound
  neither e d t =
      let s = none_found (sound r) (parents_in (table_in r)) e in
      let k : is_blank r ≡ false = sym d ∙ t in
      rw (s, k)

pub returns-in-Some : goal.returns-in-Some
returns-in-Some c = is_sound _ _ c.in-Some.ensures

pub returns-then-is_blank : goal.returns-then-is_blank
returns-then-is_blank c = blank_one _ c.in_default.ensures c.is_blank.ensures c.if-is_blank.true

pub returns-else-is_blank : goal.returns-else-is_blank
returns-else-is_blank c = neither _ c.in_default.ensures c.is_blank.ensures c.if-is_blank.false
