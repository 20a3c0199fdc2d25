-- `soundness::sound::sound` meets its contract: a record is sound where its parts are and its table is a copy of the bytes in use.
use Rattle.std.specs.Prelude.{Option, None, Some}
use mathlib.Core.Path.{◌≡◌, sym, ◌∙◌}
use Prim.Native.Nat.{ℕ, ◌≤◌}
use mathlib.Core.List.{List}
use mathlib.Core.Bool.{Bool, true, false}
use native.Mathlib.Omega.{arith}
use borrow.Author.Rules.{rules}
use lib.ListN.{length}
use lib.Seq.{length-take-le}
use Rattle.table.specs.Sum.{pick}
use Rattle.schedule.specs.declared.Run.{Run}
use Rattle.schedule.specs.Record.{bytes_of, table_in, links_in}
use Rattle.schedule.specs.Sound.{sound}
use Rattle.soundness.specs.Code.Checks.{copy_sound}
use Rattle.soundness.specs.Tested.{parents_in, parents_if, sound_on}
use Rattle.soundness.proofs.Chains.{skip, last}
use Rattle.soundness.proofs.OnParts.{sound_is}
use Rattle.soundness.proofs.sound.sound.Goals.{Else-not-copy_sound, Start}
use Rattle.soundness.proofs.sound.sound.Goals as goal

module _ (r : Run) where
  abbrev answer : Option (List ℕ)
  answer = pick {A = Option (List ℕ)} (sound r) (Some (parents_in (table_in r))) None

  abbrev parts : Bool
  parts = sound_on (bytes_of r) r.workers r.quota r.next r.status r.amounts (links_in r) r.worker r.busy r.held r.highest r.turns

  no_copy : copy_sound r ≡ false → None ≡ answer
  no_copy e =
      let h : sound r ≡ false = sound_is r ∙ sym (skip parts (sym e)) in
      rw h

  -- by what the test of the parts says, q, and the parents that it leaves, l
  module _ (e : copy_sound r ≡ true) {q : Bool} (h : q ≡ parts) where
    same : q ≡ sound r
    same = last parts h e ∙ sym (sound_is r)

    right : (l : List ℕ) → l ≡ parents_if q (table_in r) → q ≡ true → Some l ≡ answer
    right l d t =
        let k : sound r ≡ true = sym same ∙ t in
        rw (d, t, k)

    wrong : q ≡ false → None ≡ answer
    wrong t =
        let k : sound r ≡ false = sym same ∙ t in
        rw k

table_size : (c : Start) → length c.args.run.table ≡ 36868
table_size c = search rules

bounds : (c : Else-not-copy_sound) → c.args.run.length ≤ 36868
bounds c = c.copy_sound.ensures.length_bound c.if-not-copy_sound.false

pub returns-then-not-copy_sound : goal.returns-then-not-copy_sound
returns-then-not-copy_sound c = no_copy _ (sym c.copy_sound.ensures.value ∙ c.if-not-copy_sound.true)

pub slice_bounds-table-end : goal.slice_bounds-table-end
slice_bounds-table-end c =
    omega (arith, bounds (goal.at.slice_bounds-table-end c).Else-not-copy_sound, table_size (goal.at.slice_bounds-table-end c).Start)

pub slice_bounds-bytes-end : goal.slice_bounds-bytes-end
slice_bounds-bytes-end c =
    sym (length-take-le c.args.run.length c.args.run.table
    (omega (arith, bounds (goal.at.slice_bounds-bytes-end c).Else-not-copy_sound, table_size (goal.at.slice_bounds-bytes-end c).Start)))

pub returns-then-passed : goal.returns-then-passed
returns-then-passed c =
    right c.args.run (sym c.copy_sound.ensures.value ∙ c.if-not-copy_sound.false) c.test_in-passed.ensures.value _ c.test_in-passed.ensures.parents_after c.if-passed.true

pub returns-else-passed : goal.returns-else-passed
returns-else-passed c =
    wrong c.args.run (sym c.copy_sound.ensures.value ∙ c.if-not-copy_sound.false) c.test_in-passed.ensures.value c.if-passed.false
