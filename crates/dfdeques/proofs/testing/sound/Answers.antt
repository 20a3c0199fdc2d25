-- `dfdeques::testing::sound` meets its contract: a record is sound where its parts are and its table is a copy of the bytes in use.
use Rattle.std.proofs.Common.{ap, not}
use Rattle.std.specs.Prelude.{Option, None, Some}
use mathlib.Core.Path.{◌≡◌, sym, ◌∙◌}
use Prim.Native.Nat.{ℕ, ◌≤◌}
use mathlib.Core.List.{List}
use mathlib.Core.Bool.{Bool, true, false}
use native.Mathlib.Omega.{arith}
use borrow.Author.Rules.{rules}
use lib.ListN.{length}
use lib.Seq.{length-take-le}
use Rattle.table.specs.Sum.{pick}
use Rattle.schedule.specs.Record.{bytes_of, table_in, links_in}
use Rattle.soundness.specs.Code.Checks.{copy_sound}
use Rattle.soundness.specs.Tested.{parents_in, parents_if}
use Rattle.soundness.proofs.Chains.{off, on, skip, last}
use Rattle.deques.specs.declared.DequeRun.{DequeRun}
use Rattle.deques.specs.DequeRecord.{bottoms_in}
use Rattle.deques.specs.DequeSound.{deque_sound}
use Rattle.dequetest.specs.DequeTested.{deque_sound_on}
use Rattle.dequetest.proofs.DequeOnParts.{deque_sound_is}
use Rattle.dfdeques.proofs.testing.sound.Goals as goal

module _ (r : DequeRun) where
  abbrev answer : Option (List ℕ)
  answer = pick {A = Option (List ℕ)} (deque_sound r) (Some (parents_in (table_in r.run))) None

  abbrev parts : Bool
  parts =
      deque_sound_on (bytes_of r.run) r.run.workers r.run.quota r.run.next r.run.status r.run.amounts (links_in r.run) (bottoms_in r) r.run.worker r.run.busy r.run.held r.run.highest
      r.run.turns

  no_copy : copy_sound r.run ≡ false → None ≡ answer
  no_copy e =
      let h : deque_sound r ≡ false = deque_sound_is r ∙ sym (skip parts (sym e)) in
      rw h

  -- by what the test of the parts says, q, and the parents that it leaves, l
  module _ (e : copy_sound r.run ≡ true) {q : Bool} (h : q ≡ parts) where
    same : q ≡ deque_sound r
    same = last parts h e ∙ sym (deque_sound_is r)

    right : (l : List ℕ) → l ≡ parents_if q (table_in r.run) → q ≡ true → Some l ≡ answer
    right l d t =
        let k : deque_sound r ≡ true = sym same ∙ t in
        rw (d, t, k)

    wrong : q ≡ false → None ≡ answer
    wrong t =
        let k : deque_sound r ≡ false = sym same ∙ t in
        rw k

pub returns-then-not-copy_sound : goal.returns-then-not-copy_sound
returns-then-not-copy_sound c = no_copy _ (off c.copy_sound.ensures.value (ap not c.if-not-copy_sound.true))

pub returns-then-passed : goal.returns-then-passed
returns-then-passed c =
    right c.args.run (on c.copy_sound.ensures.value (ap not c.if-not-copy_sound.false)) c.deque_test_in-passed.ensures.value _ c.deque_test_in-passed.ensures.parents_after c.if-passed.true

pub returns-else-passed : goal.returns-else-passed
returns-else-passed c =
    wrong c.args.run (on c.copy_sound.ensures.value (ap not c.if-not-copy_sound.false)) c.deque_test_in-passed.ensures.value c.if-passed.false
