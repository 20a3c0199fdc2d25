-- `dequetest::sound::deque_test_in` meets its contract: the parents stand where the parts are sound, and the rest is cleared.
use mathlib.Core.Path.{◌≡◌, refl}
use mathlib.Core.List.{List}
use mathlib.Core.Bool.{Bool, true, false}
use Prim.Native.Nat.{ℕ}
use borrow.Author.Rules.{rules}
use lib.ListN.{replicate}
use Rattle.table.specs.Format.{Table, table_of}
use Rattle.soundness.specs.Tested.{parents_in, parents_if}
use Rattle.dequetest.proofs.sound.deque_test_in.Goals as goal

no_parents : (q : Bool) (T : Table) → q ≡ false → replicate 1024 0 ≡ parents_if q T
no_parents q T e = rw e

its_parents : (q : Bool) (T : Table) {l : List ℕ} → q ≡ true → l ≡ parents_in T → l ≡ parents_if q T
its_parents q T e h = rw e h

pub returns-then-not-passed : goal.returns-then-not-passed
returns-then-not-passed c = record { value = c.sound_parts-passed.ensures.value; parents_after = no_parents c.sound_parts-passed.result (table_of c.args.table.now) c.if-not-passed.true; rises_after = c.sound_parts-passed.ensures.rises_after; forks_after = (refl, refl) }

pub returns-else-not-passed : goal.returns-else-not-passed
returns-else-not-passed c = let e = c.if-not-passed.false in record { value = c.sound_parts-passed.ensures.value; parents_after = its_parents c.sound_parts-passed.result (table_of c.args.table.now) e (c.sound_parts-passed.ensures.parents_after e); rises_after = c.sound_parts-passed.ensures.rises_after; forks_after = (refl, refl) }
