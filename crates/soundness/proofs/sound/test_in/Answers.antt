-- `soundness::sound::test_in` meets its contract: the parents stand where the parts are sound, and the rest is cleared.
use mathlib.Core.Path.{◌≡◌, refl}
use mathlib.Core.List.{List}
use mathlib.Core.Bool.{Bool, true, false}
use Prim.Native.Nat.{ℕ}
use lib.ListN.{replicate}
use Rattle.table.specs.Format.{Table, table_of}
use Rattle.soundness.specs.Tested.{parents_in, parents_if}
use Rattle.soundness.proofs.sound.test_in.Goals as goal

no_parents : (q : Bool) (T : Table) → q ≡ false → replicate 1024 0 ≡ parents_if q T
no_parents q T e = rw e

its_parents : (q : Bool) (T : Table) {l : List ℕ} → q ≡ true → l ≡ parents_in T → l ≡ parents_if q T
its_parents q T e h = rw e h

pub returns-then-not-passed : goal.returns-then-not-passed
returns-then-not-passed c = let k = c.sound_parts-passed.ensures in record { value = k.value; parents_after = no_parents c.sound_parts-passed.result (table_of c.args.table.now) c.if-not-passed.true; rises_after = k.rises_after; forks_after = (refl, refl) }

pub returns-else-not-passed : goal.returns-else-not-passed
returns-else-not-passed c = let k = c.sound_parts-passed.ensures in
    let e = c.if-not-passed.false in record { value = k.value; parents_after = its_parents c.sound_parts-passed.result (table_of c.args.table.now) e (k.parents_after e); rises_after = k.rises_after; forks_after = (refl, refl) }
