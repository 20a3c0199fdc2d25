-- `soundness::common::test_common` meets its contract: what was used is cleared, but for the parents.
use mathlib.Core.Path.{refl}
use Rattle.soundness.proofs.common.test_common.Goals as goal

pub returns : goal.returns
returns c = let k = c.common_parts-passed.ensures in record { value = k.value; parents_after = k.parents_after; rises_after = (refl, k.falls_after, refl) }
