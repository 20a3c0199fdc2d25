-- `wivakkol_marks::clear` meets its contract: each array is written all over.
use mathlib.Core.Path.{refl}
use Rattle.wivakkol_marks.proofs.clear.Goals as goal

pub returns : goal.returns
returns c = (refl, refl, refl, refl, refl, refl, refl, refl, refl, refl, refl, refl, refl, refl)
