-- `asyncdf::beginning::blank` meets its contract: field by field, the arrays of one value are what the definition repeats.
use mathlib.Core.Path.{refl}
use Rattle.schedule.specs.Record.{blank}
use Rattle.asyncdf.proofs.beginning.blank.Goals as goal

pub returns : goal.returns
unfolding blank
returns c = refl
