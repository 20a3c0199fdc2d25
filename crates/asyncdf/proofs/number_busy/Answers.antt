-- `asyncdf::number_busy` meets its contract: of a record that is sound, turns taken apart, the ones of the set are the workers that hold a thread.
use Rattle.schedule.proofs.Soundness.{busy_count}
use mathlib.Core.Path.{refl}
use Rattle.asyncdf.proofs.number_busy.Goals as goal

pub returns : goal.returns
returns c = record { value = refl; value_2 = busy_count c.args.run }
