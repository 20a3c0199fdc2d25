-- `rows::moved` meets its contract.
use mathlib.Core.Path.{refl}
use Rattle.rows.specs.Rows.{moved_by}
use Rattle.rows.proofs.Renamed.{named_thread, unnamed}
use Rattle.rows.proofs.moved.Goals as goal

pub returns-in-Fork : goal.returns-in-Fork
returns-in-Fork c = named_thread _ (moved_by c.args.o) c.args.x _ c.in-Fork.is refl

pub returns-in_default : goal.returns-in_default
returns-in_default c = unnamed _ (moved_by c.args.o) c.args.x c.in_default.not-Fork c.in_default.not-Join
