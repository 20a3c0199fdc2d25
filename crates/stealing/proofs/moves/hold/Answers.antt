-- `stealing::moves::hold` meets its contract.
use mathlib.Core.Path.{ap, ◌∙◌}
use Rattle.run_memory.specs.Places.{holding}
use Rattle.stealing.proofs.moves.hold.Goals as goal

pub returns : goal.returns
returns c = record { bytes_after = c.put_holds.ensures ∙ ap (holding c.args.w 1) c.put_status.ensures; words_after = c.put_thread.ensures }
