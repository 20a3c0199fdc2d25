-- `preview::foresee` meets its contract: what is packed is the record's memory.
use mathlib.Core.Path.{ap, ◌∙◌}
use Rattle.schedule.specs.Record.{bytes_of}
use Rattle.run_memory.specs.Memory.{Memory}
use Rattle.run_memory.specs.Preview.{foreseen_in}
use Rattle.run_memory.proofs.Packed.{table_room}
use Rattle.preview.proofs.foresee.Goals as goal

pub slice_bounds-all-end : goal.slice_bounds-all-end
slice_bounds-all-end c = table_room c.requires

pub returns : goal.returns
returns c =
    c.preview_in.ensures ∙ ap (λ (M : Memory). foreseen_in (bytes_of c.args.run) c.args.w M) c.pack.ensures
