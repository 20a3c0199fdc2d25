-- `wivakkol_pace::runs::wivakkol_paced_list_on` meets its contract: where the run stopped is put into the row.
use mathlib.Core.Path.{◌∙◌}
use Rattle.run_memory.specs.Blocks.{memory_of}
use Rattle.wivakkol_pace.proofs.PacedDrives.{put, list_is}
use Rattle.wivakkol_pace.proofs.runs.wivakkol_paced_list_on.Goals as goal

pub returns : goal.returns
returns c =
    let d = c.args in
    put _ _ _ c.run_in-stop.ensures.run_value c.run_in-stop.ensures.nonzero c.put_run.ensures.value c.put_run.ensures.row_after
    ∙ list_is d.table.now d.order.now (memory_of d.bytes.now d.words.now d.numbers.now d.sums.now) d.pace.now
