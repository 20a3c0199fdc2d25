-- `wivakkol::preview::wivakkol_preview_on` meets its contract: what is foreseen is the call's preview, case by case.
use Rattle.run_memory.specs.Blocks.{memory_of}
use Rattle.wivakkol.proofs.Previews.{shows, refuses}
use Rattle.wivakkol.proofs.preview.wivakkol_preview_on.Goals as goal

pub returns-in-Ok : goal.returns-in-Ok
returns-in-Ok c =
    let a = c.args in
    shows a.table.now a.w (memory_of a.bytes.now a.words.now a.numbers.now a.sums.now) c.preview_in.ensures c.in-Ok.is c.put_preview.ensures

pub returns-in-Err : goal.returns-in-Err
returns-in-Err c =
    let a = c.args in
    refuses a.table.now a.w (memory_of a.bytes.now a.words.now a.numbers.now a.sums.now) c.preview_in.ensures c.in-Err.is
