-- `wivakkol_pace::wivakkol_paced_turn_on` meets its contract: what the turn says is put into the row.
use mathlib.Core.Path.{refl}
use Rattle.run_memory.specs.Blocks.{memory_of}
use Rattle.wivakkol_pace.proofs.PacedTurns.{tells_refusal, tells}
use Rattle.wivakkol_pace.proofs.wivakkol_paced_turn_on.Goals as goal

pub returns-in-Ok : goal.returns-in-Ok
returns-in-Ok c =
    let a = c.args in
    tells a.table.now a.w (memory_of a.bytes.now a.words.now a.numbers.now a.sums.now) a.pace.now c.in-Ok.ensures.pace_after refl c.in-Ok.ensures.passed_value c.put_reply.ensures

pub returns-in-Err : goal.returns-in-Err
returns-in-Err c =
    let a = c.args in
    tells_refusal a.table.now a.w (memory_of a.bytes.now a.words.now a.numbers.now a.sums.now) a.pace.now c.in-Err.ensures.pace_after (c.in-Err.ensures.nonzero _ refl)
