-- `run_memory::preview::preview_in` meets its contract: hindered, or foreseen.
use mathlib.Core.Path.{refl, ◌∙◌}
use Rattle.run_memory.specs.Blocks.{memory_of}
use Rattle.run_memory.proofs.Takes.{asked_hindrance, free, refused_as, err_is}
use Rattle.run_memory.proofs.Foreseeing.{is_hindered, is_taken}
use Rattle.run_memory.proofs.preview.preview_in.Goals as goal

pub returns-in_err-hindrance : goal.returns-in_err-hindrance
returns-in_err-hindrance c =
    let f = refused_as _ c.hindrance.ensures c.in_err-hindrance.was in
    err_is c.from_residual.result c.from_residual.ensures
    ∙ is_hindered c.args.table.now c.args.w (memory_of c.args.bytes.now c.args.words.now c.args.numbers.now c.args.sums.now) (asked_hindrance c.args.w c.total_at.ensures c.setting_at.ensures c.status_at.ensures f.0) f.1

pub returns : goal.returns
returns c =
    let f = free _ c.hindrance.ensures c.in_ok-hindrance.was in
    is_taken c.args.table.now c.args.w (memory_of c.args.bytes.now c.args.words.now c.args.numbers.now c.args.sums.now) (asked_hindrance c.args.w c.total_at.ensures c.setting_at.ensures c.status_at.ensures refl) f c.foresee.ensures
