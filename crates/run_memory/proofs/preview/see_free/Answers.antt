-- `run_memory::preview::see_free` meets its contract: the test decides, and what passed it can be taken away.
use mathlib.Core.Path.{◌∙◌}
use Rattle.run_memory.specs.Blocks.{sums_in}
use Rattle.run_memory.proofs.Seeing.{free_unfit, free_done}
use Rattle.run_memory.proofs.preview.see_free.Goals as goal

pub returns-then-not-free_fits : goal.returns-then-not-free_fits
returns-then-not-free_fits c =
    λ T B W N. free_unfit B W N (sums_in c.args.sums.now) T c.args.t c.args.a c.args.x c.args.quota c.amount_at-own.ensures c.total_at-all.ensures c.free_fits.ensures c.if-not-free_fits.true

pub returns : goal.returns
returns c =
    λ T B W N. c.see_holding.ensures
    ∙ free_done B W N (sums_in c.args.sums.now) T c.args.t c.args.a c.args.x c.args.quota c.amount_at-own.ensures c.total_at-all.ensures c.free_fits.ensures c.if-not-free_fits.false
