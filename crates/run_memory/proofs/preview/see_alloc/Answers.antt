-- `run_memory::preview::see_alloc` meets its contract: beyond the quota, where a number does not fit, and within both.
use mathlib.Core.Path.{◌∙◌}
use Rattle.run_memory.specs.Blocks.{numbers_in, sums_in}
use Rattle.run_memory.proofs.Acts.{share}
use Rattle.run_memory.proofs.Seeing.{alloc_beyond, alloc_unfit, alloc_done}
use Rattle.run_memory.proofs.preview.see_alloc.Goals as goal

pub returns-then-quota-share : goal.returns-then-quota-share
returns-then-quota-share c =
    λ T B W. c.see.ensures ∙ alloc_beyond B W (numbers_in c.args.numbers.now) (sums_in c.args.sums.now) T c.args.t c.args.a c.args.x c.args.quota (share c.args.x c.setting_at.ensures c.drawn-share.ensures) c.if-quota-share.true

pub returns-then-not-alloc_fits : goal.returns-then-not-alloc_fits
returns-then-not-alloc_fits c =
    λ T B W. alloc_unfit B W (numbers_in c.args.numbers.now) (sums_in c.args.sums.now) T c.args.t c.args.a c.args.x c.args.quota c.amount_at-own.ensures c.total_at-all.ensures (share c.args.x c.setting_at.ensures c.drawn-share.ensures) c.if-quota-share.false c.alloc_fits.ensures c.if-not-alloc_fits.true

pub returns : goal.returns
returns c =
    λ T B W. c.see_holding.ensures
    ∙ alloc_done B W (numbers_in c.args.numbers.now) (sums_in c.args.sums.now) T c.args.t c.args.a c.args.x c.args.quota c.amount_at-own.ensures c.total_at-all.ensures (share c.args.x c.setting_at.ensures c.drawn-share.ensures) c.if-quota-share.false c.alloc_fits.ensures c.if-not-alloc_fits.false
