-- `run_memory::preview::see_join` meets its contract: no thread of the arrays, a child that has not ended, and one that has.
use mathlib.Core.Path.{sym, ◌∙◌}
use Rattle.run_memory.specs.Blocks.{bytes_in, sums_in}
use Rattle.run_memory.proofs.Seeing.{join_outside, join_waits, join_seen}
use Rattle.run_memory.proofs.preview.see_join.Goals as goal

pub returns-then-x-ge1024 : goal.returns-then-x-ge1024
returns-then-x-ge1024 c =
    λ T W N. join_outside (bytes_in c.args.bytes.now) W N (sums_in c.args.sums.now) T c.args.t c.args.a c.args.x c.args.quota c.if-x-ge1024.true

pub returns-then-status_at-ne-ENDED : goal.returns-then-status_at-ne-ENDED
returns-then-status_at-ne-ENDED c =
    λ T W N. c.see.ensures
    ∙ join_waits (bytes_in c.args.bytes.now) W N (sums_in c.args.sums.now) T c.args.t c.args.a c.args.x c.args.quota c.if-x-ge1024.false (λ g. c.if-status_at-ne-ENDED.true (c.status_at.ensures ∙ g))

pub returns : goal.returns
returns c =
    λ T W N. c.see-2.ensures
    ∙ join_seen (bytes_in c.args.bytes.now) W N (sums_in c.args.sums.now) T c.args.t c.args.a c.args.x c.args.quota c.if-x-ge1024.false (sym c.status_at.ensures ∙ c.if-status_at-ne-ENDED.false)
    c.amount_at-own.ensures c.amount_at-child.ensures c.join_fits-fits.ensures
