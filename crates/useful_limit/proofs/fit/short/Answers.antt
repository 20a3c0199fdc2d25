-- `useful_limit::fit::short` meets its contract.
use Rattle.useful_limit.proofs.Steps.{cover_wide, cover_less, cover_more}
use borrow.Author.Rules.{rules}
use Rattle.useful_limit.proofs.fit.short.Goals as goal

pub returns-then-cover-gt16777215 : goal.returns-then-cover-gt16777215
returns-then-cover-gt16777215 c = cover_wide _ c.max-cover.ensures c.if-cover-gt16777215.true c.short_at.ensures

pub returns-then-need : goal.returns-then-need
returns-then-need c = cover_less _ c.max-cover.ensures c.if-cover-gt16777215.false c.need.ensures c.need-2.ensures c.if-need.true c.short_at-then-need.ensures

pub returns : goal.returns
returns c = cover_more _ c.max-cover.ensures c.if-cover-gt16777215.false c.need.ensures c.need-2.ensures c.if-need.false c.short_at-2.ensures
