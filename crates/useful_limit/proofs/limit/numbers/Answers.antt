-- `useful_limit::limit::numbers` meets its contract.
use Rattle.useful_limit.proofs.LimitAnswers.{numbers_are}
use borrow.Author.Rules.{rules}
use Rattle.useful_limit.proofs.limit.numbers.Goals as goal

pub parts-x-requires : goal.parts-x-requires
parts-x-requires c =
    (c.requires.0, c.requires.1)

pub parallel_at-parallel-requires : goal.parallel_at-parallel-requires
parallel_at-parallel-requires c = c.requires.0.rules

pub need-memory-requires : goal.need-memory-requires
need-memory-requires c = (c.parts-x.ensures.sums, c.requires.2)

pub returns : goal.returns
returns c = numbers_are _ _ _ _ c.parts-x.ensures.value c.need-memory.ensures c.parallel_at-parallel.ensures
