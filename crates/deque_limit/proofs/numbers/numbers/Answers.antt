-- `deque_limit::numbers::numbers` meets its contract.
use native.Mathlib.Omega.{arith}
use Rattle.useful_limit.proofs.Gathered.{peak_given}
use Rattle.deque_limit.proofs.FromFacts.{bounds_one, bounds_more}
use borrow.Author.Rules.{rules}
use Rattle.deque_limit.proofs.numbers.numbers.Goals as goal

pub returns-then-c-eq1 : goal.returns-then-c-eq1
returns-then-c-eq1 c = bounds_one _ _ c.near_at-near.ensures c.if-c-eq1.true

pub returns : goal.returns
returns c = bounds_more _ _ c.near_at-near.ensures c.if-c-eq1.false (peak_given _ c.requires.0.rules _ _ (omega arith) c.peak_in.ensures.value c.unwrap_or-memory.ensures)
