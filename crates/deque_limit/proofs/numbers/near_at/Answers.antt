-- `deque_limit::numbers::near_at` meets its contract.
use native.Mathlib.Omega.{arith}
use Rattle.useful_limit.proofs.Gathered.{peak_given}
use Rattle.deque_limit.proofs.FromFacts.{small, near_big, near_least}
use borrow.Author.Rules.{rules}
use Rattle.deque_limit.proofs.numbers.near_at.Goals as goal

pub returns-then-quota-least_quota : goal.returns-then-quota-least_quota
returns-then-quota-least_quota c = near_big c.requires.0 _ (peak_given _ c.requires.0.rules _ _ (omega arith) c.peak_in.ensures.value c.unwrap_or-peak.ensures) c.requires.1 c.least_quota.ensures c.if-quota-least_quota.true

pub ruled-requires : goal.ruled-requires
ruled-requires c = small c.requires.0 c.requires.2

pub returns : goal.returns
returns c = near_least c.requires.0 _ (peak_given _ c.requires.0.rules _ _ (omega arith) c.peak_in.ensures.value c.unwrap_or-peak.ensures) c.least_quota.ensures c.if-quota-least_quota.false c.ruled.ensures c.min.ensures
