-- `deque_limit::limit::numbers_for` meets its contract: no check applies to an accepted table.
use mathlib.Core.Path.{sym, ◌∙◌}
use Rattle.quota.proofs.Checks.{accepted_own}
use Rattle.useful_limit.proofs.LimitAnswers.{not_refused}
use borrow.Author.Rules.{rules}
use Rattle.deque_limit.proofs.limit.numbers_for.Goals as goal

pub numbers-requires : goal.numbers-requires
numbers-requires c = (accepted_own _ _ (sym c.load_in.ensures.value ∙ c.in_ok-facts.was), c.requires.1)

pub returns-in_err-facts : goal.returns-in_err-facts
returns-in_err-facts c = not_refused _ c.requires.0 (sym c.load_in.ensures.value ∙ c.in_err-facts.was)
