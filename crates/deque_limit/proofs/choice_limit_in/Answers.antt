-- `deque_limit::choice_limit_in` meets its contract: the answer, and then the working memory is cleared.
use mathlib.Core.Path.{refl}
use borrow.Author.Rules.{rules}
use Rattle.deque_limit.proofs.choice_limit_in.Goals as goal

pub returns : goal.returns
returns c = record { value = c.choice_answer-answer.ensures.value; filled_after = c.choice_answer-answer.ensures.filled_after; rises_after = (refl, refl, refl, refl, refl, refl) }
