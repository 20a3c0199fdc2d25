-- `useful_limit::limit_in` meets its contract: the answer, and then the working memory is cleared.
use mathlib.Core.Path.{refl}
use borrow.Author.Rules.{rules}
use Rattle.useful_limit.proofs.limit_in.Goals as goal

pub returns : goal.returns
returns c = let e = c.limit_answer-answer.ensures in record { value = e.value; filled_after = e.filled_after; rises_after = (refl, refl, refl, refl, refl, refl) }
