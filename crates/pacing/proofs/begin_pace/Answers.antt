-- `pacing::begin_pace` meets its contract: what the beginning on 260 zeros answers.
use borrow.Author.Rules.{rules}
use native.Mathlib.Omega.{arith}
use Rattle.pacing.proofs.PacedCalls.{start_small, start_refused, start_begun}
use Rattle.pacing.proofs.PacedAnswers.{begun_answers}
use Rattle.pacing.proofs.begin_pace.Goals as goal

pub overflow_cast-number : goal.overflow_cast-number
overflow_cast-number c = omega (arith, start_small _ _ c.start-number.ensures)

pub returns-then-number-ne0 : goal.returns-then-number-ne0
returns-then-number-ne0 c = let both = begun_answers _ _ (start_refused _ _ c.start-number.ensures c.if-number-ne0.true) in record { value = both.0; answer_value = both.1 }

pub returns : goal.returns
returns c = let both = begun_answers _ _ (start_begun _ _ c.start-number.ensures c.if-number-ne0.false) in record { value = both.0; answer_value = both.1 }
