-- `pacing::paced_turn` meets its contract: the turn by value, and then the pace.
use mathlib.Core.Path.{refl, sym, ◌∙◌}
use native.Mathlib.Omega.{arith}
use borrow.Author.Rules.{rules}
use Rattle.pacing.proofs.PacedCalls.{number_small, refused_err, taken_ok, refused_so, held_so, taken_so}
use Rattle.pacing.proofs.PacedAnswers.{turned_answers}
use Rattle.pacing.proofs.paced_turn.Goals as goal

pub returns-then-is_err : goal.returns-then-is_err
returns-then-is_err c = let both = turned_answers _ _ _ (refused_so _ _ _ c.turn-turned.ensures.value (refused_err _ c.is_err.ensures.value c.if-is_err.true)) in record { value = both.0; answer_value = both.1 }

pub overflow_cast-number : goal.overflow_cast-number
overflow_cast-number c = omega (arith, number_small _ _ c.hinders-number.ensures)

pub returns-then-number-ne0 : goal.returns-then-number-ne0
returns-then-number-ne0 c = let both = turned_answers _ _ _ (c.held_back.ensures ∙ held_so _ _ _ c.turn-turned.ensures.value c.hinders-number.ensures (taken_ok _ c.is_err.ensures.value c.if-is_err.false) c.if-number-ne0.true) in record { value = both.0; answer_value = both.1 }

pub returns : goal.returns
returns c = let both = turned_answers _ _ _ (taken_so _ _ _ c.turn-turned.ensures.value c.hinders-number.ensures refl (taken_ok _ c.is_err.ensures.value c.if-is_err.false) c.if-number-ne0.false c.took.ensures) in record { value = both.0; answer_value = both.1 }
