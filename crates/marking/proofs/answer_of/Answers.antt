-- `marking::answer_of` meets its contract: the number, with the place 0.
use mathlib.Core.Path.{refl, sym, ap}
use borrow.Author.Rules.{rules}
use borrow.Author.Tests.{ne_eqb}
use Rattle.wivakkol_marks.specs.MarkedIn.{numbered}
use Rattle.marking.proofs.answer_of.Goals as goal

pub returns-then-number-eq0 : goal.returns-then-number-eq0
returns-then-number-eq0 c = record { result_value = ap numbered (sym c.if-number-eq0.true); result_value_2 = refl }

pub returns : goal.returns
returns c = record { result_value = refl; result_value_2 = sym (ne_eqb _ _ c.if-number-eq0.false) }
