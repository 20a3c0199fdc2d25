-- The joined table lies within its buffer.
use Rattle.std.proofs.Common.{rules, refl}
use Rattle.joining.proofs.JoinGiven.{given_within}
use Rattle.joining.specs.Given.{joined_given}
use Rattle.jointables.proofs.main.Goals as goal

pub write_answer_or_line-requires-clause-within : goal.write_answer_or_line-requires-clause-within
write_answer_or_line-requires-clause-within c = λ text out k left made. (given_within text.now out.now (joined_given text.now) left.now k refl (search rules) (search rules)).0
