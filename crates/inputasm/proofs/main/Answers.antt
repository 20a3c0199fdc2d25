-- The input lies within its buffer.
use Rattle.std.proofs.Common.{sym}
use Rattle.inputs.proofs.Within.{made_within}
use Rattle.inputasm.proofs.main.Goals as goal

pub write_answer_or_line-requires-clause-within : goal.write_answer_or_line-requires-clause-within
write_answer_or_line-requires-clause-within c = λ text out k left made. made_within _ _ _ _ (sym made.0) made.1
