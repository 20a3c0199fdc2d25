-- The table lies within its buffer.
use Rattle.std.proofs.Common.{sym}
use Rattle.assembly.proofs.Within.{written_within}
use Rattle.tableasm.proofs.main.Goals as goal

pub write_answer_or_line-requires-clause-within : goal.write_answer_or_line-requires-clause-within
write_answer_or_line-requires-clause-within c = λ text out k left made. written_within _ _ _ _ (sym made.0) made.1
