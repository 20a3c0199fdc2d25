-- The table lies within its buffer.
use Rattle.std.proofs.Common.{Ok, rules, refl}
use Rattle.filling.proofs.Measured.{answer_within}
use Rattle.filltable.proofs.main.Goals as goal

pub write_answer_or_line-requires-clause-within : goal.write_answer_or_line-requires-clause-within
write_answer_or_line-requires-clause-within c = λ text out k left made. answer_within text.now out.now left.now (Ok k) k (search rules) refl (search rules)
