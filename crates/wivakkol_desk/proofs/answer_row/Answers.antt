-- `wivakkol_desk::answer_row` meets its contract: the answer is one of four.
use Rattle.std.specs.Prelude.{Err}
use mathlib.Core.Path.{ap, ◌∙◌}
use Rattle.wivakkol_desk.proofs.Rows.{same_row, fault_row}
use Rattle.wivakkol_desk.proofs.answer_row.Goals as goal

pub returns-in-Ok : goal.returns-in-Ok
returns-in-Ok c = let both = same_row c.args.text.now _ _ c.in-Ok.is in record { value = both.0; row_after = both.1 }

pub returns-in-TooLong : goal.returns-in-TooLong
returns-in-TooLong c = let both = same_row c.args.text.now _ _ (c.in-Err.is ∙ ap Err c.in-TooLong.is) in record { value = both.0; row_after = both.1 }

pub returns-in-Malformed : goal.returns-in-Malformed
returns-in-Malformed c = let both = fault_row c.args.text.now _ _ _ _ _ _ _ (c.in-Err.is ∙ ap Err c.in-Malformed.is) c.unseen_at.ensures c.expected_code.ensures c.expected_thread.ensures c.unseen_code-unseen.ensures in record { value = both.0; row_after = both.1 }

pub returns-in-Refused : goal.returns-in-Refused
returns-in-Refused c = let both = same_row c.args.text.now _ _ (c.in-Err.is ∙ ap Err c.in-Refused.is) in record { value = both.0; row_after = both.1 }
