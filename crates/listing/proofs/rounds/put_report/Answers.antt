-- `listing::rounds::put_report` meets its contract: each sort of report has its line.
use native.Mathlib.Omega.{arith}
use borrow.Author.Rules.{rules}
use Rattle.lines.specs.Lines.{report_texts}
use Rattle.text.proofs.Putting.{puts_more, puts_within}
use Rattle.listing.proofs.rounds.put_report.Goals as goal

pub returns-in-Finished : goal.returns-in-Finished
unfolding report_texts
returns-in-Finished c =
    rw c.in-Finished.is (puts_within (omega arith) (puts_more c.put_totals-at.ensures c.put_held.ensures))

pub returns-in-Spent : goal.returns-in-Spent
unfolding report_texts
returns-in-Spent c =
    rw c.in-Spent.is (puts_within (omega arith) (puts_more c.put_totals-at-in-Spent.ensures c.put_held-in-Spent.ensures))

pub returns-in-Refused : goal.returns-in-Refused
unfolding report_texts
returns-in-Refused c = rw c.in-Refused.is (puts_within (omega arith) c.put_answer.ensures)
