-- `listing::rounds::put_rounds` meets its contract: the beginning's refusal, or the report of the run.
use native.Mathlib.Omega.{arith}
use borrow.Author.Rules.{rules}
use Rattle.listing.specs.Listing.{rounded_texts}
use Rattle.text.proofs.Putting.{puts_within}
use Rattle.listing.proofs.rounds.put_rounds.Goals as goal

pub returns-in-Err : goal.returns-in-Err
unfolding rounded_texts
returns-in-Err c =
    rw (← c.begin-begun.ensures.value, c.in-Err.is) (puts_within (omega arith) c.put_answer.ensures)

pub returns : goal.returns
unfolding rounded_texts
returns c =
    rw (← c.begin-begun.ensures.value, c.in_default.is, ← c.run_rounds-ran.ensures.value) c.put_report.ensures
