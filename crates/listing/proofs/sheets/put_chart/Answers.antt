-- `listing::sheets::put_chart` meets its contract: the beginning's refusal, or the chart of the run.
use native.Mathlib.Omega.{arith}
use borrow.Author.Rules.{rules}
use Rattle.text.proofs.Putting.{puts_within}
use Rattle.chart.specs.Turns.{chart_turns}
use Rattle.listing.specs.Listing.{walled_by}
use Rattle.listing.proofs.sheets.put_chart.Goals as goal

pub returns-in-Err : goal.returns-in-Err
unfolding walled_by
returns-in-Err c =
    rw (← c.begin-begun.ensures.value, c.in-Err.is) (puts_within (omega arith) c.put_answer.ensures)

pub returns : goal.returns
unfolding walled_by chart_turns
returns c =
    rw (← c.begin-begun.ensures.value, c.in_default.is) c.chart_turns.ensures
